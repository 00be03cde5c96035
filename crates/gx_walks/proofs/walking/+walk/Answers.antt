use Rattle.std.proofs.Common.{◌≡◌, ◌≤◌, ◌+◌, ◌*◌, ◌∷◌, ◌-◌, List, take, drop, length, sym, subst, arith, rules}
use Rattle.std.specs.Prelude.{Ok}
use Rattle.std.specs.List.{AllByRecursion}
use Rattle.gx_schema.specs.declared.schema.Schema.{Schema}
use Rattle.gx_commands.specs.declared.path.Leg.{Leg}
use Rattle.gx_model.specs.States.{Row}
use Rattle.gx_model.specs.Paths.{after_leg}
use Rattle.gx_walks.specs.Walks.{met, all_linked}
use Rattle.gx_walks.specs.Readers.{AreFound, IsLegOf}
use Rattle.gx_walks.proofs.StepLemmas.{joined, split_first, on_ok_map}
use Rattle.gx_walks.proofs.walking.+walk.Goals as goal

pub returns-in_ok-set-in-len1-up-clause-steps : goal.returns-in_ok-set-in-len1-up-clause-steps
returns-in_ok-set-in-len1-up-clause-steps g t c = λ s costs holds price finds.
    let r = g.R.LinkReader in
    let laws = g.met.R.LinkReader in
    let mid = c.follow-in-len1-up.new.reader in
    let leg : Leg = c.leg-item-2.result in
    let rest : List Leg = take (length c.args.legs.now - 1) (drop 1 c.args.legs.now) in
    let rows : List Row = c.args.rows.now in
    let own = c.in_ok-set-in-len1-up.ensures in
    let legs : c.args.legs.now ≡ leg ∷ rest =
    split_first c.args.legs.now leg c.leg-item-2.is
    (omega (arith, c.in-len1-up.len_at_least)) in
    let all : AreFound costs.finds (leg ∷ rest) = subst (AreFound costs.finds) legs finds in
    let set : c.deref.result.now ≡ after_leg s leg rows = search rules in
    on_ok_map c.walk.result (λ le.
    subst (λ (l : List Leg). r.work c.walk.new.reader ≤ r.work c.args.reader.now
    + 2 * met s l rows * costs.look_up) (sym legs)
    (joined (r.work c.args.reader.now) (r.work mid) (r.work c.walk.new.reader)
    (length rows + length (all_linked s leg.find.file leg.way rows))
    (met s rest (after_leg s leg rows)) costs.look_up
    (own.steps s costs holds price all.0)
    (subst (λ (l : List Row). r.work c.walk.new.reader ≤ r.work mid
    + 2 * met s rest l * costs.look_up) set le)))
    (c.walk.ensures.steps s costs (laws.keeps_state _ _ s own.calls holds)
    (laws.keeps_costs _ _ s costs own.calls price) all.1)

pub walk-requires : goal.walk-requires
walk-requires g t c κs within =
    let r = g.R.LinkReader in
    let laws = g.met.R.LinkReader in
    let own = c.in_ok-set-in-len1-up.ensures in
    let schema = r.schema c.args.reader.now in
    let mid = c.follow-in-len1-up.new.reader in
    let leg : Leg = c.leg-item-2.result in
    let rest : List Leg = take (length c.args.legs.now - 1) (drop 1 c.args.legs.now) in
    let legs : c.args.legs.now ≡ leg ∷ rest =
    split_first c.args.legs.now leg c.leg-item-2.is
    (omega (arith, c.in-len1-up.len_at_least)) in
    let ready : r.ready mid = laws.stays_ready _ _ _ own.calls c.requires.ready in
    let serving : r.calls mid mid (Ok tt) = laws.at_rest _ _ own.calls in
    let all : AllByRecursion (IsLegOf (r.schema mid)) rest =
    subst (λ (s : Schema). AllByRecursion (IsLegOf s) rest) (sym (laws.keeps_schema _ _ _ own.calls))
    (subst (AllByRecursion (IsLegOf schema)) legs c.requires.legs).1 in
    search rules
