use Rattle.std.proofs.Common.{◌≡◌, ◌≤◌, ◌+◌, ◌*◌, ◌-◌, ◌∷◌, ◌++◌, ◌∙◌, [], ℕ, List, take, length, length-take, sym, ap, subst, arith, rules}
use Rattle.std.specs.Prelude.{Ok}
use Rattle.gx_schema.specs.declared.schema.Schema.{Schema}
use Rattle.gx_commands.specs.declared.command.Find.{Find}
use Rattle.gx_commands.specs.declared.path.Way.{Way}
use Rattle.gx_commands.specs.declared.path.Leg.{Leg}
use Rattle.gx_commands.specs.Paths.{AreLegsFrom}
use Rattle.gx_model.specs.States.{Row}
use Rattle.gx_model.specs.Paths.{after_leg, after_legs, last_find}
use Rattle.gx_walks.specs.Walks.{way_back, back_legs, met, all_linked}
use Rattle.gx_walks.specs.Readers.{IsLegOf, IsFound, AreFound}
use Rattle.gx_walks.proofs.LegLemmas.{before_last, leg_back, back_last}
use Rattle.gx_walks.proofs.StepLemmas.{joined, split_last, on_ok_map, if_ok_map}
use Rattle.gx_walks.proofs.back.+walk_back.Goals as goal

pub follow-requires-in-len1-up-clause-leg : goal.follow-requires-in-len1-up-clause-leg
follow-requires-in-len1-up-clause-leg g t c =
    let schema = g.R.LinkReader.schema c.args.reader.now in
    let first = c.args.first.now in
    let leg : Leg = c.leg-item-2.result in
    let before : List Leg = take (length c.args.legs.now - 1) c.args.legs.now in
    let split : c.args.legs.now ≡ before ++ leg ∷ [] =
    split_last c.args.legs.now leg c.leg-item-2.is (omega (arith, c.in-len1-up.len_at_least)) in
    subst (λ (w : Way). IsLegOf schema (record { way = w; find = c.last_find-find.result.now }))
    (sym c.way_back-in-len1-up.ensures)
    (subst (λ (q : Find). IsLegOf schema (record { way = way_back leg.way; find = q }))
    (sym c.last_find-find.ensures)
    (leg_back schema first before leg (subst (AreLegsFrom schema first.file) split c.requires.legs)))

pub walk_back-requires : goal.walk_back-requires
walk_back-requires g t c κs within =
    let r = g.R.LinkReader in
    let laws = g.met.R.LinkReader in
    let own = c.in_ok-set-in-len1-up.ensures in
    let schema = r.schema c.args.reader.now in
    let first = c.args.first.now in
    let leg : Leg = c.leg-item-2.result in
    let before : List Leg = take (length c.args.legs.now - 1) c.args.legs.now in
    let split : c.args.legs.now ≡ before ++ leg ∷ [] =
    split_last c.args.legs.now leg c.leg-item-2.is (omega (arith, c.in-len1-up.len_at_least)) in
    let ready : r.ready c.follow-in-len1-up.new.reader =
    laws.stays_ready _ _ _ own.calls c.requires.ready in
    let serving : r.calls c.follow-in-len1-up.new.reader c.follow-in-len1-up.new.reader (Ok tt) =
    laws.at_rest _ _ own.calls in
    let legs : AreLegsFrom (r.schema c.follow-in-len1-up.new.reader) first.file before =
    subst (λ (s : Schema). AreLegsFrom s first.file before) (sym (laws.keeps_schema _ _ _ own.calls))
    (before_last schema first.file before leg
    (subst (AreLegsFrom schema first.file) split c.requires.legs)) in
    let long : length before ≡ length c.args.legs.now - 1 =
    omega (arith, length-take (length c.args.legs.now - 1) c.args.legs.now) in
    search rules

pub returns-in_ok-set-in-len1-up-clause-set : goal.returns-in_ok-set-in-len1-up-clause-set
returns-in_ok-set-in-len1-up-clause-set g t c = λ s holds.
    let laws = g.met.R.LinkReader in
    let own = c.in_ok-set-in-len1-up.ensures in
    let first = c.args.first.now in
    let rows : List Row = c.args.rows.now in
    let leg : Leg = c.leg-item-2.result in
    let before : List Leg = take (length c.args.legs.now - 1) c.args.legs.now in
    let split : c.args.legs.now ≡ before ++ leg ∷ [] =
    split_last c.args.legs.now leg c.leg-item-2.is (omega (arith, c.in-len1-up.len_at_least)) in
    let back : Leg = record { way = way_back leg.way; find = last_find first before } in
    let all : back_legs first c.args.legs.now ≡ back ∷ back_legs first before =
    ap (back_legs first) split ∙ back_last first before leg in
    let set : c.deref.result.now ≡ after_leg s back rows =
    c.deref.ensures.value ∙ own.set s holds
    ∙ (λ k. after_leg s (record {
      way = c.way_back-in-len1-up.ensures k;
      find = c.last_find-find.ensures k;
    }) rows) in
    if_ok_map c.walk_back.result (λ x is.
    is ∙ ap (after_legs s (back_legs first before)) set
    ∙ ap (λ (ls : List Leg). after_legs s ls rows) (sym all))
    (c.walk_back.ensures.set s (laws.keeps_state _ _ s own.calls holds))

pub returns-in_ok-set-in-len1-up-clause-steps : goal.returns-in_ok-set-in-len1-up-clause-steps
returns-in_ok-set-in-len1-up-clause-steps g t c = λ s costs holds price finds.
    let r = g.R.LinkReader in
    let laws = g.met.R.LinkReader in
    let own = c.in_ok-set-in-len1-up.ensures in
    let mid = c.follow-in-len1-up.new.reader in
    let first = c.args.first.now in
    let rows : List Row = c.args.rows.now in
    let leg : Leg = c.leg-item-2.result in
    let before : List Leg = take (length c.args.legs.now - 1) c.args.legs.now in
    let split : c.args.legs.now ≡ before ++ leg ∷ [] =
    split_last c.args.legs.now leg c.leg-item-2.is (omega (arith, c.in-len1-up.len_at_least)) in
    let back : Leg = record { way = way_back leg.way; find = last_find first before } in
    let all : back_legs first c.args.legs.now ≡ back ∷ back_legs first before =
    ap (back_legs first) split ∙ back_last first before leg in
    let way : c.way_back-in-len1-up.result ≡ way_back leg.way = c.way_back-in-len1-up.ensures in
    let find : c.last_find-find.result.now ≡ last_find first before = c.last_find-find.ensures in
    let found : AreFound costs.finds (back ∷ back_legs first before) =
    subst (AreFound costs.finds) all finds in
    let set : c.deref.result.now ≡ after_leg s back rows =
    c.deref.ensures.value ∙ own.set s holds
    ∙ (λ k. after_leg s (record { way = way k; find = find k }) rows) in
    let pairs : length (all_linked s c.last_find-find.result.now.file c.way_back-in-len1-up.result rows)
    ≡ length (all_linked s back.find.file back.way rows) =
    (λ k. length (all_linked s (find k).file (way k) rows)) in
    on_ok_map c.walk_back.result (λ le.
    subst (λ (l : List Leg). r.work c.walk_back.new.reader ≤ r.work c.args.reader.now
    + 2 * met s l rows * costs.look_up) (sym all)
    (joined (r.work c.args.reader.now) (r.work mid) (r.work c.walk_back.new.reader)
    (length rows + length (all_linked s back.find.file back.way rows))
    (met s (back_legs first before) (after_leg s back rows)) costs.look_up
    (subst (λ (n : ℕ). r.work mid ≤ r.work c.args.reader.now
    + 2 * (length rows + n) * costs.look_up) pairs
    (own.steps s costs holds price (subst (IsFound costs.finds) (sym way) found.0)))
    (subst (λ (l : List Row). r.work c.walk_back.new.reader ≤ r.work mid
    + 2 * met s (back_legs first before) l * costs.look_up) set le)))
    (c.walk_back.ensures.steps s costs (laws.keeps_state _ _ s own.calls holds)
    (laws.keeps_costs _ _ s costs own.calls price) found.1)
