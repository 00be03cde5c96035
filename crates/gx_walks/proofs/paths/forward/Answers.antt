use Rattle.std.proofs.Common.{◌≡◌, ◌≤◌, ◌+◌, ◌*◌, List, sym, subst, rules}
use Rattle.std.specs.List.{AllByRecursion}
use Rattle.gx_schema.specs.declared.schema.Schema.{Schema}
use Rattle.gx_model.specs.States.{Row}
use Rattle.gx_model.specs.Paths.{chosen}
use Rattle.gx_walks.specs.Walks.{met}
use Rattle.gx_walks.specs.Readers.{IsLegOf}
use Rattle.gx_walks.proofs.LegLemmas.{legs_of_path}
use Rattle.gx_walks.proofs.StepLemmas.{begun, on_ok_map}
use Rattle.gx_walks.proofs.paths.forward.Goals as goal

pub walk-requires-clause-legs : goal.walk-requires-clause-legs
walk-requires-clause-legs g c =
    let r = g.R.LinkReader in
    subst (λ (schema : Schema). AllByRecursion (IsLegOf schema) c.args.legs.now)
    (sym (g.met.R.LinkReader.keeps_schema _ _ _ c.in_ok-rows.ensures.calls))
    (legs_of_path (r.schema c.args.reader.now) c.args.first.now.file c.args.legs.now
    c.requires.legs)

pub returns-clause-steps : goal.returns-clause-steps
returns-clause-steps g c = λ s costs holds price finds.
    let r = g.R.LinkReader in
    let laws = g.met.R.LinkReader in
    let mid = c.records.new.self in
    let own = c.in_ok-rows.ensures in
    let first = chosen s c.args.first.now in
    let set : c.deref.result.now ≡ first = search rules in
    on_ok_map c.walk.result (λ le.
    begun (r.work c.args.reader.now) (r.work mid) (r.work c.walk.new.reader)
    (costs.candidates c.args.first.now) (met s c.args.legs.now first) costs.look_up
    (own.steps s costs holds price)
    (subst (λ (l : List Row). r.work c.walk.new.reader ≤ r.work mid
    + 2 * met s c.args.legs.now l * costs.look_up) set le))
    (c.walk.ensures.steps s costs (laws.keeps_state _ _ s own.calls holds)
    (laws.keeps_costs _ _ s costs own.calls price) finds)

pub walk-requires-clause-serving : goal.walk-requires-clause-serving
walk-requires-clause-serving g c = g.met.R.LinkReader.at_rest _ _ c.in_ok-rows.ensures.calls
