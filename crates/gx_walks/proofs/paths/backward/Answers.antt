use Rattle.std.proofs.Common.{◌≤◌, ◌+◌, ◌*◌, ◌∙◌, List, filter, sym, ap, subst}
use Rattle.gx_commands.specs.declared.command.Find.{Find}
use Rattle.gx_commands.specs.Paths.{IsByKey}
use Rattle.gx_model.specs.States.{Row}
use Rattle.gx_model.specs.Paths.{chosen, last_find}
use Rattle.gx_walks.specs.Walks.{back_legs, comes_back, all_met}
use Rattle.gx_walks.proofs.LegLemmas.{last_by_key}
use Rattle.gx_walks.proofs.StepLemmas.{begun, on_ok_map, if_ok_map}
use Rattle.gx_walks.proofs.WayBack.{either}
use Rattle.gx_walks.proofs.paths.backward.Goals as goal

pub records-requires-clause-find : goal.records-requires-clause-find
records-requires-clause-find g c =
    let schema = g.R.LinkReader.schema c.args.reader.now in
    subst (IsByKey schema) (sym c.last_find.ensures)
    (last_by_key schema c.args.first.now c.args.legs.now c.requires.first c.requires.legs)

pub returns-clause-set : goal.returns-clause-set
returns-clause-set g c = λ s holds.
    let laws = g.met.R.LinkReader in
    let own = c.in_ok-rows.ensures in
    let first = c.args.first.now in
    let legs = c.args.legs.now in
    if_ok_map c.keep_led.result (λ kept is.
    is ∙ ap (filter (comes_back s first legs)) (own.found s holds
    ∙ ap (chosen s) c.last_find.ensures)
    ∙ sym (either s first legs))
    (c.keep_led.ensures.set s (laws.keeps_state _ _ s own.calls holds))

pub returns-clause-steps : goal.returns-clause-steps
returns-clause-steps g c = λ s costs holds price finds.
    let r = g.R.LinkReader in
    let laws = g.met.R.LinkReader in
    let mid = c.records.new.self in
    let own = c.in_ok-rows.ensures in
    let back = back_legs c.args.first.now c.args.legs.now in
    let last = last_find c.args.first.now c.args.legs.now in
    on_ok_map c.keep_led.result (λ le.
    begun (r.work c.args.reader.now) (r.work mid) (r.work c.keep_led.new.reader)
    (costs.candidates last) (all_met s back (chosen s last)) costs.look_up
    (subst (λ (q : Find). r.work mid ≤ r.work c.args.reader.now
    + 2 * (costs.candidates q + 1) * costs.look_up) c.last_find.ensures
    (own.steps s costs holds price))
    (subst (λ (l : List Row). r.work c.keep_led.new.reader ≤ r.work mid
    + 2 * all_met s back l * costs.look_up) (own.found s holds ∙ ap (chosen s) c.last_find.ensures)
    le))
    (c.keep_led.ensures.steps s costs (laws.keeps_state _ _ s own.calls holds)
    (laws.keeps_costs _ _ s costs own.calls price) finds)

pub keep_led-requires-clause-serving : goal.keep_led-requires-clause-serving
keep_led-requires-clause-serving g c = g.met.R.LinkReader.at_rest _ _ c.in_ok-rows.ensures.calls
