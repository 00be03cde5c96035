use Rattle.std.proofs.Common.{◌≡◌, ◌≤◌, ◌+◌, ◌*◌, ◌∙◌, ℕ, sym, subst}
use Rattle.gx_walks.specs.declared.directions.Direction.{Direction}
use Rattle.gx_walks.specs.Walks.{start_of, legs_of, visits}
use Rattle.gx_walks.specs.Readers.{AreFound}
use Rattle.gx_walks.proofs.LegLemmas.{one_direction}
use Rattle.gx_walks.proofs.StepLemmas.{on_ok_map}
use Rattle.gx_walks.proofs.answers.answer.Goals as goal

pub or_stop-requires-clause-serving : goal.or_stop-requires-clause-serving
or_stop-requires-clause-serving g c = g.met.R.LinkReader.at_rest _ _ c.in_ok-rows.ensures.calls

pub or_stop-requires-2-clause-serving : goal.or_stop-requires-2-clause-serving
or_stop-requires-2-clause-serving g c = g.met.R.LinkReader.at_rest _ _ c.in_ok-text.ensures.calls

pub returns-clause-steps : goal.returns-clause-steps
returns-clause-steps g c = λ s costs d is holds price found.
    let r = g.R.LinkReader in
    let q = c.args.query.now in
    let most : Direction → ℕ = λ e. r.work c.args.reader.now
    + 2 * (costs.candidates (start_of e q) + visits e s q + 1) * costs.look_up in
    let same : d ≡ c.in-Ok.direction = one_direction q _ _ d c.in-Ok.direction is c.in-Ok.ensures in
    on_ok_map c.or_stop-2.result (λ still.
    subst (λ (x : _). r.work x ≤ most d) (sym (still ∙ c.in_ok-text.ensures.still))
    (subst (λ (e : Direction). r.work c.path_rows.new.reader ≤ most e) (sym same)
    (c.in_ok-rows.ensures.steps s costs holds price
    (subst (λ (e : Direction). AreFound costs.finds (legs_of e q)) same found))))
    c.or_stop-2.ensures.still
