use Rattle.std.proofs.Common.{◌≡◌, ◌∷◌, ◌∙◌, [], ap, rules}
use Rattle.std.specs.Prelude.{not}
use Rattle.std.specs.Vec.{vec_len}
use Rattle.gx_model.specs.Paths.{after_legs}
use Rattle.gx_walks.specs.Walks.{back_legs, has_row}
use Rattle.gx_walks.proofs.StepLemmas.{some_row}
use Rattle.gx_walks.proofs.back.leads_back.Goals as goal

pub returns-clause-led : goal.returns-clause-led
returns-clause-led g c = λ s holds.
    let reached = c.in_ok-reached.reached in
    let back = back_legs c.args.first.now c.args.legs.now in
    let one : c.from_ref.result.now ≡ c.args.row.now ∷ [] = search rules in
    ap not c.is_empty.ensures
    ∙ some_row reached.items (vec_len reached) (search rules)
    ∙ ap has_row (c.in_ok-reached.ensures.set s holds ∙ ap (after_legs s back) one)
