use Rattle.std.proofs.Common.{◌++◌, ◌∙◌}
use Rattle.gx_access.specs.Access.{seen}
use Rattle.gx_gets.proofs.PlaceLemmas.{bodies, entries_body}
use Rattle.gx_gets.proofs.fragment.place_fragment.Goals as goal

pub returns-clause-placed : goal.returns-clause-placed
returns-clause-placed c = λ r fit same.
    let f = c.args.fragment.now in
    c.place_body-2.ensures.placed r fit
    (c.as_slice.ensures.value ∙ c.in_ok-join.ensures
    ∙ (λ j. c.new-bytes.ensures.items j ++ bodies (same j))
    ∙ entries_body f.leaf f.piece (seen f.view r))
