use Rattle.gx_equation.proofs.PlacesLaws.{places_in_order}
use Rattle.gx_equation.proofs.TermsFound.{equation_found}
use Rattle.gx_equation.proofs.reading.equation_of.Goals as goal

pub lines_of-requires-clause-order : goal.lines_of-requires-clause-order
lines_of-requires-clause-order c =
    rw c.deref.ensures.value
    (places_in_order _ _ c.args.bytes.now
    (equation_found c.args.bytes.now _ c.in_ok-definitions.ensures))
