use Rattle.std.proofs.Common.{◌≡◌, take}
use Rattle.gx_equation.specs.Printing.{equation_text}
use Rattle.gx_equation.specs.Seen.{definitions_of}
use Rattle.gx_printing.proofs.printing.text_of.Given as goal

abbrev pub invariant-loop-definition : goal.invariant-loop-definition
invariant-loop-definition l =
    l.out.items ≡ equation_text (definitions_of (take l.definition-index l.definitions))
