use Rattle.std.proofs.Common.{◌≡◌, ◌++◌, drop}
use Rattle.gx_equation.specs.Printing.{more_text}
use Rattle.gx_equation.specs.Seen.{trees_of}
use Rattle.gx_equation.specs.Trees.{kids_from}
use Rattle.gx_printing.proofs.printing.+printing.Given as goal

abbrev pub invariant-push_kids-loop-kid : goal.invariant-push_kids-loop-kid
invariant-push_kids-loop-kid l =
    l.out.items ++ more_text (kids_from (trees_of (drop l.kid-index l.others)))
    ≡ l.initial.out.items ++ more_text (kids_from (trees_of l.others))
