use Rattle.std.proofs.Common.{◌≡◌, ◌++◌, drop}
use Rattle.gx_equation.specs.Printing.{bound_text, spaced}
use Rattle.gx_printing.proofs.printing.push_bounds.Given as goal

abbrev pub invariant-loop-bound : goal.invariant-loop-bound
invariant-loop-bound l =
    l.out.items ++ spaced bound_text (drop l.bound-index l.bounds) ≡ l.initial.out.items
    ++ spaced bound_text l.bounds
