use Rattle.std.proofs.Common.{◌≡◌, ◌++◌, drop}
use Rattle.gx_equation.specs.Printing.{spaced}
use Rattle.gx_printing.proofs.printing.push_more_names.Given as goal

abbrev pub invariant-loop-name : goal.invariant-loop-name
invariant-loop-name l =
    l.out.items ++ spaced (λ name. name) (drop l.name-index l.names) ≡ l.initial.out.items
    ++ spaced (λ name. name) l.names
