use Rattle.std.proofs.Common.{◌≡◌, List, ℕ, Result, Ok, Err, sym, subst}
use Rattle.std.specs.Result.{IfOk}
use Rattle.gx_values.specs.declared.bytes.Octets.{Octets}
use Rattle.gx_values.specs.declared.no_memory.NoMemory.{NoMemory}
use Rattle.gx_equation.specs.Grammar.{Means}
use Rattle.gx_equation.specs.Printing.{equation_text, AreWritten}
use Rattle.gx_equation.specs.Seen.{definitions_of}
use Rattle.gx_equation.specs.Trees.{DefinitionTree}
use Rattle.gx_equation.proofs.Printed.{equation_printed}
use Rattle.gx_printing.proofs.printing.print_equation.Goals as goal

read_again : (ds : List DefinitionTree) (r : Result Octets NoMemory)
    → IfOk r (λ text. text ≡ equation_text ds)
    → IfOk r (λ text. AreWritten ds → (lines : List ℕ) × Means text (ds, lines))
read_again ds (Ok text) is = λ w. let p = equation_printed ds w in
    (p.0, subst (λ (t : List ℕ). Means t (ds, p.0)) (sym is) p.1)
read_again ds (Err e) is = tt

pub returns-clause-again : goal.returns-clause-again
returns-clause-again c =
    read_again (definitions_of c.args.equation.now.definitions) c.text_of.result c.text_of.ensures
