use Rattle.std.proofs.Common.{List, ℕ}
use Rattle.gx_equation.specs.Definitions.{equation_at, with_lines}
use Rattle.gx_equation.specs.Grammar.{Means}
use Rattle.gx_equation.specs.Printing.{AreWritten}
use Rattle.gx_equation.specs.Trees.{DefinitionTree}
use Rattle.gx_equation.proofs.Again.{meaning_again, one_meaning}
use Rattle.gx_equation.proofs.AnswerLaws.{found_by, bad_by, unmapped}
use Rattle.gx_equation.proofs.FaultLaws.{first_fault_is}
use Rattle.gx_equation.specs.Faults.{IsBad}
use Rattle.gx_equation.proofs.TermsFound.{meaning_found}
use Rattle.gx_equation.proofs.Written.{are_written}
use Rattle.gx_equation.proofs.reading.read_equation.Goals as goal

pub returns-clause-found : goal.returns-clause-found
returns-clause-found c =
    found_by _ (Means c.args.bytes.now) c.args.bytes.now c.read_exactly.result _
    c.read_exactly.ensures (meaning_found c.args.bytes.now)

pub returns-clause-one : goal.returns-clause-one
returns-clause-one c a b p q = one_meaning c.args.bytes.now a b p q

pub returns-clause-written : goal.returns-clause-written
returns-clause-written c =
    found_by _ (λ (meaning : List DefinitionTree × List ℕ). AreWritten meaning.0) c.args.bytes.now
    c.read_exactly.result _ c.read_exactly.ensures
    (λ meaning e. are_written c.args.bytes.now meaning (meaning_found c.args.bytes.now meaning e))

pub returns-clause-only : goal.returns-clause-only
returns-clause-only c meaning m =
    rw (meaning_again c.args.bytes.now meaning m) at c.read_exactly.ensures

pub returns-clause-fault : goal.returns-clause-fault
returns-clause-fault c =
    bad_by _ (IsBad c.args.bytes.now) c.args.bytes.now c.read_exactly.result _
    c.read_exactly.ensures tt
    (λ f e. first_fault_is c.args.bytes.now f
    (unmapped (with_lines c.args.bytes.now) (equation_at c.args.bytes.now) f e))
