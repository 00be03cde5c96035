use Rattle.gx_bytes.proofs.ScanLemmas.{Scanned}
use Rattle.gx_bnode.specs.Branches.{IsFit, branch_bytes}
use Rattle.gx_bnode.proofs.validity.are_branches.Given as goal

abbrev pub invariant-loop : goal.invariant-loop
invariant-loop l =
    Scanned branch_bytes IsFit (λ branch. branch.separator) l.bytes l.counter l.rest l.last
