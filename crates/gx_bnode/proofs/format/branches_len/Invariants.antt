use Rattle.gx_bytes.proofs.RecordLemmas.{Passed}
use Rattle.gx_bnode.specs.Branches.{IsFit, branch_bytes, branches_in}
use Rattle.gx_bnode.proofs.format.branches_len.Given as goal

abbrev pub invariant-loop : goal.invariant-loop
invariant-loop l =
    Passed branch_bytes IsFit (branches_in l.count l.bytes) l.counter l.bytes l.rest
