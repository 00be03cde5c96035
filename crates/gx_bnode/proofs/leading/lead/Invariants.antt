use Rattle.gx_bytes.proofs.ScanLemmas.{Scanned}
use Rattle.gx_bnode.specs.Branches.{IsFit, branch_bytes, branches_in}
use Rattle.gx_bnode.specs.Forks.{IsWay}
use Rattle.gx_bnode.proofs.leading.lead.Given as goal

abbrev pub invariant-loop-place : goal.invariant-loop-place
invariant-loop-place l =
    Scanned branch_bytes IsFit (λ branch. branch.separator) l.bytes l.place l.rest l.last
    × IsWay l.first (branches_in l.place l.bytes) l.key l.way.place l.way.child
