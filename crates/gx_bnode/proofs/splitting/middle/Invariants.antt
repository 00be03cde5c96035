use Rattle.gx_bytes.proofs.SearchLemmas.{HasTaken}
use Rattle.gx_bnode.specs.Branches.{branch_len}
use Rattle.gx_bnode.specs.Page.{branches_of}
use Rattle.gx_bnode.proofs.splitting.middle.Given as goal

abbrev pub invariant-loop-separator : goal.invariant-loop-separator
invariant-loop-separator l =
    HasTaken branch_len 2044 (branches_of l.page) l.place l.taken l.separator-iterator
