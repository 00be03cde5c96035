use Rattle.gx_bytes.proofs.SearchLemmas.{HasPassed}
use Rattle.gx_bnode.specs.Page.{branches_of}
use Rattle.gx_bnode.proofs.OrderLemmas.{IsUpTo}
use Rattle.gx_bnode.proofs.page.child_of.Given as goal

abbrev pub invariant-loop-separator : goal.invariant-loop-separator
invariant-loop-separator l =
    HasPassed (IsUpTo l.key) (branches_of l.page) l.place l.separator-iterator
