use Rattle.gx_bnode.specs.Page.{first_of, branches_of}
use Rattle.gx_btree.proofs.InsideLemmas.{IsPushing}
use Rattle.gx_btree.proofs.checking.push_children.Given as goal

abbrev pub invariant-loop-separator : goal.invariant-loop-separator
invariant-loop-separator l =
    IsPushing l.fn.parts.items l.part.page l.part.low (first_of l.page) (branches_of l.page)
    l.parts.items l.separator-iterator
