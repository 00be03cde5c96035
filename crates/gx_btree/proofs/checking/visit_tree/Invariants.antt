use Rattle.gx_btree.proofs.VisitLemmas.{IsVisiting}
use Rattle.gx_btree.proofs.checking.visit_tree.Given as goal

abbrev pub invariant-loop : goal.invariant-loop
invariant-loop g l = IsVisiting g.P.PageView l.place l.fn.pages l.pages l.visits l.counter
