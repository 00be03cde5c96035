use Rattle.std.proofs.Common.{◌≡◌, IsTrue}
use Rattle.gx_ports.specs.PageCalls.{KeepsPages}
use Rattle.gx_leaves.specs.Making.{IsAllFree, AreMade}
use Rattle.gx_leaves.proofs.making.make_files.Given as goal

abbrev pub invariant-loop-place : goal.invariant-loop-place
invariant-loop-place g l = record {
  made : IsTrue g.P.PageView.tells
      → IsAllFree (g.P.PageView.ground l.fn.pages) (g.P.PageView.working l.fn.pages)
      → AreMade (g.P.PageView.ground l.fn.pages) l.places l.place-index
      (g.P.PageView.working l.pages);
  keeps : KeepsPages g.P.PageView l.fn.pages l.pages;
  faults : g.P.PageView.faults l.pages ≡ g.P.PageView.faults l.fn.pages;
}
