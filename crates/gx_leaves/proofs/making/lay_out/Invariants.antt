use Rattle.std.proofs.Common.{◌≡◌, ◌++◌, ◌+◌, drop}
use Rattle.gx_ports.specs.Roots.{root_pages}
use Rattle.gx_leaves.specs.Places.{places_from}
use Rattle.gx_leaves.proofs.making.lay_out.Given as goal

abbrev pub invariant-loop-spec : goal.invariant-loop-spec
invariant-loop-spec g l = record {
  places : l.places.items ++ places_from l.root l.owner (drop l.spec-index l.specs) ≡ places_from
      (g.P.PageView.ground l.fn.pages).tables 1 l.specs;
  roots : l.root + root_pages (drop l.spec-index l.specs) ≡ (g.P.PageView.ground l.fn.pages).tables
      + root_pages l.specs;
  number : l.owner ≡ l.spec-index + 1;
}
