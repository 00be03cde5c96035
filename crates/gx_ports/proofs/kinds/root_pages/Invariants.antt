use Rattle.std.proofs.Common.{◌≡◌, ◌≤◌, ◌*◌, sum, map, take}
use Rattle.gx_ports.specs.Roots.{roots_of}
use Rattle.gx_ports.proofs.kinds.root_pages.Given as goal

abbrev pub invariant-loop-spec : goal.invariant-loop-spec
invariant-loop-spec l = record {
  pages : l.pages ≡ sum (map roots_of (take l.spec-index l.specs));
  few : l.pages ≤ 255 * l.spec-index;
}
