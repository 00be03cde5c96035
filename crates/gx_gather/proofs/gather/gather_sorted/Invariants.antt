use Rattle.std.proofs.Common.{◌≡◌, length}
use Rattle.std.specs.Vec.Iter.{into_iter_items, into_iter_len}
use Rattle.gx_ports.specs.LeafMaps.{Extends}
use Rattle.gx_gather.proofs.Made.{IsGathering}
use Rattle.gx_gather.proofs.gather.gather_sorted.Given as goal

abbrev pub invariant-loop-part : goal.invariant-loop-part
invariant-loop-part g l = record {
  many : into_iter_len l.part-iterator ≡ length (into_iter_items l.part-iterator);
  so_far : IsGathering (g.M.Mapping.rule l.mapping) l.width l.fn.parts l.fn.out l.out l.group
      (into_iter_items l.part-iterator);
  front : Extends l.fn.out l.out;
}
