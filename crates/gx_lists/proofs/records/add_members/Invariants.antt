use Rattle.std.proofs.Common.{◌≡◌, ◌<◌, ◌++◌, map, length}
use Rattle.std.specs.Vec.Iter.{into_iter_items, into_iter_len}
use Rattle.gx_values.specs.declared.records.Rec.{Rec}
use Rattle.gx_ports.specs.LeafMaps.{Extends}
use Rattle.gx_mapping.specs.Rule.{In}
use Rattle.gx_lists.specs.Inverted.{member_in}
use Rattle.gx_lists.proofs.records.add_members.Given as goal

abbrev pub invariant-loop-rec : goal.invariant-loop-rec
invariant-loop-rec l = record {
  many : into_iter_len l.rec-iterator ≡ length (into_iter_items l.rec-iterator);
  some : (r : Rec) → In r (into_iter_items l.rec-iterator) → 1 < length r.key;
  front : Extends l.fn.out l.out-inside.0.items;
  so_far : l.out-inside.0.items ++ map member_in (into_iter_items l.rec-iterator) ≡ l.fn.out
      ++ map member_in l.fn.found;
}
