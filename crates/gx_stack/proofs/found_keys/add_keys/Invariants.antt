use Rattle.std.proofs.Common.{◌≡◌, ◌<◌, ◌++◌, map, drop, length}
use Rattle.std.specs.Vec.Iter.{into_iter_items, into_iter_len}
use Rattle.gx_values.specs.declared.records.Rec.{Rec}
use Rattle.gx_ports.specs.LeafMaps.{Extends}
use Rattle.gx_mapping.specs.Rule.{In}
use Rattle.gx_stack.proofs.found_keys.add_keys.Given as goal

abbrev pub invariant-loop-rec : goal.invariant-loop-rec
invariant-loop-rec l = record {
  many : into_iter_len l.rec-iterator ≡ length (into_iter_items l.rec-iterator);
  some : (r : Rec) → In r (into_iter_items l.rec-iterator) → 0 < length r.key;
  front : Extends l.fn.out l.out-inside.0.items;
  so_far : l.out-inside.0.items ++ map (λ r. drop 1 r.key) (into_iter_items l.rec-iterator)
      ≡ l.fn.out ++ map (λ r. drop 1 r.key) l.fn.found;
}
