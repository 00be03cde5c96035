use Rattle.std.proofs.Common.{◌≡◌, ◌+◌, ◌++◌, length, map, drop}
use Rattle.std.specs.Prelude.{not}
use Rattle.std.specs.Vec.Iter.{into_iter_items, into_iter_len}
use Rattle.gx_split.specs.Groups.{chosen}
use Rattle.gx_entries.proofs.groups.grouped.Given as goal

-- what is still to come of the values
abbrev pub invariant-loop-value : goal.invariant-loop-value
invariant-loop-value l = record {
  many : into_iter_len l.value-iterator ≡ length (into_iter_items l.value-iterator);
  left : l.at + length (into_iter_items l.value-iterator) ≡ length l.fn.mask;
  first : l.first.items ++ chosen (drop l.at l.fn.mask) (into_iter_items l.value-iterator) ≡ chosen
      l.fn.mask l.fn.values;
  others : l.others.items ++ chosen (drop l.at (map not l.fn.mask))
      (into_iter_items l.value-iterator) ≡ chosen (map not l.fn.mask) l.fn.values;
}
