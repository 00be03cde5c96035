use Rattle.std.proofs.Common.{◌≡◌, ◌++◌, map, length}
use Rattle.std.specs.Vec.Iter.{into_iter_items, into_iter_len}
use Rattle.gx_links.specs.Owners.{pair_with}
use Rattle.gx_lists.proofs.array_pairs.add_pairs.Given as goal

abbrev pub invariant-loop-member : goal.invariant-loop-member
invariant-loop-member l = record {
  many : into_iter_len l.member-iterator ≡ length (into_iter_items l.member-iterator);
  so_far : l.pairs-inside.0.items ++ map (pair_with l.owner) (into_iter_items l.member-iterator)
      ≡ l.fn.pairs ++ map
      (pair_with l.fn.owner) l.fn.members;
}
