use Rattle.std.proofs.Common.{◌≡◌, ◌++◌, length}
use Rattle.std.specs.Vec.Iter.{into_iter_items, into_iter_len}
use Rattle.gx_links.specs.Owners.{pairs_of}
use Rattle.gx_lists.proofs.array_pairs.pairs_by_member.Given as goal

abbrev pub invariant-loop-owned : goal.invariant-loop-owned
invariant-loop-owned l = record {
  many : into_iter_len l.owned-iterator ≡ length (into_iter_items l.owned-iterator);
  so_far : l.pairs ++ pairs_of (into_iter_items l.owned-iterator) ≡ pairs_of l.fn.owners;
}
