use Rattle.std.proofs.Common.{◌≡◌, [], length}
use Rattle.std.specs.Vec.Iter.{into_iter_items, into_iter_len}
use Rattle.gx_links.proofs.OwnerLemmas.{with_pairs}
use Rattle.gx_links.proofs.owners.owners_of.Given as goal

abbrev pub invariant-loop-pair : goal.invariant-loop-pair
invariant-loop-pair l = record {
  many : into_iter_len l.pair-iterator ≡ length (into_iter_items l.pair-iterator);
  so_far : with_pairs l.owners.items (into_iter_items l.pair-iterator) ≡ with_pairs []
      (into_iter_items l.initial.pair-iterator);
}
