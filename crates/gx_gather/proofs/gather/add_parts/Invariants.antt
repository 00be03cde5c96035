use Rattle.std.proofs.Common.{◌≡◌, ◌++◌, length, map}
use Rattle.std.specs.Vec.Iter.{into_iter_items, into_iter_len}
use Rattle.gx_gather.specs.Gather.{part_for}
use Rattle.gx_gather.proofs.gather.add_parts.Given as goal

abbrev pub invariant-loop-rec : goal.invariant-loop-rec
invariant-loop-rec l = record {
  left : l.yielded ++ into_iter_items l.rec-iterator ≡ into_iter_items l.initial.rec-iterator;
  many : into_iter_len l.rec-iterator ≡ length (into_iter_items l.rec-iterator);
  done : l.parts-inside.0.items ≡ l.fn.parts ++ map (part_for l.child) l.yielded;
}
