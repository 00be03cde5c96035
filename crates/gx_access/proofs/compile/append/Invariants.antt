use Rattle.std.proofs.Common.{◌≡◌, ◌++◌, length}
use Rattle.std.specs.Vec.Iter.{into_iter_items, into_iter_len}
use Rattle.gx_access.proofs.compile.append.Given as goal

abbrev pub invariant-loop-fragment : goal.invariant-loop-fragment
invariant-loop-fragment l = record {
  many : into_iter_len l.fragment-iterator ≡ length (into_iter_items l.fragment-iterator);
  so_far : l.all.items ++ into_iter_items l.fragment-iterator ≡ l.fn.all.items ++ l.fn.more;
}
