use Rattle.std.proofs.Common.{◌≡◌, ◌++◌, length, map}
use Rattle.std.specs.Vec.Iter.{into_iter_items, into_iter_len}
use Rattle.gx_scan.specs.Within.{row_of}
use Rattle.gx_audit.proofs.files.keys_of.Given as goal

abbrev pub invariant-loop-record : goal.invariant-loop-record
invariant-loop-record l = record {
  left : l.yielded ++ into_iter_items l.record-iterator ≡ into_iter_items l.initial.record-iterator;
  many : into_iter_len l.record-iterator ≡ length (into_iter_items l.record-iterator);
  done : l.keys.items ≡ map (λ r. (row_of r).0) l.yielded;
}
