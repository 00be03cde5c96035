use Rattle.std.proofs.Common.{◌≡◌, ◌++◌, length, map, filter}
use Rattle.std.specs.Vec.Iter.{into_iter_items, into_iter_len}
use Rattle.gx_model.specs.Found.{meets_conds}
use Rattle.gx_scan.specs.Within.{row_of}
use Rattle.gx_scan.proofs.by_records.add_met.Given as goal

abbrev pub invariant-loop-rec : goal.invariant-loop-rec
invariant-loop-rec l = record {
  left : l.yielded ++ into_iter_items l.rec-iterator ≡ into_iter_items l.initial.rec-iterator;
  many : into_iter_len l.rec-iterator ≡ length (into_iter_items l.rec-iterator);
  done : l.rows.items ≡ l.fn.rows.items ++ filter (meets_conds l.conds) (map row_of l.yielded);
}
