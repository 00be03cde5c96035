use Rattle.std.proofs.Common.{◌≡◌, ◌++◌, List, Some, length, take}
use Rattle.std.specs.Prelude.{slice_get}
use Rattle.gx_values.specs.Keys.{bytes_of}
use Rattle.gx_actual.specs.Bodies.{body_of}
use Rattle.gx_model.specs.States.{Row}
use Rattle.gx_scan.specs.Columns.{AreColumnEntries}
use Rattle.gx_scan.proofs.by_columns.push_columns.Given as goal

abbrev pub invariant-loop-column : goal.invariant-loop-column
invariant-loop-column l =
    (rs : List Row) (r : Row) → AreColumnEntries l.places l.columns rs
    → slice_get rs l.index ≡ Some r → l.key ≡ bytes_of r.0 → length r.1 ≡ length l.places
    → l.body.items ≡ l.fn.body.items ++ body_of (take l.column r.1)
