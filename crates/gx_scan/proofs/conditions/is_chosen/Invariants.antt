use Rattle.std.proofs.Common.{◌≡◌, true, take}
use Rattle.std.specs.List.{list_all}
use Rattle.gx_values.specs.Keys.{bytes_of}
use Rattle.gx_model.specs.States.{Row}
use Rattle.gx_model.specs.Found.{meets_cond}
use Rattle.gx_scan.specs.Entries.{entry_of_row, IsStoredRow}
use Rattle.gx_scan.proofs.conditions.is_chosen.Given as goal

-- the record meets the conditions so far
abbrev pub invariant-loop-cond : goal.invariant-loop-cond
invariant-loop-cond l =
    (r : Row) → IsStoredRow l.file l.place.codes r → l.key ≡ bytes_of r.0
    → l.body ≡ (entry_of_row l.place.lengths l.place.codes r).1
    → list_all (meets_cond r) (take l.cond-index l.conds) ≡ true
