use Rattle.std.proofs.Common.{◌≡◌, take}
use Rattle.std.specs.List.{flat_map}
use Rattle.gx_model.specs.Texts.{row_text}
use Rattle.gx_rows.proofs.texts.records_text.Given as goal

abbrev pub invariant-loop-row : goal.invariant-loop-row
invariant-loop-row l = l.text.items ≡ flat_map (row_text l.file) (take l.row-index l.rows)
