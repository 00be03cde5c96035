use Rattle.std.proofs.Common.{take}
use Rattle.gx_scan.specs.Columns.{ArePlainColumns}
use Rattle.gx_scan.proofs.columns.are_plain.Given as goal

abbrev pub invariant-loop-place : goal.invariant-loop-place
invariant-loop-place l = ArePlainColumns (take l.place-index l.places)
