use Rattle.std.proofs.Common.{◌≡◌, map}
use Rattle.gx_scan.specs.Files.{rec_of}
use Rattle.gx_engine.proofs.records.append_rows.Given as goal

abbrev pub invariant-loop-row : goal.invariant-loop-row
invariant-loop-row l = l.records.items ≡ map rec_of l.yielded
