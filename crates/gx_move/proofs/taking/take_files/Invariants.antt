use Rattle.std.proofs.Common.{◌≡◌, length, map, take, Ok}
use Rattle.gx_model.specs.Play.{Playing, seen_state}
use Rattle.gx_engine.specs.Steps.{schema_of, IsAt}
use Rattle.gx_engine.specs.Parts.{EndsReading}
use Rattle.gx_scan.specs.Files.{file_records}
use Rattle.gx_move.proofs.taking.take_files.Given as goal

abbrev pub invariant-loop-file : goal.invariant-loop-file
invariant-loop-file g l = let b = g.B.View in record {
  count : l.count ≡ length (schema_of l.fn.engine).files;
  taken : (p : Playing) → IsAt b p l.fn.engine
      → l.files.items ≡ map file_records (take l.file (seen_state p).files);
  ends : EndsReading b l.fn.engine l.engine (Ok tt);
}
