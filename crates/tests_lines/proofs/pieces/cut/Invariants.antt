use Rattle.std.proofs.Common.{length}
use Rattle.gx_reader.specs.Reader.{IsOpen}
use Rattle.tests_lines.proofs.pieces.cut.Given as goal

abbrev pub invariant-loop-rest : goal.invariant-loop-rest
invariant-loop-rest l = IsOpen l.reader

abbrev pub decreases-loop-rest : goal.decreases-loop-rest
decreases-loop-rest l = length l.rest
