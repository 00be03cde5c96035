use Rattle.std.proofs.Common.{◌≡◌, ℕ, ◌+◌, List, ◌++◌, Bool, None, false, length, IsTrue}
use Rattle.gx_commands.specs.Lines.{Lines}
use Rattle.gx_reader.specs.Reader.{meant, number_of, left_of, IsOpen}
use Rattle.gx_engine.specs.Steps.{schema_of, is_open, stop_of, leaves_of}
use Rattle.gx_play.specs.Answering.{are_told, beside, with_answers}
use Rattle.gx_play.specs.Pieces.{GoesOn}
use Rattle.gx_play.specs.Readings.{IsReadTo}
use Rattle.gx_play.specs.Images.{LeavesPiece}
use Rattle.gx_play.specs.Plays.{KeepsPlayed}
use Rattle.gx_play.proofs.PieceLemmas.{GoesTo}
use Rattle.gx_play.proofs.play.play_piece.Given as goal

abbrev pub invariant-loop-count : goal.invariant-loop-count
invariant-loop-count g l = record {
  keeps : KeepsPlayed g.B.View l.fn.answers l.fn.engine l.engine;
  going : stop_of l.engine ≡ None;
  stays_open : IsOpen l.reader;
  taken : left_of l.reader + length l.fn.piece ≡ left_of l.fn.reader + length l.rest;
  played : IsTrue (are_told g.B.View.tells l.fn.answers)
      → GoesTo (beside g.B.View l.fn.answers) l.fn.piece l.fn.reader l.rest l.reader
      (with_answers l.fn.engine l.fn.out) (with_answers l.engine l.out);
  leaves : IsTrue (are_told g.B.View.tells l.fn.answers)
      → LeavesPiece g.B.View l.fn.answers l.fn.piece l.fn.reader l.fn.engine l.engine l.fn.out
      false;
  reads : (begun : Bool) (all : Lines) (rest : List ℕ)
      → IsReadTo (schema_of l.fn.engine) begun all (meant l.fn.reader (l.fn.piece ++ rest))
      (number_of l.fn.reader) (is_open l.fn.engine)
      → IsReadTo (schema_of l.fn.engine) begun all (meant l.reader (l.rest ++ rest))
      (number_of l.reader) (is_open l.engine);
  stands : GoesOn g.B.View l.fn.engine l.engine;
  counted : g.B.View.faults (leaves_of l.engine) ≡ g.B.View.faults (leaves_of l.fn.engine);
}

abbrev pub decreases-loop-count : goal.decreases-loop-count
decreases-loop-count g l = length l.rest
