use Rattle.std.proofs.Common.{◌≡◌, ◌+◌, None, length, IsTrue}
use Rattle.gx_reader.specs.Reader.{left_of, IsOpen}
use Rattle.gx_sessions.specs.Turns.{stop_of, leaves_of}
use Rattle.gx_shares.specs.Steps.{KeepsSessions}
use Rattle.gx_shares.proofs.GoingLemmas.{GoesTo}
use Rattle.gx_shares.proofs.PlayLemmas.{ReadsTo}
use Rattle.gx_shares.proofs.play.play_piece.Given as goal

abbrev pub invariant-loop-count : goal.invariant-loop-count
invariant-loop-count g l = record {
  keeps : KeepsSessions g.B.View l.fn.sessions l.sessions;
  going : stop_of l.sessions ≡ None;
  stays_open : IsOpen l.reader;
  taken : left_of l.reader + length l.fn.piece ≡ left_of l.fn.reader + length l.rest;
  played : IsTrue g.B.View.tells
      → GoesTo g.B.View l.fn.piece l.fn.reader l.rest l.reader l.fn.sessions l.sessions;
  reads : ReadsTo l.fn.piece l.fn.reader l.rest l.reader l.fn.sessions l.sessions;
  counted : g.B.View.faults (leaves_of l.sessions) ≡ g.B.View.faults (leaves_of l.fn.sessions);
}

abbrev pub decreases-loop-count : goal.decreases-loop-count
decreases-loop-count g l = length l.rest
