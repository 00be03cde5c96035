use Rattle.std.proofs.Common.{◌≡◌, ℕ, None, false, IsTrue}
use Rattle.gx_reader.specs.Reader.{meant, number_of, left_of, IsOpen}
use Rattle.gx_sessions.specs.Turns.{schema_of, stop_of, leaves_of, IsNumber, is_in_at}
use Rattle.gx_shares.specs.Going.{KeepsHeard, IsReadTo}
use Rattle.gx_shares.proofs.HearLemmas.{ComesTo}
use Rattle.gx_shares.proofs.play.play_heard.Given as goal

abbrev pub invariant-loop-count : goal.invariant-loop-count
invariant-loop-count g l =
    let content = g.B.View.content in
    record {
      keeps : KeepsHeard g.B.View l.fn.sessions l.sessions;
      going : stop_of l.sessions ≡ None;
      stays_open : IsOpen l.reader;
      played : IsTrue g.B.View.tells
          → ComesTo g.B.View l.reader (content (leaves_of l.sessions)).script l.fn.sessions l.sessions;
      reads : IsTrue g.B.View.tells
          → ((n : ℕ) → IsNumber n → is_in_at l.fn.sessions n ≡ false)
          → IsReadTo (schema_of l.fn.sessions) (content (leaves_of l.fn.sessions)).script
          (meant l.reader (content (leaves_of l.sessions)).script) (number_of l.reader) l.sessions;
      counted : g.B.View.faults (leaves_of l.sessions) ≡ g.B.View.faults (leaves_of l.fn.sessions);
    }

abbrev pub decreases-loop-count : goal.decreases-loop-count
decreases-loop-count g l = left_of l.reader
