use Rattle.std.proofs.Common.{◌≡◌, ℕ, ◌<◌, None}
use Rattle.std.specs.Prelude.{find}
use Rattle.gx_sharing.specs.Sharing.{Sharing, sessions, is_barred}
use Rattle.gx_sessions.specs.Places.{item_at}
use Rattle.gx_sessions.specs.Standings.{AreSessions}
use Rattle.gx_sessions.proofs.holder.holder.Given as goal

abbrev pub invariant-loop-place : goal.invariant-loop-place
invariant-loop-place l =
    (p : Sharing) → AreSessions l.schema p.session l.states
    → (i : ℕ) → i < l.place
    → find (is_barred l.schema p l.session l.command (item_at l.schema i)) sessions ≡ None
