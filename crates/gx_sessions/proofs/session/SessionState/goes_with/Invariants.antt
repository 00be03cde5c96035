use Rattle.std.proofs.Common.{◌≡◌, ℕ, ◌<◌, false}
use Rattle.gx_sharing.specs.Locks.{conflict, lock_of}
use Rattle.gx_sessions.specs.Places.{mode_of, item_at}
use Rattle.gx_sessions.specs.Standings.{lock_in}
use Rattle.gx_sessions.proofs.session.SessionState.goes_with.Given as goal

abbrev pub invariant-loop-place : goal.invariant-loop-place
invariant-loop-place l =
    (i : ℕ) → i < l.place
    → conflict (mode_of (lock_in l.self.locks.items i))
    (lock_of l.schema l.command (item_at l.schema i)) ≡ false
