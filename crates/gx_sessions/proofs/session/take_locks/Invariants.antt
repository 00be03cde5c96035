use Rattle.std.proofs.Common.{◌≡◌, ℕ, ◌<◌, ◌≤◌, length}
use Rattle.gx_sharing.specs.Locks.{stronger, lock_of}
use Rattle.gx_sessions.specs.Places.{mode_of, item_at}
use Rattle.gx_sessions.specs.Standings.{lock_in}
use Rattle.gx_sessions.proofs.session.take_locks.Given as goal

abbrev pub invariant-loop-place : goal.invariant-loop-place
invariant-loop-place l = record {
  many : length l.locks ≡ length l.fn.locks;
  behind : (i : ℕ) → i < l.place
      → mode_of (lock_in l.locks i)
      ≡ stronger (mode_of (lock_in l.fn.locks i)) (lock_of l.schema l.command (item_at l.schema i));
  ahead : (i : ℕ) → l.place ≤ i → lock_in l.locks i ≡ lock_in l.fn.locks i;
}
