use Rattle.std.proofs.Common.{◌≡◌, ℕ, ◌<◌}
use Rattle.gx_sessions.specs.declared.locks.Lock.TheVariants.{Free}
use Rattle.gx_sessions.specs.Standings.{lock_in}
use Rattle.gx_sessions.proofs.session.free_all.Given as goal

abbrev pub invariant-loop-lock : goal.invariant-loop-lock
invariant-loop-lock l = (i : ℕ) → i < l.lock-index → lock_in l.locks i ≡ Free
