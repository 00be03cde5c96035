use Rattle.std.proofs.Common.{◌≡◌, length}
use Rattle.gx_sessions.specs.Standings.{AreFree}
use Rattle.gx_sessions.proofs.session.SessionState.new.Given as goal

abbrev pub invariant-loop-i : goal.invariant-loop-i
invariant-loop-i l = (length l.locks.items ≡ l.i) × AreFree l.locks.items
