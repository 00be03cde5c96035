use Rattle.std.proofs.Common.{◌≡◌, ℕ, ◌<◌, length, get_or}
use Rattle.gx_sharing.specs.Sharing.{outside}
use Rattle.gx_sessions.specs.declared.session.SessionState.{SessionState}
use Rattle.gx_sessions.specs.Standings.{IsSession, IsWhole}
use Rattle.gx_sessions.proofs.sessions.all_outside.Given as goal

abbrev pub invariant-loop : goal.invariant-loop
invariant-loop l =
    (length l.states.items ≡ l.counter)
    × ((k : ℕ) (other : SessionState) → k < length l.states.items
    → IsSession l.schema outside (get_or l.states.items k other)
    × IsWhole l.schema (get_or l.states.items k other))
