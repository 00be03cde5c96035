use Rattle.std.proofs.Common.{◌≡◌, ℕ, ◌<◌, ◌≤◌, false}
use Rattle.gx_sessions.specs.Turns.{is_in_at}
use Rattle.gx_shares.proofs.play.any_inside.Given as goal

abbrev pub invariant-loop-session : goal.invariant-loop-session
invariant-loop-session g l =
    (n : ℕ) → 1 ≤ n → n < l.session → is_in_at l.sessions n ≡ false
