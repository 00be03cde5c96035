use Rattle.std.proofs.Common.{◌≡◌, ℕ, ◌+◌, ◌<◌, false}
use Rattle.gx_commands.specs.declared.command.Command.{Command}
use Rattle.gx_sharing.specs.Locks.{lock_of}
use Rattle.gx_sharing.specs.Sharing.{Sharing, is_barred}
use Rattle.gx_sessions.specs.Places.{mode_of, item_at}
use Rattle.gx_sessions.specs.Standings.{AreSessions}
use Rattle.gx_sessions.proofs.holder.holder_at.Given as goal

abbrev pub invariant-loop-index : goal.invariant-loop-index
invariant-loop-index l =
    (p : Sharing) (c : Command) → AreSessions l.schema p.session l.states
    → mode_of l.wanted ≡ lock_of l.schema c (item_at l.schema l.place)
    → (j : ℕ) → j < l.index
    → is_barred l.schema p l.session c (item_at l.schema l.place) (j + 1) ≡ false
