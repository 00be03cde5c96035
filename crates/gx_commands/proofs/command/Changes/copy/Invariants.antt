use Rattle.std.proofs.Common.{◌≡◌, take}
use Rattle.gx_commands.proofs.command.Changes.copy.Given as goal

abbrev pub invariant-loop-change : goal.invariant-loop-change
invariant-loop-change l = l.copies.items ≡ take l.change-index l.self
