use Rattle.std.proofs.Common.{◌≡◌, take}
use Rattle.gx_commands.proofs.command.Conds.copy.Given as goal

abbrev pub invariant-loop-cond : goal.invariant-loop-cond
invariant-loop-cond l = l.copies.items ≡ take l.cond-index l.self
