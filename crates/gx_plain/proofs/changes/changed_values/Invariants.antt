use Rattle.std.proofs.Common.{◌≡◌, take}
use Rattle.gx_model.specs.Commands.{with_changes}
use Rattle.gx_plain.proofs.changes.changed_values.Given as goal

abbrev pub invariant-loop-change : goal.invariant-loop-change
invariant-loop-change l = l.values.items ≡ with_changes l.fn.values (take l.change-index l.changes)
