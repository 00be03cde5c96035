use Rattle.std.proofs.Common.{◌≡◌, min, length, ◌+◌, ◌≤◌}
use Rattle.gx_values.specs.Keys.{widths}
use Rattle.gx_forms.proofs.fields.key_widths.Given as goal

abbrev pub invariant-loop-rest : goal.invariant-loop-rest
invariant-loop-rest l = (l.sum ≤ 65535)
    × (min 65535 (l.sum + widths l.rest) ≡ min 65535 (widths l.keys))

abbrev pub decreases-loop-rest : goal.decreases-loop-rest
decreases-loop-rest l = length l.rest
