use Rattle.std.proofs.Common.{◌≡◌, ◌≤◌, ◌-◌, [], length}
use Rattle.gx_schema.specs.Reading.{fields_at}
use Rattle.gx_schema.proofs.field.read_fields.Given as goal

abbrev pub invariant-loop-fields : goal.invariant-loop-fields
invariant-loop-fields l = (length l.fields ≤ 32)
    × (fields_at (33 - length l.fields) l.fields l.rest ≡ fields_at 33 [] l.bytes)

abbrev pub decreases-loop-fields : goal.decreases-loop-fields
decreases-loop-fields l = 33 - length l.fields
