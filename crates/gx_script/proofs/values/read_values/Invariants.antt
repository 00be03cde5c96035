use Rattle.std.proofs.Common.{◌≡◌, [], drop}
use Rattle.gx_commands.specs.Cutting.{words_in}
use Rattle.gx_script.specs.Reading.{values_at}
use Rattle.gx_script.proofs.values.read_values.Given as goal

abbrev pub invariant-loop-field : goal.invariant-loop-field
invariant-loop-field l =
    values_at (drop l.field-index l.fields) l.values.items (words_in l.rest) ≡ values_at l.fields []
    (words_in l.line)
