use Rattle.std.proofs.Common.{◌≡◌, ◌++◌, drop}
use Rattle.gx_schema.specs.Printing.{more_fields_text}
use Rattle.gx_schema.proofs.print.push_more_fields.Given as goal

abbrev pub invariant-loop-field : goal.invariant-loop-field
invariant-loop-field l =
    l.out.items ++ more_fields_text (drop l.field-index l.fields) ≡ l.initial.out.items
    ++ more_fields_text l.fields
