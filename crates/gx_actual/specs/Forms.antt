-- The two forms of the layer.
use Rattle.std.specs.Prelude.{ℕ, [], ◌∷◌, codes}
use Rattle.gx_values.specs.declared.values.Kind.TheVariants as kind
use Rattle.gx_values.specs.declared.records.Field.{Field}
use Rattle.gx_values.specs.declared.records.Form.{Form}
use Rattle.gx_actual.specs.Bodies.{field_widths}

abbrev pub body_field : ℕ → Field
body_field width = record { name = codes "_body"; kind = kind.Bytes width }

-- the same key, and the body
abbrev pub actual_form : Form → Form
actual_form form = record { keys = form.keys; fields = body_field (field_widths form.fields) ∷ [] }
