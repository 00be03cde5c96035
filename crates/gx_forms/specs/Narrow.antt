-- Forms as a program keeps them: the numbers of bytes of data fields go up to 65,535, which is past
-- what a leaf takes.
use Rattle.std.specs.Prelude.{min, map}
use Rattle.gx_values.specs.declared.values.Kind.{Kind}
use Rattle.gx_values.specs.declared.values.Kind.TheVariants as kinds
use Rattle.gx_values.specs.declared.records.Field.{Field}
use Rattle.gx_values.specs.declared.records.Form.{Form}
use Rattle.gx_forms.specs.Fields.{field}

abbrev pub narrow_kind : Kind → Kind
narrow_kind kinds.Int = kinds.Int
narrow_kind (kinds.Text most) = kinds.Text most
narrow_kind (kinds.Bytes most) = kinds.Bytes (min 65535 most)

abbrev pub narrow_field : Field → Field
narrow_field f = field f.name (narrow_kind f.kind)

abbrev pub narrow : Form → Form
narrow form = record { keys = form.keys; fields = map narrow_field form.fields }
