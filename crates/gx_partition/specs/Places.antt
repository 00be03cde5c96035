-- Where the field of a partition stands.
use Rattle.std.specs.Prelude.{◌<◌, length, slice_index_or}
use Rattle.gx_values.specs.declared.values.Kind.{Kind}
use Rattle.gx_values.specs.declared.values.Kind.TheVariants as kind
use Rattle.gx_values.specs.declared.values.Value.{Value}
use Rattle.gx_values.specs.declared.records.Form.{Form}
use Rattle.gx_values.specs.declared.records.Rec.{Rec}
use Rattle.gx_values.specs.Values.{no_field, no_value}
use Rattle.gx_partition.specs.declared.place.Where.{Where}
use Rattle.gx_partition.specs.declared.place.Where.TheVariants.{Key, Rest}

-- the field is one of the form
abbrev pub IsPlace : Where → Form → Type 0
IsPlace (Key i) form = i < length form.keys
IsPlace (Rest i) form = i < length form.fields

-- the kind of the field's values
abbrev pub kind_at : Where → Form → Kind
kind_at (Key i) form = (slice_index_or form.keys i no_field).kind
kind_at (Rest i) form = (slice_index_or form.fields i no_field).kind

-- the record has a value of the field
abbrev pub IsInRecord : Where → Rec → Type 0
IsInRecord (Key i) r = i < length r.key
IsInRecord (Rest i) r = i < length r.fields

-- the value of the field
abbrev pub value_at : Where → Rec → Value
value_at (Key i) r = slice_index_or r.key i no_value
value_at (Rest i) r = slice_index_or r.fields i no_value
