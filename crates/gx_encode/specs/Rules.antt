-- Where the records of the layer go: each as one part, with one field by its code.
use Rattle.std.specs.Prelude.{ℕ, true, false, ◌&&◌, not, List, [], ◌∷◌, nat_eq, None}
use Rattle.gx_values.specs.declared.values.Code.{Code}
use Rattle.gx_values.specs.declared.values.Value.{Value}
use Rattle.gx_values.specs.declared.values.Value.TheVariants as value
use Rattle.gx_values.specs.declared.records.Form.{Form}
use Rattle.gx_values.specs.declared.records.Rec.{Rec}
use Rattle.gx_mapping.specs.declared.parts.Part.{Part}
use Rattle.gx_mapping.specs.Rule.{Rule, is_field, first_in}
use Rattle.gx_encode.specs.declared.layer.Encode.{Encode}
use Rattle.gx_encode.specs.Codes.{code_of}
use Rattle.gx_encode.specs.Forms.{changed, encode_form}

-- what contracts see of the layer: the form of the records, the number of the field, and its code
abbrev pub form_of : Encode → Form
form_of m = m.form

abbrev pub field_of : Encode → ℕ
field_of m = m.field

abbrev pub used_code_of : Encode → Code
used_code_of m = m.code

-- the value's code as bytes
abbrev pub coded : Code → Value → Value
coded c v = value.Bytes (code_of c v)

-- a record as the part of the one child
abbrev pub only_part : Rec → Part
only_part r = record { child = 0; rec = r }

abbrev pub encode_part : ℕ → Code → Rec → Part
encode_part i c r = only_part (record { key = r.key; fields = changed i (coded c) r.fields })

abbrev pub encode_rule : Form → ℕ → Code → Rule
encode_rule form i c = record {
  kids = 1;
  form = form;
  kid_form = λ child. encode_form i c form;
  holds_rest = λ child. true;
  parts = λ r. encode_part i c r ∷ [];
  skips = λ child span. false;
  indexes = λ name. None;
  carries = λ child name. is_field form.fields name && not (nat_eq (first_in form.fields name) i);
}

abbrev pub rule_of : Encode → Rule
rule_of m = encode_rule (form_of m) (field_of m) (used_code_of m)

-- the bytes of a value that is bytes
abbrev pub bytes_in : Value → List ℕ
bytes_in (value.Int n) = []
bytes_in (value.Text text) = []
bytes_in (value.Bytes bytes) = bytes
