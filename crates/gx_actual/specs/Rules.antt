-- Where the records of the layer go: each as one part, with the same key and the body.
use Rattle.std.specs.Prelude.{true, false, List, [], ◌∷◌, None}
use Rattle.gx_values.specs.declared.values.Value.{Value}
use Rattle.gx_values.specs.declared.values.Value.TheVariants as value
use Rattle.gx_values.specs.declared.records.Form.{Form}
use Rattle.gx_values.specs.declared.records.Rec.{Rec}
use Rattle.gx_mapping.specs.declared.parts.Part.{Part}
use Rattle.gx_mapping.specs.Rule.{Rule}
use Rattle.gx_actual.specs.declared.layer.Actual.{Actual}
use Rattle.gx_actual.specs.Bodies.{body_of}
use Rattle.gx_actual.specs.Forms.{actual_form}

-- what contracts see of the layer: the form of the records
abbrev pub form_of : Actual → Form
form_of m = m.form

-- the record with the body in the place of its data
abbrev pub actual_rec : Rec → Rec
actual_rec r = record { key = r.key; fields = value.Bytes (body_of r.fields) ∷ [] }

abbrev pub actual_part : Rec → Part
actual_part r = record { child = 0; rec = actual_rec r }

-- a part with this key and these data
abbrev pub body_part : List Value → List Value → Part
body_part key fields = record { child = 0; rec = record { key = key; fields = fields } }

abbrev pub actual_rule : Form → Rule
actual_rule form = record {
  kids = 1;
  form = form;
  kid_form = λ child. actual_form form;
  holds_rest = λ child. true;
  parts = λ r. actual_part r ∷ [];
  skips = λ child span. false;
  indexes = λ name. None;
  carries = λ child name. false;
}
