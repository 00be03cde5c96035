-- The forms of the layer.
use Rattle.std.specs.Prelude.{ℕ, zero, suc, ◌<◌, List, [], ◌∷◌, length, slice_index_or}
use Rattle.std.specs.Coded.{le_prop}
use Rattle.gx_values.specs.declared.values.Code.{Code}
use Rattle.gx_values.specs.declared.values.Kind.TheVariants as kind
use Rattle.gx_values.specs.declared.records.Field.{Field}
use Rattle.gx_values.specs.declared.records.Form.{Form}
use Rattle.gx_values.specs.Values.{no_field, coded_kind}
use Rattle.gx_encode.specs.Codes.{IsCodeKind, IsCodeKind-prop}

-- with another one in the place of the one with the number
abbrev pub changed : {A : Type 0} → ℕ → (A → A) → List A → List A
changed i change [] = []
changed zero change (x ∷ xs) = change x ∷ xs
changed (suc i) change (x ∷ xs) = x ∷ changed i change xs

abbrev pub coded_field : Code → Field → Field
coded_field c field = record { name = field.name; kind = coded_kind c field.kind }

-- the same fields, one of them by its code
abbrev pub encode_form : ℕ → Code → Form → Form
encode_form i c form = record { keys = form.keys; fields = changed i (coded_field c) form.fields }

-- the data field is one of the form, and has a code
pub record IsEncode (form : Form) (i : ℕ) (c : Code) : Type 0 where
  pub place : i < length form.fields
  pub kind : IsCodeKind c (slice_index_or form.fields i no_field).kind

pub IsEncode-prop : (form : Form) (i : ℕ) (c : Code) → IsProp (IsEncode form i c)
IsEncode-prop form i c a b = λ j. record {
  place = le_prop a.place b.place j;
  kind = IsCodeKind-prop c (slice_index_or form.fields i no_field).kind a.kind b.kind j;
}
