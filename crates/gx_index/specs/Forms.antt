-- The forms of the layer.
use Rattle.std.specs.Prelude.{ℕ, ◌<◌, [], ◌∷◌, length, slice_index_or}
use Rattle.std.specs.Coded.{le_prop}
use Rattle.std.proofs.Common.{refl}
use Rattle.gx_values.specs.declared.values.Kind.{Kind}
use Rattle.gx_values.specs.declared.values.Kind.TheVariants as kind
use Rattle.gx_values.specs.declared.records.Form.{Form}
use Rattle.gx_values.specs.Keys.{IsKeyKind}
use Rattle.gx_values.specs.Values.{no_field}

-- the data field of the number and then the key, and no data
abbrev pub entry_form : ℕ → Form → Form
entry_form i form = record { keys = slice_index_or form.fields i no_field ∷ form.keys; fields = [] }

-- the data field is one of the form, and may stand in a key
pub record CanIndex (form : Form) (i : ℕ) : Type 0 where
  pub place : i < length form.fields
  pub kind : IsKeyKind (slice_index_or form.fields i no_field).kind

IsKeyKind-prop : (k : Kind) → IsProp (IsKeyKind k)
IsKeyKind-prop kind.Int a b = refl
IsKeyKind-prop (kind.Text most) a b = refl
IsKeyKind-prop (kind.Bytes most) a b = absurd a

pub CanIndex-prop : (form : Form) (i : ℕ) → IsProp (CanIndex form i)
CanIndex-prop form i a b = λ j. record {
  place = le_prop a.place b.place j;
  kind = IsKeyKind-prop (slice_index_or form.fields i no_field).kind a.kind b.kind j;
}
