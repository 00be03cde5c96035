-- The conditions of heads, as tests.
use Rattle.std.specs.Prelude.{ℕ, Bool, true, false, ◌&&◌, not, List, [], ◌∷◌, length, is_some, nat_le, if◌then◌else◌}
use Rattle.std.specs.List.{list_all, list_any}
use Rattle.std.specs.Ordering.{is_lt}
use Rattle.gx_values.specs.declared.values.Code.{Code}
use Rattle.gx_values.specs.declared.values.Code.TheVariants as codes
use Rattle.gx_values.specs.declared.values.Kind.{Kind}
use Rattle.gx_values.specs.declared.values.Kind.TheVariants as kinds
use Rattle.gx_values.specs.declared.values.Value.{Value}
use Rattle.gx_values.specs.declared.values.Value.TheVariants as values
use Rattle.gx_values.specs.declared.records.Field.{Field}
use Rattle.gx_values.specs.declared.records.Form.{Form}
use Rattle.gx_values.specs.Values.{value_cmp, is_printable, kind_in}
use Rattle.gx_forms.specs.Fields.{has_name}

-- ints and texts
abbrev pub is_key_kind : Kind → Bool
is_key_kind kinds.Int = true
is_key_kind (kinds.Text most) = true
is_key_kind (kinds.Bytes most) = false

-- `pack` is for ints, `rle` for texts
abbrev pub is_coded : Code → Kind → Bool
is_coded codes.Pack kinds.Int = true
is_coded codes.Rle (kinds.Text most) = true
is_coded code other = false

-- the value may bound a field of the kind: every int one of ints, and a text one of texts that it
-- fits
abbrev pub is_bound : Kind → Value → Bool
is_bound kinds.Int (values.Int n) = true
is_bound (kinds.Text most) (values.Text text) =
    nat_le (length text) most && list_all is_printable text
is_bound kind other = false

-- each bound is smaller than the next
abbrev pub ascends : List Value → Bool
ascends [] = true
ascends (b ∷ []) = true
ascends (b ∷ c ∷ bs) = if is_lt (value_cmp b c) then ascends (c ∷ bs) else false

-- a data field has the name, and no key field has it
abbrev pub is_data : Form → List ℕ → Bool
is_data form name = not (is_some (kind_in form.keys name)) && is_some (kind_in form.fields name)

-- each is the name of a data field, and stands once
abbrev pub are_data : Form → List (List ℕ) → Bool
are_data form [] = true
are_data form (name ∷ names) =
    if is_data form name && not (has_name names name) then are_data form names else false

-- a field has a name other than these
abbrev pub leaves_some : List Field → List (List ℕ) → Bool
leaves_some fields names = list_any (λ f. not (has_name names f.name)) fields
