-- Where the records of the layer go: each in pieces, under its key and the number of the piece.
use Rattle.std.specs.Prelude.{ℕ, suc, pos, Bool, true, false, ◌&&◌, List, [], ◌∷◌, ◌++◌, length, slice_index_or, nat_eq, nat_lt, Option, Some, None, if◌then◌else◌, negsuc}
use Rattle.std.specs.Option.{option_map}
use Rattle.gx_values.specs.declared.values.Value.{Value}
use Rattle.gx_values.specs.declared.values.Value.TheVariants as value
use Rattle.gx_values.specs.declared.records.Form.{Form}
use Rattle.gx_mapping.specs.declared.parts.Part.{Part}
use Rattle.gx_mapping.specs.Rule.{Rule}
use Rattle.gx_divide.specs.declared.layer.Divide.{Divide}
use Rattle.gx_divide.specs.Pieces.{pieces}
use Rattle.gx_divide.specs.Forms.{divide_form}

-- what contracts see of the layer: the form of the records, and how many bytes a piece has
abbrev pub form_of : Divide → Form
form_of m = m.form

abbrev pub size_of : Divide → ℕ
size_of m = m.size

-- the bytes of the one field
abbrev pub bytes_in : List Value → List ℕ
bytes_in (value.Bytes bytes ∷ vs) = bytes
bytes_in other = []

abbrev pub piece_part : List Value → ℕ → List ℕ → Part
piece_part key j piece =
    record {
      child = 0;
      rec = record {
        key = key ++ value.Int (pos j) ∷ [];
        fields = value.Bytes piece ∷ [];
      };
    }

-- pieces under their numbers, from j on
abbrev pub numbered : List Value → ℕ → List (List ℕ) → List Part
numbered key j [] = []
numbered key j (p ∷ ps) = piece_part key j p ∷ numbered key (suc j) ps

abbrev pub divide_rule : Form → ℕ → Rule
divide_rule form size = record {
  kids = 1;
  form = form;
  kid_form = λ child. divide_form size form;
  holds_rest = λ child. true;
  parts = λ r. numbered r.key 0 (pieces size (bytes_in r.fields));
  skips = λ child span. false;
  indexes = λ name. None;
  carries = λ child name. false;
}

abbrev pub rule_of : Divide → Rule
rule_of m = divide_rule (form_of m) (size_of m)

-- ---- back from the pieces

abbrev pub is_number : ℕ → Value → Bool
is_number j (value.Int (pos n)) = nat_eq n j
is_number j (value.Int (negsuc n)) = false
is_number j (value.Text t) = false
is_number j (value.Bytes t) = false

-- the part has the number j behind the first so many values of its key
abbrev pub is_at : ℕ → ℕ → Part → Bool
is_at width j p = is_number j (slice_index_or p.rec.key width (value.Int (pos 0)))

abbrev pub piece_in : Part → List ℕ
piece_in p = bytes_in p.rec.fields

-- the bytes of which these are the pieces from number j on, or none
abbrev pub joined : ℕ → ℕ → ℕ → List Part → Option (List ℕ)
joined size width j [] = None
joined size width j (p ∷ []) =
    if is_at width j p && nat_lt (length (piece_in p)) size then Some (piece_in p) else None
joined size width j (p ∷ q ∷ ps) =
    if is_at width j p && nat_eq (length (piece_in p)) size
    then option_map (λ more. piece_in p ++ more) (joined size width (suc j) (q ∷ ps)) else None
