-- Records some of whose data fields stand by their codes. Of each data field, from the first on, it
-- is told whether it has a code and which; those past the last that is told of have none.
use Rattle.std.specs.Prelude.{[], ◌≡◌, ◌≢◌, ℕ, zero, suc, List, ◌∷◌, Option, Some, None, slice_index_or}
use Rattle.gx_values.specs.declared.values.Code.{Code}
use Rattle.gx_values.specs.declared.values.Value.{Value}
use Rattle.gx_values.specs.declared.records.Rec.{Rec}
use Rattle.gx_values.specs.Values.{no_value}
use Rattle.gx_actual.specs.Rules.{actual_rec}
use Rattle.gx_encode.specs.Codes.{IsCodable}
use Rattle.gx_encode.specs.Forms.{changed}
use Rattle.gx_encode.specs.Rules.{coded}

-- the code of a field, if it has one
abbrev pub code_at : List (Option Code) → ℕ → Option Code
code_at [] i = None
code_at (c ∷ cs) zero = c
code_at (c ∷ cs) (suc i) = code_at cs i

-- a value, by its code where its field has one
abbrev pub stored_value : Option Code → Value → Value
stored_value None v = v
stored_value (Some c) v = coded c v

abbrev pub stored_values : List (Option Code) → List Value → List Value
stored_values [] vs = vs
stored_values (c ∷ cs) [] = []
stored_values (c ∷ cs) (v ∷ vs) = stored_value c v ∷ stored_values cs vs

abbrev pub stored_rec : List (Option Code) → Rec → Rec
stored_rec cs r = record { key = r.key; fields = stored_values cs r.fields }

-- a record below so many layers `actual`
abbrev pub wrapped : ℕ → Rec → Rec
wrapped zero r = r
wrapped (suc n) r = actual_rec (wrapped n r)

-- the value has the code of its field
abbrev pub HasCode : Option Code → Value → Type 0
HasCode None v = Unit {0}
HasCode (Some c) v = IsCodable c v

abbrev pub HaveCodes : List (Option Code) → List Value → Type 0
HaveCodes [] vs = Unit {0}
HaveCodes (c ∷ cs) [] = Unit {0}
HaveCodes (c ∷ cs) (v ∷ vs) = HasCode c v × HaveCodes cs vs

-- the codes with one more, of a field that had none
pub record IsWithCode (cs : List (Option Code)) (i : ℕ) (c : Code)
    (ds : List (Option Code)) : Type 0 where
  pub some : ds ≢ []
  pub values : (vs : List Value) → stored_values ds vs ≡ changed i (coded c) (stored_values cs vs)
  pub have : (vs : List Value) → HaveCodes cs vs
      → IsCodable c (slice_index_or (stored_values cs vs) i no_value) → HaveCodes ds vs
