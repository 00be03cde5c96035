-- The bytes of defaults.
use Rattle.std.proofs.Common.{◌≡◌, ℕ, zero, suc, ◌+◌, ◌<◌, ◌≤◌, List, [], ◌∷◌, ◌++◌, length, get_or, take, refl, sym, ap, ◌∙◌, arith, append_assoc, append-nil, add-one, Option, Some, None, true, false}
use Rattle.std.specs.Prelude.{is_some}
use Rattle.std.proofs.lemmas.Bool.{true≢false}
use Rattle.gx_values.specs.declared.values.Code.{Code}
use Rattle.gx_values.specs.declared.values.Code.TheVariants as code
use Rattle.gx_values.specs.declared.values.Kind.{Kind}
use Rattle.gx_values.specs.declared.values.Kind.TheVariants as kind
use Rattle.gx_values.specs.declared.values.Value.{Value}
use Rattle.gx_values.specs.declared.values.Value.TheVariants as value
use Rattle.gx_values.specs.declared.records.Field.{Field}
use Rattle.gx_values.specs.Values.{default_in, default_of, no_value}
use Rattle.gx_actual.specs.Bodies.{field_bytes, body_of, HasLength}
use Rattle.gx_encode.specs.Rules.{coded}
use Rattle.gx_split.specs.Groups.{defaults_of}
use Rattle.gx_codec.specs.declared.slots.Slot.{Slot}
use Rattle.gx_codec.specs.Stored.{stored_value}
use Rattle.gx_codec.specs.Slots.{pick}
use Rattle.gx_access.specs.Access.{picked}

body_suc : (vs : List Value) (slots : List Slot) (i : ℕ) (d : Slot) → i < length slots
    → body_of (picked vs (take (suc i) slots))
    ≡ body_of (picked vs (take i slots)) ++ field_bytes (pick vs (get_or slots i d))
body_suc vs [] i d below = absurd (omega arith)
body_suc vs (s ∷ slots) zero d below = append-nil (field_bytes (pick vs s))
body_suc vs (s ∷ slots) (suc i) d below =
    ap (λ bytes. field_bytes (pick vs s) ++ bytes) (body_suc vs slots i d (omega arith))
    ∙ sym (append_assoc (field_bytes (pick vs s)) (body_of (picked vs (take i slots)))
    (field_bytes (pick vs (get_or slots i d))))

-- the value of one slot more
pub body_more : (vs : List Value) (slots : List Slot) (i : ℕ) (d : Slot) → i < length slots
    → body_of (picked vs (take (i + 1) slots))
    ≡ body_of (picked vs (take i slots)) ++ field_bytes (pick vs (get_or slots i d))
body_more vs slots i d below =
    ap (λ n. body_of (picked vs (take n slots))) (add-one i) ∙ body_suc vs slots i d below

-- a default by its code has no byte
coded_default : (c : Code) (k : Kind) → value.Bytes [] ≡ coded c (default_in k)
coded_default code.Pack kind.Int = refl
coded_default code.Pack (kind.Text most) = refl
coded_default code.Pack (kind.Bytes most) = refl
coded_default code.Rle kind.Int = refl
coded_default code.Rle (kind.Text most) = refl
coded_default code.Rle (kind.Bytes most) = refl

default_at : (fields : List Field) (n : ℕ)
    → (k : Kind) × (get_or (defaults_of fields) n no_value ≡ default_in k)
default_at [] n = (kind.Int, refl)
default_at (f ∷ fields) zero = (f.kind, refl)
default_at (f ∷ fields) (suc n) = default_at fields n

pub default_coded : (fields : List Field) (s : Slot) → is_some s.code ≡ true
    → value.Bytes [] ≡ pick (defaults_of fields) s
default_coded fields s is = by_code s.code is
  where
    by_code : (o : Option Code) → is_some o ≡ true
        → value.Bytes [] ≡ stored_value o (get_or (defaults_of fields) s.number no_value)
    by_code None is = absurd (true≢false (sym is))
    by_code (Some c) is =
        let at = default_at fields s.number in
        coded_default c at.0 ∙ ap (coded c) (sym at.1)

plain_pick : (fields : List Field) (s : Slot) → is_some s.code ≡ false
    → get_or (defaults_of fields) s.number no_value ≡ pick (defaults_of fields) s
plain_pick fields s is = by_code s.code is
  where
    by_code : (o : Option Code) → is_some o ≡ false
        → get_or (defaults_of fields) s.number no_value
        ≡ stored_value o (get_or (defaults_of fields) s.number no_value)
    by_code None is = refl
    by_code (Some c) is = absurd (true≢false is)

get_default : (fields : List Field) (n : ℕ) (f : Field) → n < length fields
    → default_of (get_or fields n f) ≡ get_or (defaults_of fields) n no_value
get_default [] n f below = absurd (omega arith)
get_default (g ∷ fields) zero f below = refl
get_default (g ∷ fields) (suc n) f below = get_default fields n f (omega arith)

pub default_plain : (fields : List Field) (s : Slot) (f : Field) → is_some s.code ≡ false
    → s.number < length fields → f ≡ get_or fields s.number f
    → default_of f ≡ pick (defaults_of fields) s
default_plain fields s f plain below is =
    ap default_of is ∙ get_default fields s.number f below ∙ plain_pick fields s plain

pub default_none : (fields : List Field) (s : Slot) → is_some s.code ≡ false
    → length fields ≤ s.number → no_value ≡ pick (defaults_of fields) s
default_none fields s plain past = none fields s.number past ∙ plain_pick fields s plain
  where
    none : (fields : List Field) (n : ℕ) → length fields ≤ n
        → no_value ≡ get_or (defaults_of fields) n no_value
    none [] n past = refl
    none (g ∷ fields) zero past = absurd (omega arith)
    none (g ∷ fields) (suc n) past = none fields n (omega arith)

pub default_short : (f : Field) → HasLength (default_of f)
default_short f = by_kind f.kind
  where
    by_kind : (k : Kind) → HasLength (default_in k)
    by_kind kind.Int = tt
    by_kind (kind.Text most) = omega arith
    by_kind (kind.Bytes most) = omega arith
