-- The slots of a child, and the values that they take from records.
use Rattle.std.proofs.Common.{◌≡◌, ◌∙◌, ℕ, zero, suc, ◌+◌, ◌<◌, ◌≤◌, ◌/◌, List, [], ◌∷◌, length, map, get_or, Bool, true, false, not, Option, Some, None, inl, inr, refl, sym, ap, subst, arith}
use Rattle.std.specs.Prelude.{◌⊎◌, ◌^◌}
use Rattle.std.proofs.Math.Nat.{div-le_self}
use Rattle.std.proofs.lemmas.Bool.{true≢false}
use Rattle.gx_values.specs.declared.values.Code.{Code}
use Rattle.gx_values.specs.declared.values.Code.TheVariants as code
use Rattle.gx_values.specs.declared.values.Kind.{Kind}
use Rattle.gx_values.specs.declared.values.Kind.TheVariants as kind
use Rattle.gx_values.specs.declared.values.Value.{Value}
use Rattle.gx_values.specs.declared.values.Value.TheVariants as value
use Rattle.gx_values.specs.declared.records.Field.{Field}
use Rattle.gx_values.specs.Keys.{AreKeyFields}
use Rattle.gx_values.specs.Values.{Fits, AreFit, default_in, no_field, no_value}
use Rattle.gx_mapping.specs.Rule.{In}
use Rattle.gx_mapping.proofs.FieldLemmas.{fit_at}
use Rattle.gx_encode.specs.Codes.{code_of, IsCodable, IsCodeKind}
use Rattle.gx_encode.specs.Forms.{changed}
use Rattle.gx_encode.specs.Laws.{has_code}
use Rattle.gx_encode.specs.PackLaws.{same_pack}
use Rattle.gx_encode.specs.Rules.{coded, bytes_in}
use Rattle.gx_encode.specs.RunLaws.{same_rle}
use Rattle.gx_split.specs.Groups.{chosen, defaults_of}
use Rattle.gx_stack.specs.Tree.{IsLeafData, IsBytesUpTo}
use Rattle.gx_divide.specs.Forms.{is_bytes_form, most_in, most_of}
use Rattle.gx_divide.specs.Laws.{cut_count}
use Rattle.gx_divide.specs.Pieces.{pieces}
use Rattle.gx_divide.specs.Rules.{bytes_in as data_bytes}
use Rattle.gx_codec.specs.declared.slots.Slot.{Slot}
use Rattle.gx_codec.specs.Slots.{pick, AreSlots, AreStorable}
use Rattle.gx_codec.specs.Stored.{HasCode, stored_value}
use Rattle.gx_access.specs.Access.{picked, code_slot, is_free, all_slots}
use Rattle.gx_gets.specs.Restored.{IsBare}
use Rattle.gx_gets.specs.Whole.{AreDefaults}
use Rattle.gx_gets.proofs.ViewLemmas.{coded_default, plain_value}

-- ---- one slot by a code

pub slots_changed : (n i : ℕ) (c : Code) (slots : List Slot) → AreSlots n slots
    → AreSlots n (changed i (code_slot c) slots)
slots_changed n i c [] are = tt
slots_changed n zero c (s ∷ slots) are = are
slots_changed n (suc i) c (s ∷ slots) are = (are.0, slots_changed n i c slots are.1)

pub changed_there : (i : ℕ) (c : Code) (slots : List Slot) (s : Slot) → In s slots
    → (t : Slot) × In t (changed i (code_slot c) slots) × (t.number ≡ s.number)
changed_there i c [] s h = absurd h
changed_there zero c (x ∷ slots) s (inl is) =
    (code_slot c x, inl refl, ap (λ (y : Slot). y.number) (sym is))
changed_there zero c (x ∷ slots) s (inr h) = (s, inr h, refl)
changed_there (suc i) c (x ∷ slots) s (inl is) = (s, inl is, refl)
changed_there (suc i) c (x ∷ slots) s (inr h) =
    let t = changed_there i c slots s h in (t.0, inr t.1, t.2)

pub changed_from : (i : ℕ) (c : Code) (slots : List Slot) (s : Slot)
    → In s (changed i (code_slot c) slots) → (t : Slot) × In t slots × (s.number ≡ t.number)
changed_from i c [] s h = absurd h
changed_from zero c (x ∷ slots) s (inl is) = (x, inl refl, ap (λ (y : Slot). y.number) is)
changed_from zero c (x ∷ slots) s (inr h) = (s, inr h, refl)
changed_from (suc i) c (x ∷ slots) s (inl is) = (s, inl is, refl)
changed_from (suc i) c (x ∷ slots) s (inr h) =
    let t = changed_from i c slots s h in (t.0, inr t.1, t.2)

pub storable_changed : (fields : List Field) (vs : List Value) (own : List Field) (i : ℕ) (c : Code)
    (slots : List Slot) → AreStorable fields slots vs → is_free i slots ≡ true → i < length own
    → IsCodeKind c (get_or own i no_field).kind → AreFit own (picked vs slots)
    → AreStorable fields (changed i (code_slot c) slots) vs
storable_changed fields vs [] i c slots are free below is fit = absurd (omega arith)
storable_changed fields vs (f ∷ own) i c [] are free below is fit = absurd fit
storable_changed fields vs (f ∷ own) zero c (s ∷ slots) are free below is fit =
    let v = get_or vs s.number no_value in (
      are.0,
      has_code c f.kind v is (subst (Fits f.kind) (plain_value s.code v free) fit.0),
      are.2,
    )
storable_changed fields vs (f ∷ own) (suc i) c (s ∷ slots) are free below is fit =
    (are.0, are.1, storable_changed fields vs own i c slots are.2 free (omega arith) is fit.1)

-- ---- those that a mask chooses

pub slots_chosen : (n : ℕ) (mask : List Bool) (slots : List Slot) → AreSlots n slots
    → AreSlots n (chosen mask slots)
slots_chosen n [] slots are = tt
slots_chosen n (b ∷ mask) [] are = tt
slots_chosen n (true ∷ mask) (s ∷ slots) are = (are.0, slots_chosen n mask slots are.1)
slots_chosen n (false ∷ mask) (s ∷ slots) are = slots_chosen n mask slots are.1

pub storable_chosen : (fields : List Field) (vs : List Value) (mask : List Bool) (slots : List Slot)
    → AreStorable fields slots vs → AreStorable fields (chosen mask slots) vs
storable_chosen fields vs [] slots are = tt
storable_chosen fields vs (b ∷ mask) [] are = tt
storable_chosen fields vs (true ∷ mask) (s ∷ slots) are =
    (are.0, are.1, storable_chosen fields vs mask slots are.2)
storable_chosen fields vs (false ∷ mask) (s ∷ slots) are =
    storable_chosen fields vs mask slots are.2

pub chosen_from : {A : Type 0} (mask : List Bool) (xs : List A) (x : A) → In x (chosen mask xs)
    → In x xs
chosen_from [] xs x h = absurd h
chosen_from (b ∷ mask) [] x h = absurd h
chosen_from (true ∷ mask) (y ∷ xs) x (inl is) = inl is
chosen_from (true ∷ mask) (y ∷ xs) x (inr h) = inr (chosen_from mask xs x h)
chosen_from (false ∷ mask) (y ∷ xs) x h = inr (chosen_from mask xs x h)

pub chosen_either : {A : Type 0} (mask : List Bool) (xs : List A) (x : A)
    → length xs ≤ length mask → In x xs
    → In x (chosen mask xs) ⊎ In x (chosen (map not mask) xs)
chosen_either mask [] x long h = absurd h
chosen_either [] (y ∷ xs) x long h = absurd (omega (arith, long))
chosen_either (true ∷ mask) (y ∷ xs) x long (inl is) = inl (inl is)
chosen_either (false ∷ mask) (y ∷ xs) x long (inl is) = inr (inl is)
chosen_either (true ∷ mask) (y ∷ xs) x long (inr h) =
    elim (chosen_either mask xs x (omega (arith, long)) h) [
      | inl a ↦ inl (inr a)
      | inr b ↦ inr b
    ]
chosen_either (false ∷ mask) (y ∷ xs) x long (inr h) =
    elim (chosen_either mask xs x (omega (arith, long)) h) [
      | inl a ↦ inl a
      | inr b ↦ inr (inr b)
    ]

-- ---- defaults

-- a default that fits another kind is the default of that one
kind_default : (k l : Kind) → Fits l (default_in k) → default_in k ≡ default_in l
kind_default kind.Int kind.Int fit = refl
kind_default kind.Int (kind.Text m) fit = absurd fit
kind_default kind.Int (kind.Bytes m) fit = absurd fit
kind_default (kind.Text n) kind.Int fit = absurd fit
kind_default (kind.Text n) (kind.Text m) fit = refl
kind_default (kind.Text n) (kind.Bytes m) fit = absurd fit
kind_default (kind.Bytes n) kind.Int fit = absurd fit
kind_default (kind.Bytes n) (kind.Text m) fit = absurd fit
kind_default (kind.Bytes n) (kind.Bytes m) fit = refl

bytes_default : (k : Kind) (bytes : List ℕ) → Fits k (value.Bytes bytes)
    → default_in k ≡ value.Bytes []
bytes_default kind.Int bytes fit = absurd fit
bytes_default (kind.Text m) bytes fit = absurd fit
bytes_default (kind.Bytes m) bytes fit = refl

same_coded : (c : Code) (k : Kind) (v w : Value) → IsCodable c v → IsCodable c w → Fits k v
    → Fits k w → code_of c v ≡ code_of c w → v ≡ w
same_coded code.Pack kind.Int (value.Int m) (value.Int n) a b f g e =
    ap value.Int (same_pack m n f g e)
same_coded code.Pack (kind.Text most) (value.Int m) w a b f g e = absurd f
same_coded code.Pack (kind.Bytes most) (value.Int m) w a b f g e = absurd f
same_coded code.Pack k (value.Text t) w a b f g e = absurd a
same_coded code.Pack k (value.Bytes t) w a b f g e = absurd a
same_coded code.Pack k v (value.Text t) a b f g e = absurd b
same_coded code.Pack k v (value.Bytes t) a b f g e = absurd b
same_coded code.Rle k (value.Text t) (value.Text u) a b f g e = ap value.Text (same_rle t u e)
same_coded code.Rle k (value.Int n) w a b f g e = absurd a
same_coded code.Rle k (value.Bytes t) w a b f g e = absurd a
same_coded code.Rle k v (value.Int n) a b f g e = absurd b
same_coded code.Rle k v (value.Bytes t) a b f g e = absurd b

-- a value that is stored as a default is one, where the default of its field is stored so too
one_default : (o : Option Code) (k l : Kind) (v w : Value) → HasCode o v → HasCode o w → Fits k v
    → Fits k w → w ≡ default_in k → Fits l (stored_value o w) → stored_value o v ≡ default_in l
    → v ≡ w
one_default None k l v w a b f g is fit e =
    e ∙ sym (kind_default k l (subst (Fits l) is fit)) ∙ sym is
one_default (Some c) k l v w a b f g is fit e =
    let none : value.Bytes [] ≡ coded c w = coded_default c k ∙ ap (coded c) (sym is) in
    same_coded c k v w a b f g
    (ap bytes_in (e ∙ bytes_default l (code_of c w) fit ∙ none))

default_there : (fields : List Field) (n : ℕ) → n < length fields
    → get_or (defaults_of fields) n no_value ≡ default_in (get_or fields n no_field).kind
default_there [] n below = absurd (omega arith)
default_there (f ∷ fields) zero below = refl
default_there (f ∷ fields) (suc n) below = default_there fields n (omega arith)

pub slots_default : (fields own : List Field) (slots : List Slot) (vs : List Value)
    → AreSlots (length fields) slots → AreStorable fields slots vs
    → AreStorable fields slots (defaults_of fields) → AreFit own (picked (defaults_of fields) slots)
    → picked vs slots ≡ defaults_of own → AreDefaults fields slots vs
slots_default fields own [] vs are store store_d fit e = λ s h. absurd h
slots_default fields [] (t ∷ slots) vs are store store_d fit e = absurd fit
slots_default fields (f ∷ own) (t ∷ slots) vs are store store_d fit e =
    let ds = defaults_of fields in
    let v = get_or vs t.number no_value in
    let w = get_or ds t.number no_value in
    let here : v ≡ w =
    one_default t.code (get_or fields t.number no_field).kind f.kind v w store.1 store_d.1 store.0
    store_d.0 (default_there fields t.number are.0) fit.0 (ap (λ (l : List Value). get_or l 0 v) e)
    in
    let rest = slots_default fields own slots vs are.1 store.2 store_d.2 fit.1 (ap tail e) in
    λ s h. elim h [
      | inl is ↦ subst (λ (x : Slot). get_or vs x.number no_value ≡ get_or ds x.number no_value)
          (sym is) here
      | inr k ↦ rest s k
    ]
  where
    tail : List Value → List Value
    tail [] = []
    tail (x ∷ xs) = xs

-- ---- what stands bare

default_bytes : (k : Kind) (most : ℕ) → Fits (kind.Bytes most) (default_in k)
    → (m : ℕ) × (k ≡ kind.Bytes m)
default_bytes kind.Int most fit = absurd fit
default_bytes (kind.Text n) most fit = absurd fit
default_bytes (kind.Bytes n) most fit = (n, refl)

key_at : (fields : List Field) (n : ℕ) (m : ℕ) → AreKeyFields fields
    → (get_or fields n no_field).kind ≡ kind.Bytes m → ⊥
key_at [] n m keys e = cc
key_at (f ∷ fields) zero m keys e =
    subst (λ k. Key k) e keys.0
  where
    Key : Kind → Type 0
    Key kind.Int = Unit {0}
    Key (kind.Text most) = Unit {0}
    Key (kind.Bytes most) = ⊥
key_at (f ∷ fields) (suc n) m keys e = key_at fields n m keys.1 e

-- a field whose default stands as bytes has a code
one_bare : (fields : List Field) (s : Slot) (l : Kind) (most : ℕ) → AreKeyFields fields
    → s.number < length fields → l ≡ kind.Bytes most → Fits l (pick (defaults_of fields) s)
    → IsBare (s ∷ [])
one_bare fields s l most keys below is fit = by_code s.code refl
  where
    by_code : (o : Option Code) → s.code ≡ o → (c : Code) × (s.code ≡ Some c)
    by_code (Some c) e = (c, e)
    by_code None e =
        let w : get_or (defaults_of fields) s.number no_value
        ≡ default_in (get_or fields s.number no_field).kind =
        default_there fields s.number below in
        let plain : Fits (kind.Bytes most) (default_in (get_or fields s.number no_field).kind) =
        subst (Fits (kind.Bytes most)) w
        (subst (λ o. Fits (kind.Bytes most) (stored_value o (get_or (defaults_of fields) s.number no_value)))
        e (subst (λ k. Fits k (pick (defaults_of fields) s)) is fit)) in
        let b = default_bytes (get_or fields s.number no_field).kind most plain in
        absurd (key_at fields s.number b.0 keys b.1)

up_to_bytes : (k : Kind) (most : ℕ) → IsBytesUpTo k most → (m : ℕ) × (k ≡ kind.Bytes m)
up_to_bytes kind.Int most is = absurd is
up_to_bytes (kind.Text n) most is = absurd is
up_to_bytes (kind.Bytes n) most is = (n, refl)

pub leaf_bare : (fields own : List Field) (slots : List Slot) (most : ℕ) → AreKeyFields fields
    → AreSlots (length fields) slots → IsLeafData own most
    → AreFit own (picked (defaults_of fields) slots) → IsBare slots
leaf_bare fields own [] most keys are data_is fit = tt
leaf_bare fields [] (s ∷ slots) most keys are data_is fit = absurd fit
leaf_bare fields (f ∷ []) (s ∷ t ∷ slots) most keys are data_is fit = absurd fit.1
leaf_bare fields (f ∷ []) (s ∷ []) most keys are data_is fit =
    let b = up_to_bytes f.kind most data_is in
    one_bare fields s f.kind b.0 keys are.0 b.1 fit.0
leaf_bare fields (f ∷ g ∷ own) (s ∷ slots) most keys are data_is fit = absurd data_is

is_bytes_kind : (fs : List Field) (f : Field) → is_bytes_form (f ∷ []) ≡ true
    → (m : ℕ) × (f.kind ≡ kind.Bytes m)
is_bytes_kind fs f is = by_kind f.kind refl
  where
    by_kind : (k : Kind) → f.kind ≡ k → (m : ℕ) × (f.kind ≡ kind.Bytes m)
    by_kind kind.Int e = cc
    by_kind (kind.Text n) e = cc
    by_kind (kind.Bytes n) e = (n, e)

pub cut_bare : (fields own : List Field) (slots : List Slot) → AreKeyFields fields
    → AreSlots (length fields) slots → is_bytes_form own ≡ true
    → AreFit own (picked (defaults_of fields) slots) → IsBare slots
cut_bare fields own [] keys are is fit = tt
cut_bare fields [] (s ∷ slots) keys are is fit = absurd fit
cut_bare fields (f ∷ []) (s ∷ t ∷ slots) keys are is fit = absurd fit.1
cut_bare fields (f ∷ []) (s ∷ []) keys are is fit =
    let b = is_bytes_kind [] f is in one_bare fields s f.kind b.0 keys are.0 b.1 fit.0
cut_bare fields (f ∷ g ∷ own) (s ∷ slots) keys are is fit = absurd (true≢false (sym is))

-- ---- how many pieces there are

most_bytes : (own : List Field) (vs : List Value) → is_bytes_form own ≡ true → AreFit own vs
    → length (data_bytes vs) ≤ most_in own
most_bytes [] vs is fit = absurd (true≢false (sym is))
most_bytes (f ∷ g ∷ own) vs is fit = absurd (true≢false (sym is))
most_bytes (f ∷ []) [] is fit = absurd fit
most_bytes (f ∷ []) (v ∷ vs) is fit = by_kind f.kind v (is_bytes_kind [] f is).1 fit.0
  where
    by_kind : (k : Kind) (v : Value) → k ≡ kind.Bytes (is_bytes_kind [] f is).0 → Fits k v
        → length (data_bytes (v ∷ vs)) ≤ most_of k
    by_kind kind.Int v e fit = cc
    by_kind (kind.Text n) v e fit = cc
    by_kind (kind.Bytes n) (value.Int m) e fit = absurd fit
    by_kind (kind.Bytes n) (value.Text text) e fit = absurd fit
    by_kind (kind.Bytes n) (value.Bytes bytes) e fit = fit

pub pieces_few : (own : List Field) (vs : List Value) (size : ℕ) → is_bytes_form own ≡ true
    → most_in own ≤ 65535 → AreFit own vs → length (pieces size (data_bytes vs)) ≤ 2 ^ 63
pieces_few own vs size is narrow fit = omega (
  arith,
  narrow,
  most_bytes own vs is fit,
  cut_count (length (data_bytes vs) / size) size (data_bytes vs),
  div-le_self (length (data_bytes vs)) size,
)

-- ---- the slots of whole records

whole_slots_from : (i n m : ℕ) → i + n ≤ m → AreSlots m (all_slots i n)
whole_slots_from i zero m below = tt
whole_slots_from i (suc n) m below = (omega (arith, below), whole_slots_from (suc i) n m (omega (arith, below)))

pub whole_slots : (n : ℕ) → AreSlots n (all_slots 0 n)
whole_slots n = whole_slots_from 0 n n (omega arith)

plain_storable : (fields : List Field) (vs : List Value) (i n : ℕ) → AreFit fields vs
    → i + n ≤ length fields → AreStorable fields (all_slots i n) vs
plain_storable fields vs i zero fit below = tt
plain_storable fields vs i (suc n) fit below = (
  fit_at i fields vs no_field no_value fit (omega (arith, below)),
  tt,
  plain_storable fields vs (suc i) n fit (omega (arith, below)),
)

pub whole_storable : (fields : List Field) (vs : List Value) → AreFit fields vs
    → AreStorable fields (all_slots 0 (length fields)) vs
whole_storable fields vs fit = plain_storable fields vs 0 (length fields) fit (omega arith)

slot_from : (i n m : ℕ) → i ≤ m → m < i + n
    → (s : Slot) × In s (all_slots i n) × (s.number ≡ m)
slot_from i zero m from below = absurd (omega (arith, from, below))
slot_from i (suc n) m from below =
    elim (le_cases i m from) [
      | inl is ↦ (record { number = i; code = None }, inl refl, is)
      | inr more ↦ (let s = slot_from (suc i) n m more (omega (arith, below)) in (s.0, inr s.1, s.2))
    ]
  where
    le_cases : (i m : ℕ) → i ≤ m → (i ≡ m) ⊎ (suc i ≤ m)
    le_cases zero zero from = inl refl
    le_cases zero (suc m) from = inr (omega arith)
    le_cases (suc i) zero from = absurd (omega (arith, from))
    le_cases (suc i) (suc m) from = elim (le_cases i m (omega (arith, from))) [
      | inl is ↦ inl (ap suc is)
      | inr more ↦ inr (omega (arith, more))
    ]

-- each field has one
pub slot_of_field : (n m : ℕ) → m < n → (s : Slot) × In s (all_slots 0 n) × (s.number ≡ m)
slot_of_field n m below = slot_from 0 n m (omega arith) (omega (arith, below))
