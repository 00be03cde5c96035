-- What a view picks of records, and how it is tested.
use Rattle.std.proofs.Common.{◌≡◌, ◌∙◌, ℕ, zero, suc, List, [], ◌∷◌, length, map, get_or, Bool, true, false, Option, Some, None, refl, sym, ap}
use Rattle.std.specs.Prelude.{◌&&◌, is_none}
use Rattle.std.proofs.lemmas.Bool.{true≢false}
use Rattle.gx_values.specs.declared.values.Code.{Code}
use Rattle.gx_values.specs.declared.values.Code.TheVariants as code
use Rattle.gx_values.specs.declared.values.Kind.{Kind}
use Rattle.gx_values.specs.declared.values.Kind.TheVariants as kind
use Rattle.gx_values.specs.declared.values.Value.{Value}
use Rattle.gx_values.specs.declared.values.Value.TheVariants as value
use Rattle.gx_values.specs.declared.records.Field.{Field}
use Rattle.gx_values.specs.Values.{default_in, is_default, no_value}
use Rattle.gx_encode.specs.Forms.{changed}
use Rattle.gx_encode.specs.Rules.{coded}
use Rattle.gx_split.specs.Groups.{chosen, are_default}
use Rattle.gx_codec.specs.declared.slots.Slot.{Slot}
use Rattle.gx_codec.specs.Slots.{pick}
use Rattle.gx_codec.specs.Stored.{stored_value}
use Rattle.gx_access.specs.declared.access.Tested.{Tested}
use Rattle.gx_access.specs.Access.{picked, tested, all_default, all_slots, code_slot, is_free}

pub chosen_map : {A B : Type 0} (f : A → B) (mask : List Bool) (xs : List A)
    → chosen mask (map f xs) ≡ map f (chosen mask xs)
chosen_map f [] xs = refl
chosen_map f (b ∷ mask) [] = refl
chosen_map f (true ∷ mask) (x ∷ xs) = ap (λ ys. f x ∷ ys) (chosen_map f mask xs)
chosen_map f (false ∷ mask) (x ∷ xs) = chosen_map f mask xs

-- a test of the values is one of the slots
pub tested_default : (vs : List Value) (fields : List Field) (slots : List Slot)
    → are_default fields (picked vs slots) ≡ all_default (tested fields slots) vs
tested_default vs [] slots = refl
tested_default vs (f ∷ fields) [] = refl
tested_default vs (f ∷ fields) (s ∷ slots) =
    ap (λ b. is_default f (pick vs s) && b) (tested_default vs fields slots)

tested_none : (fields : List Field) → tested fields [] ≡ []
tested_none [] = refl
tested_none (f ∷ fields) = refl

-- the marked fields with their slots
pub chosen_tested : (mask : List Bool) (fields : List Field) (slots : List Slot)
    → chosen mask (tested fields slots) ≡ tested (chosen mask fields) (chosen mask slots)
chosen_tested [] fields slots = refl
chosen_tested (b ∷ mask) [] slots = refl
chosen_tested (b ∷ mask) (f ∷ fields) [] = sym (tested_none (chosen (b ∷ mask) (f ∷ fields)))
chosen_tested (true ∷ mask) (f ∷ fields) (s ∷ slots) =
    ap (λ (g : List Tested). record { slot = s; field = f } ∷ g) (chosen_tested mask fields slots)
chosen_tested (false ∷ mask) (f ∷ fields) (s ∷ slots) = chosen_tested mask fields slots

pub plain_value : (c : Option Code) (v : Value) → is_none c ≡ true → stored_value c v ≡ v
plain_value None v is = refl
plain_value (Some c) v is = absurd (true≢false (sym is))

-- one value by its code is one slot with the code
pub changed_picked : (i : ℕ) (c : Code) (vs : List Value) (slots : List Slot) → is_free i slots ≡ true
    → changed i (coded c) (picked vs slots) ≡ picked vs (changed i (code_slot c) slots)
changed_picked i c vs [] is = refl
changed_picked zero c vs (s ∷ slots) is =
    ap (λ v. coded c v ∷ picked vs slots) (plain_value s.code (get_or vs s.number no_value) is)
changed_picked (suc i) c vs (s ∷ slots) is =
    ap (λ ys. pick vs s ∷ ys) (changed_picked i c vs slots is)

-- a default by its code has no byte
pub coded_default : (c : Code) (k : Kind) → value.Bytes [] ≡ coded c (default_in k)
coded_default code.Pack kind.Int = refl
coded_default code.Pack (kind.Text most) = refl
coded_default code.Pack (kind.Bytes most) = refl
coded_default code.Rle kind.Int = refl
coded_default code.Rle (kind.Text most) = refl
coded_default code.Rle (kind.Bytes most) = refl

shifted : (v : Value) (vs : List Value) (i n : ℕ)
    → picked (v ∷ vs) (all_slots (suc i) n) ≡ picked vs (all_slots i n)
shifted v vs i zero = refl
shifted v vs i (suc n) = ap (λ ws. get_or vs i no_value ∷ ws) (shifted v vs (suc i) n)

pub whole_values : (vs : List Value) → picked vs (all_slots 0 (length vs)) ≡ vs
whole_values [] = refl
whole_values (v ∷ vs) = ap (λ ws. v ∷ ws) (shifted v vs 0 (length vs) ∙ whole_values vs)
