-- Counts of the entries of leaves.
use Rattle.std.proofs.Common.{◌≡◌, ◌<◌, ℕ, zero, suc, Bool, true, cond, List, [], ◌∷◌, length, get_or, set, inl, inr, refl, sym, ap, subst, ◌∙◌}
use Rattle.std.specs.Prelude.{Option, Some, None, slice_get, replicate}
use Rattle.std.specs.List.{filter}
use Rattle.std.specs.FinMap as fin
use Rattle.std.proofs.lemmas.Bool.Decides.{eqb_tells}
use Rattle.std.proofs.lemmas.List.{length-map, length-set, get_or-set_same, get_or-set_other}
use Rattle.std.proofs.lemmas.Option.{slice_get_within, slice_get-get_or, get_or_from_slice_get, same_Some}
use Rattle.gx_values.specs.Keys.{is_inside}
use Rattle.gx_values.proofs.OrderLemmas.{all_inside}
use Rattle.gx_ports.specs.LeafMaps.{LeafMap, map_at, entry_of, selected}
use Rattle.gx_stack.specs.Held.{AreCounts}

keeps_all : {A : Type 0} (p : A → Bool) (xs : List A) → ((x : A) → p x ≡ true) → filter p xs ≡ xs
keeps_all p [] all = refl
keeps_all p (x ∷ xs) all = ap (λ b. cond b (x ∷ filter p xs) (filter p xs)) (all x)
    ∙ ap (λ ys. x ∷ ys) (keeps_all p xs all)

-- a span of all keys gives each entry
pub selected_all : (m : LeafMap) (lo hi : List ℕ) → ((key : List ℕ) → is_inside lo hi key ≡ true)
    → length (selected lo hi m) ≡ fin.len m
selected_all m lo hi all = length-map (filter (λ e. is_inside lo hi e.0) (fin.entries m)) entry_of
    ∙ ap (λ (es : List (List ℕ × List ℕ)). length es)
    (keeps_all (λ e. is_inside lo hi e.0) (fin.entries m) (λ e. all e.0))
    ∙ sym (fin.len-entries m)

-- and so does a span without ends
pub selected_whole : (m : LeafMap) (lo hi : List ℕ) → lo ≡ [] → hi ≡ []
    → length (selected lo hi m) ≡ fin.len m
selected_whole m lo hi l h =
    selected_all m lo hi (λ key. (λ i. is_inside (l i) (h i) key) ∙ all_inside key)

-- one more count is noted
pub count_noted : (maps : List LeafMap) (counts : List (Option ℕ)) (leaf count : ℕ)
    → count ≡ fin.len (map_at maps leaf)
    → AreCounts maps counts → AreCounts maps (set counts leaf (Some count))
count_noted maps counts leaf count is are n k there =
    let v = Some count in
    let inside : n < length (set counts leaf v) =
    slice_get_within (set counts leaf v) n (Some k) there in
    let within : n < length counts = subst (λ j. n < j) (length-set counts leaf v) inside in
    let read = get_or_from_slice_get (set counts leaf v) n (Some k) v there in
    elim (eqb_tells n leaf) [
      | inl same ↦
          sym (same_Some count k (sym (get_or-set_same counts n v v within)
          ∙ subst (λ j. get_or (set counts j v) n v ≡ Some k) (sym same.1) read))
          ∙ subst (λ j. count ≡ fin.len (map_at maps j)) (sym same.1) is
      | inr off ↦ are n k (slice_get-get_or counts n v within
          ∙ ap Some (sym (get_or-set_other counts leaf n v v off.1) ∙ read))
    ]

-- no count is noted yet
never : (n k count : ℕ) → slice_get {X = Option ℕ} (replicate n None) k ≡ Some (Some count) → ⊥
never zero k count e = cc
never (suc n) zero count e = cc
never (suc n) (suc k) count e = never n k count e

pub none_counted : (maps : List LeafMap) (n : ℕ) → AreCounts maps (replicate n None)
none_counted maps n k count there = absurd (never n k count there)

-- counts that stay right, and then again, of maps that stay
pub counts_joined : (maps mid : List LeafMap) (a b c : List (Option ℕ)) → mid ≡ maps
    → (AreCounts maps a → AreCounts maps b) → (AreCounts mid b → AreCounts mid c)
    → AreCounts maps a → AreCounts maps c
counts_joined maps mid a b c same first next are =
    subst (λ ms. AreCounts ms c) same (next (subst (λ ms. AreCounts ms b) (sym same) (first are)))
