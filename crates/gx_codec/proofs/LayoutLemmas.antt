-- The value of a field in a body by its layout, and the layouts that there are.
use Rattle.std.proofs.Common.{[], ◌≡◌, ℕ, zero, suc, ◌+◌, ◌<◌, List, ◌∷◌, ◌++◌, length, drop, get_or, cond, Bool, true, false, Option, Some, None, refl, sym, ap, subst, ◌∙◌, arith, append-nil}
use Rattle.gx_values.specs.declared.values.Code.{Code}
use Rattle.gx_values.specs.declared.values.Value.{Value}
use Rattle.std.specs.Prelude.{not}
use Rattle.std.proofs.lemmas.List.{length-map}
use Rattle.std.specs.List.{AllByRecursion}
use Rattle.gx_values.specs.Values.{no_value}
use Rattle.gx_actual.specs.Bodies.{field_bytes, body_of, HasLength}
use Rattle.gx_split.specs.Groups.{chosen}
use Rattle.gx_codec.specs.Layouts.{Slotting, plain_slot, coded_slot, marked_slot, with_slot, laid, HasSlot, HaveSlots, of_group}
use Rattle.gx_codec.specs.Stored.{code_at, stored_value, stored_values, HasCode, HaveCodes}

-- ---- the value of a field, and what follows

there : (slots : Slotting) (vs : List Value) (i n k : ℕ) → k ≡ n + i → HaveSlots slots n vs
    → i < length vs → HasSlot (slots k) (get_or vs i no_value)
    × (laid slots k (drop i vs)
    ≡ with_slot (slots k) (get_or vs i no_value) (laid slots (suc k) (drop (suc i) vs)))
there slots [] i n k at have lt = absurd (omega arith)
there slots (v ∷ vs) zero n k at have lt =
    let e : n ≡ k = omega (arith, at) in
    subst (λ m. HasSlot (slots m) v
    × (laid slots m (v ∷ vs) ≡ with_slot (slots m) v (laid slots (suc m) vs))) e (have.0, refl)
there slots (v ∷ vs) (suc i) n k at have lt =
    there slots vs i (suc n) k (omega (arith, at)) have.1 (omega arith)

pub next_there : (slots : Slotting) (vs : List Value) (i : ℕ) → HaveSlots slots 0 vs
    → i < length vs → HasSlot (slots i) (get_or vs i no_value)
    × (laid slots i (drop i vs)
    ≡ with_slot (slots i) (get_or vs i no_value) (laid slots (i + 1) (drop (i + 1) vs)))
next_there slots vs i have lt =
    let x = there slots vs i 0 i (omega arith) have lt in
    let next : suc i ≡ i + 1 = omega arith in (
      x.0,
      x.1
          ∙ ap (λ n. with_slot (slots i) (get_or vs i no_value) (laid slots n (drop n vs))) next,
    )

module _ (slots : Slotting) (vs : List Value) (i : ℕ) (rest : List ℕ) (have : HaveSlots slots 0 vs)
    (lt : i < length vs) (left : rest ≡ body_of (laid slots i (drop i vs))) where
  abbrev v : Value
  v = get_or vs i no_value

  -- what is left once the value is read, or where the body hasn't it
  abbrev more : List ℕ
  more = body_of (laid slots (i + 1) (drop (i + 1) vs))

  next_laid : HasSlot (slots i) v
      × (rest ≡ body_of (with_slot (slots i) v (laid slots (i + 1) (drop (i + 1) vs))))
  next_laid = let x = next_there slots vs i have lt in (x.0, left ∙ ap body_of x.1)

  pub front_there : (c : Option Code) → slots i ≡ Some c
      → HasCode c v × (rest ≡ field_bytes (stored_value c v) ++ more)
  front_there c at =
      subst (λ (o : Option (Option Code)). HasSlot o v
      × (rest ≡ body_of (with_slot o v (laid slots (i + 1) (drop (i + 1) vs))))) at next_laid

  pub none_there : slots i ≡ None → rest ≡ more
  none_there at = next_laid.1
      ∙ ap (λ (o : Option (Option Code)). body_of
      (with_slot o v (laid slots (i + 1) (drop (i + 1) vs)))) at

-- ---- the value in front of the others

pub front_bytes : (s : Option (Option Code)) (v : Value) (others : List Value)
    → body_of (with_slot s v others) ≡ body_of (with_slot s v []) ++ body_of others
front_bytes None v others = refl
front_bytes (Some c) v others =
    ap (λ (l : List ℕ). l ++ body_of others) (sym (append-nil (field_bytes (stored_value c v))))

pub front_lengths : (s : Option (Option Code)) (v : Value) (others : List Value)
    → AllByRecursion HasLength (with_slot s v others)
    → AllByRecursion HasLength (with_slot s v []) × AllByRecursion HasLength others
front_lengths None v others all = (tt, all)
front_lengths (Some c) v others all = ((all.0, tt), all.1)

-- ---- all values as they are

pub plain_laid : (n : ℕ) (vs : List Value) → laid plain_slot n vs ≡ vs
plain_laid n [] = refl
plain_laid n (v ∷ vs) = ap (λ (l : List Value). v ∷ l) (plain_laid (suc n) vs)

pub plain_have : (n : ℕ) (vs : List Value) → HaveSlots plain_slot n vs
plain_have n [] = tt
plain_have n (v ∷ vs) = (tt, plain_have (suc n) vs)

-- ---- some by their codes

coded_next : (cs : List (Option Code)) (n : ℕ) (v : Value) (vs : List Value)
    → stored_values (drop n cs) (v ∷ vs)
    ≡ stored_value (code_at cs n) v ∷ stored_values (drop (suc n) cs) vs
coded_next [] zero v vs = refl
coded_next [] (suc n) v vs = refl
coded_next (c ∷ cs) zero v vs = refl
coded_next (c ∷ cs) (suc n) v vs = coded_next cs n v vs

have_next : (cs : List (Option Code)) (n : ℕ) (v : Value) (vs : List Value)
    → HaveCodes (drop n cs) (v ∷ vs) → HasSlot (coded_slot cs n) v × HaveCodes (drop (suc n) cs) vs
have_next [] zero v vs have = (tt, tt)
have_next [] (suc n) v vs have = (tt, tt)
have_next (c ∷ cs) zero v vs have = have
have_next (c ∷ cs) (suc n) v vs have = have_next cs n v vs have

pub nothing_stored : (cs : List (Option Code)) → stored_values cs [] ≡ []
nothing_stored [] = refl
nothing_stored (c ∷ cs) = refl

pub coded_laid : (cs : List (Option Code)) (n : ℕ) (vs : List Value)
    → laid (coded_slot cs) n vs ≡ stored_values (drop n cs) vs
coded_laid cs n [] = sym (nothing_stored (drop n cs))
coded_laid cs n (v ∷ vs) =
    ap (λ (l : List Value). stored_value (code_at cs n) v ∷ l) (coded_laid cs (suc n) vs)
    ∙ sym (coded_next cs n v vs)

pub coded_have : (cs : List (Option Code)) (n : ℕ) (vs : List Value) → HaveCodes (drop n cs) vs
    → HaveSlots (coded_slot cs) n vs
coded_have cs n [] have = tt
coded_have cs n (v ∷ vs) have =
    let next = have_next cs n v vs have in (next.0, coded_have cs (suc n) vs next.1)

-- ---- those that are marked

marked_next : (mask : List Bool) (n : ℕ) (v : Value) (vs : List Value) → n < length mask
    → chosen (drop n mask) (v ∷ vs)
    ≡ with_slot (marked_slot mask n) v (chosen (drop (suc n) mask) vs)
marked_next [] n v vs lt = absurd (omega arith)
marked_next (true ∷ mask) zero v vs lt = refl
marked_next (false ∷ mask) zero v vs lt = refl
marked_next (b ∷ mask) (suc n) v vs lt = marked_next mask n v vs (omega arith)

nothing_chosen : (mask : List Bool) → chosen {A = Value} mask [] ≡ []
nothing_chosen [] = refl
nothing_chosen (b ∷ mask) = refl

pub marked_laid : (mask : List Bool) (n : ℕ) (vs : List Value) → n + length vs ≡ length mask
    → laid (marked_slot mask) n vs ≡ chosen (drop n mask) vs
marked_laid mask n [] long = sym (nothing_chosen (drop n mask))
marked_laid mask n (v ∷ vs) long =
    ap (with_slot (marked_slot mask n) v) (marked_laid mask (suc n) vs (omega (arith, long)))
    ∙ sym (marked_next mask n v vs (omega (arith, long)))

marked_has : (b : Bool) (v : Value) → HasSlot (cond b (Some None) None) v
marked_has true v = tt
marked_has false v = tt

pub of_group_long : (b : Bool) (mask : List Bool) → length (of_group b mask) ≡ length mask
of_group_long true mask = refl
of_group_long false mask = length-map mask not

pub marked_have : (mask : List Bool) (n : ℕ) (vs : List Value) → HaveSlots (marked_slot mask) n vs
marked_have mask n [] = tt
marked_have mask n (v ∷ vs) = (marked_has (get_or mask n false) v, marked_have mask (suc n) vs)
