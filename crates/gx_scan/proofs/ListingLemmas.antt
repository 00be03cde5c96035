-- The records that meet conditions, gathered leaf by leaf.
use Rattle.std.proofs.Common.{[], ◌≡◌, ℕ, zero, suc, ◌+◌, ◌<◌, ◌≤◌, List, ◌∷◌, ◌++◌, length, map, take, get_or, cond, nat_eq, Bool, true, false, inl, inr, refl, sym, ap, subst, ◌∙◌, arith}
use Rattle.std.specs.Prelude.{filter, ◌&&◌, ◌||◌, not}
use Rattle.std.specs.FinMap as fin
use Rattle.std.specs.List.Sorted.{IsPermutation}
use Rattle.std.proofs.lemmas.Bool.{eqb-true, eq-eqb}
use Rattle.std.proofs.lemmas.List.{take_all, take_more, map-append}
use Rattle.std.proofs.lemmas.List.Sorted.{IsPermutation-refl, IsPermutation-trans, IsPermutation-append_left, IsPermutation-filter_both}
use Rattle.gx_mapping.specs.Rule.{In}
use Rattle.gx_stack.specs.Tree.{Tree}
use Rattle.gx_gather.proofs.Lists.{in_filter, in_map, in_get_or, IsOnce}
use Rattle.gx_types.specs.declared.any.AnyMapping.{AnyMapping}
use Rattle.gx_model.specs.States.{File, Row}
use Rattle.gx_scan.specs.declared.places.Place.{Place}
use Rattle.gx_scan.specs.Entries.{leaf_of, rows_at}
use Rattle.gx_scan.proofs.PlaceLemmas.{number}

-- ---- filters

pub same_filter : {A : Type 0} (p q : A → Bool) (xs : List A) → ((x : A) → In x xs → p x ≡ q x)
    → filter p xs ≡ filter q xs
same_filter p q [] same = refl
same_filter {A} p q (x ∷ xs) same =
    (λ i. cond (same x (inl refl) i) (x ∷ filter p xs) (filter p xs))
    ∙ ap (λ (l : List A). cond (q x) (x ∷ l) l) (same_filter p q xs (λ y h. same y (inr h)))

one_fewer : {A : Type 0} (x : A) (ps qs : List A) (a b : Bool) → (a ≡ true → b ≡ true)
    → length ps ≤ length qs → length (cond a (x ∷ ps) ps) ≤ length (cond b (x ∷ qs) qs)
one_fewer x ps qs true true more le = omega (arith, le)
one_fewer x ps qs true false more le = absurd (let e : false ≡ true = more refl in cc)
one_fewer x ps qs false true more le = omega (arith, le)
one_fewer x ps qs false false more le = le

-- where each that passes one test passes another, no more pass it
pub fewer_pass : {A : Type 0} (p q : A → Bool) (xs : List A)
    → ((x : A) → In x xs → p x ≡ true → q x ≡ true) → length (filter p xs) ≤ length (filter q xs)
fewer_pass p q [] more = omega arith
fewer_pass p q (x ∷ xs) more =
    one_fewer x (filter p xs) (filter q xs) (p x) (q x) (more x (inl refl))
    (fewer_pass p q xs (λ y h. more y (inr h)))

pub filter_true : {A : Type 0} (xs : List A) → filter (λ _. true) xs ≡ xs
filter_true [] = refl
filter_true {A} (x ∷ xs) = ap (λ (l : List A). x ∷ l) (filter_true xs)

filter_false : {A : Type 0} (xs : List A) → filter (λ _. false) xs ≡ []
filter_false [] = refl
filter_false (x ∷ xs) = filter_false xs

pub filter_twice : {A : Type 0} (p q : A → Bool) (xs : List A)
    → filter p (filter q xs) ≡ filter (λ x. q x && p x) xs
filter_twice p q [] = refl
filter_twice {A} p q (x ∷ xs) =
    elim (q x) as (λ b. filter p (cond b (x ∷ filter q xs) (filter q xs)) ≡ cond (b && p x)
    (x ∷ filter (λ y. q y && p y) xs) (filter (λ y. q y && p y) xs)) [
      | true ↦ ap (λ (l : List A). cond (p x) (x ∷ l) l) (filter_twice p q xs)
      | false ↦ filter_twice p q xs
    ]

-- ---- leaves

abbrev pub among : List ℕ → ℕ → Bool
among [] n = false
among (m ∷ ns) n = nat_eq n m || among ns n

among_in : (ns : List ℕ) (n : ℕ) → In n ns → among ns n ≡ true
among_in [] n h = absurd h
among_in (m ∷ ns) n (inl e) = ap (λ b. b || among ns n) (eq-eqb n m e)
among_in (m ∷ ns) n (inr h) = ap (λ b. nat_eq n m || b) (among_in ns n h) ∙ or_true (nat_eq n m)
  where
    or_true : (b : Bool) → (b || true) ≡ true
    or_true true = refl
    or_true false = refl

among_not : (ns : List ℕ) (n : ℕ) → (In n ns → ⊥) → among ns n ≡ false
among_not [] n absent = refl
among_not (m ∷ ns) n absent = go (nat_eq n m) refl (among_not ns n (λ h. absent (inr h)))
  where
    go : (b : Bool) → nat_eq n m ≡ b → among ns n ≡ false → (b || among ns n) ≡ false
    go true e rest = absurd (absent (inl (eqb-true n m e)))
    go false e rest = rest

among_last : (ns : List ℕ) (m n : ℕ) → among (ns ++ m ∷ []) n ≡ (among ns n || nat_eq n m)
among_last [] m n = last (nat_eq n m)
  where
    last : (b : Bool) → (b || false) ≡ (false || b)
    last true = refl
    last false = refl
among_last (k ∷ ns) m n = ap (λ b. nat_eq n k || b) (among_last ns m n)
    ∙ joined (nat_eq n k) (among ns n) (nat_eq n m)
  where
    joined : (a b c : Bool) → (a || (b || c)) ≡ ((a || b) || c)
    joined true b c = refl
    joined false b c = refl

-- the leaf of a place isn't among those of the places before it
place_new : (ps : List Place) (i : ℕ) (d : Place) → IsOnce (map number ps) → i < length ps
    → In (number (get_or ps i d)) (map number (take i ps)) → ⊥
place_new [] i d once l h = absurd (omega arith)
place_new (p ∷ ps) zero d once l h = h
place_new (p ∷ ps) (suc i) d once l (inl e) =
    once.0 (subst (λ m. In m (map number ps)) e
    (in_map number (get_or ps i d) ps (in_get_or ps i d (omega arith))))
place_new (p ∷ ps) (suc i) d once l (inr h) = place_new ps i d once.1 (omega arith) h

-- ---- one leaf more

module _ (g : Row → ℕ) where
  old_part : (a b : Bool) → ((a || b) && a) ≡ a
  old_part true b = refl
  old_part false true = refl
  old_part false false = refl

  new_part : (a b : Bool) → (b ≡ true → a ≡ false) → ((a || b) && not a) ≡ b
  new_part true true h = sym (h refl)
  new_part true false h = refl
  new_part false true h = refl
  new_part false false h = refl

  more_chosen : (ns : List ℕ) (n : ℕ) (xs rows more : List Row) → among ns n ≡ false
      → IsPermutation (filter (λ r. among ns (g r)) xs) rows
      → more ≡ filter (λ r. nat_eq (g r) n) xs
      → IsPermutation (filter (λ r. among (ns ++ n ∷ []) (g r)) xs) (rows ++ more)
  more_chosen ns n xs rows more new so_far are =
      let all = filter (λ r. among (ns ++ n ∷ []) (g r)) xs in
      let front : filter (λ r. among ns (g r)) all ≡ filter (λ r. among ns (g r)) xs =
      filter_twice (λ r. among ns (g r)) (λ r. among (ns ++ n ∷ []) (g r)) xs
      ∙ same_filter _ (λ r. among ns (g r)) xs
      (λ r h. ap (λ b. b && among ns (g r)) (among_last ns n (g r))
      ∙ old_part (among ns (g r)) (nat_eq (g r) n)) in
      let back : filter (λ r. not (among ns (g r))) all ≡ filter (λ r. nat_eq (g r) n) xs =
      filter_twice (λ r. not (among ns (g r))) (λ r. among (ns ++ n ∷ []) (g r)) xs
      ∙ same_filter _ (λ r. nat_eq (g r) n) xs
      (λ r h. ap (λ b. b && not (among ns (g r))) (among_last ns n (g r))
      ∙ new_part (among ns (g r)) (nat_eq (g r) n) (λ e. ap (among ns) (eqb-true (g r) n e)
      ∙ new)) in
      let parted = IsPermutation-filter_both (λ r. among ns (g r)) (λ r. not (among ns (g r)))
      (λ r. refl) all in
      let shown : IsPermutation all (filter (λ r. among ns (g r)) xs ++ more) =
      subst (IsPermutation all) (λ i. front i ++ (back ∙ sym are) i) parted in
      IsPermutation-trans all (filter (λ r. among ns (g r)) xs ++ more) (rows ++ more) shown
      (IsPermutation-append_left more (filter (λ r. among ns (g r)) xs) rows so_far)

-- ---- the records of the first leaves that meet conditions

abbrev pub chosen_of : Tree AnyMapping → (Row → Bool) → File → List Place → List Row
chosen_of t test f ps =
    filter (λ r. among (map number ps) (leaf_of t r)) (filter test (fin.entries f))

pub none_chosen : (t : Tree AnyMapping) (test : Row → Bool) (f : File) (rows : List Row) → rows ≡ []
    → IsPermutation (chosen_of t test f []) rows
none_chosen t test f rows none =
    subst (IsPermutation (chosen_of t test f [])) (filter_false (filter test (fin.entries f))
    ∙ sym none) (IsPermutation-refl (chosen_of t test f []))

pub place_chosen : (t : Tree AnyMapping) (test : Row → Bool) (f : File) (ps : List Place) (i : ℕ)
    (p : Place) (rows after : List Row) → IsOnce (map number ps) → i < length ps → p ≡ get_or ps i p
    → IsPermutation (chosen_of t test f (take i ps)) rows
    → after ≡ rows ++ filter test (rows_at t p.leaf f)
    → IsPermutation (chosen_of t test f (take (i + 1) ps)) after
place_chosen t test f ps i p rows after once l read so_far is =
    let ns = map number (take i ps) in
    let at = λ (r : Row). nat_eq (leaf_of t r) p.leaf in
    let leaves : map number (take (i + 1) ps) ≡ ns ++ p.leaf ∷ [] =
    ap (map number) (take_more ps i p l) ∙ map-append number (take i ps) (get_or ps i p ∷ [])
    ∙ ap (λ (q : Place). ns ++ number q ∷ []) (sym read) in
    let new : among ns p.leaf ≡ false =
    among_not ns p.leaf (λ h. place_new ps i p once l
    (subst (λ (q : Place). In (number q) ns) read h)) in
    let are : filter test (rows_at t p.leaf f) ≡ filter at (filter test (fin.entries f)) =
    filter_twice test at (fin.entries f)
    ∙ same_filter (λ r. at r && test r) (λ r. test r && at r) (fin.entries f)
    (λ r h. either_way (at r) (test r)) ∙ sym (filter_twice at test (fin.entries f)) in
    subst (IsPermutation (chosen_of t test f (take (i + 1) ps))) (sym is)
    (subst (λ ms. IsPermutation (filter (λ r. among ms (leaf_of t r)) (filter test (fin.entries f)))
    (rows ++ filter test (rows_at t p.leaf f))) (sym leaves)
    (more_chosen (leaf_of t) ns p.leaf (filter test (fin.entries f)) rows
    (filter test (rows_at t p.leaf f)) new so_far are))
  where
    either_way : (a b : Bool) → (a && b) ≡ (b && a)
    either_way true true = refl
    either_way true false = refl
    either_way false true = refl
    either_way false false = refl

pub all_chosen : (t : Tree AnyMapping) (test : Row → Bool) (f : File) (ps : List Place) (i : ℕ)
    (rows : List Row) → length ps ≤ i
    → ((r : Row) → In r (fin.entries f) → In (leaf_of t r) (map number ps))
    → IsPermutation (chosen_of t test f (take i ps)) rows
    → IsPermutation (filter test (fin.entries f)) rows
all_chosen t test f ps i rows end there so_far =
    let all : chosen_of t test f (take i ps) ≡ filter test (fin.entries f) =
    ap (chosen_of t test f) (take_all i ps end)
    ∙ same_filter (λ r. among (map number ps) (leaf_of t r)) (λ _. true)
    (filter test (fin.entries f))
    (λ r h. among_in (map number ps) (leaf_of t r)
    (there r (in_filter test r (fin.entries f) h).0))
    ∙ filter_true (filter test (fin.entries f)) in
    subst (λ l. IsPermutation l rows) all so_far
