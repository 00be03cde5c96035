-- Pages by index, from three sources.
use Rattle.std.proofs.Common.{◌≡◌, ◌≢◌, inl, inr, ℕ, ◌<◌, ◌≤◌, Bool, true, false, List, [], ◌∷◌, ◌++◌, length, get_or, Option, Some, None, refl, sym, ◌∙◌, ap, subst, arith}
use Rattle.std.specs.Prelude.{if◌then◌else◌, IsSome, is_some, map}
use Rattle.std.specs.List.{AllByRecursion}
use Rattle.std.specs.Option.{option_map_or}
use Rattle.std.proofs.lemmas.Bool.Decides.{eqb_tells}
use Rattle.std.proofs.lemmas.Option.{same_Some}
use Rattle.gx_frames.specs.Order.{IsUnique, IsAbsent}
use Rattle.gx_frames.specs.Pool.{Resident, Pool, find_page, without, to_front, IsLast, IsPool}
use Rattle.gx_frames.specs.Calls.{placed_first}
use Rattle.gx_frames.proofs.PoolLemmas.{eqb_other, find_here, without_here}
use Rattle.gx_layout.specs.Layout.{slot, home}
use Rattle.gx_journal.specs.Sources.{stored, page_of, IsCached}

-- Look-ups in the frames

pub find_past : (q : ℕ) (r : Resident) (rs : List Resident) → r.page ≢ q
    → find_page q (r ∷ rs) ≡ find_page q rs
find_past q r rs ne = rw (eqb_other r.page q ne)

pub without_past : (p : ℕ) (r : Resident) (rs : List Resident) → r.page ≢ p
    → without p (r ∷ rs) ≡ r ∷ without p rs
without_past p r rs ne = rw (eqb_other r.page p ne)

pub find_without_same : (p : ℕ) (rs : List Resident) → find_page p (without p rs) ≡ None
find_without_same p [] = refl
find_without_same p (r ∷ rs) = elim (eqb_tells r.page p) [
  | inl same ↦ ap (find_page p) (without_here p r rs same.1) ∙ find_without_same p rs
  | inr other ↦ ap (find_page p) (without_past p r rs other.1)
      ∙ find_past p r (without p rs) other.1 ∙ find_without_same p rs
]

pub find_without_other : (p q : ℕ) (rs : List Resident) → p ≢ q
    → find_page q (without p rs) ≡ find_page q rs
find_without_other p q [] ne = refl
find_without_other p q (r ∷ rs) ne = elim (eqb_tells r.page p) [
  | inl same ↦ ap (find_page q) (without_here p r rs same.1) ∙ find_without_other p q rs ne
      ∙ sym (find_past q r rs (λ e. ne (sym same.1 ∙ e)))
  | inr other ↦ ap (find_page q) (without_past p r rs other.1) ∙ (elim (eqb_tells r.page q) [
    | inl at ↦ find_here q r (without p rs) at.1 ∙ sym (find_here q r rs at.1)
    | inr off ↦ find_past q r (without p rs) off.1 ∙ find_without_other p q rs ne
        ∙ sym (find_past q r rs off.1)
  ])
]

pub some_page : (p : ℕ) (rs : List Resident) (r : Resident) → find_page p rs ≡ Some r → r.page ≡ p
some_page p [] r is = absurd (let e : ◌≡◌ {A = Option Resident} None (Some r) = is in cc)
some_page p (x ∷ rs) r is = elim (eqb_tells x.page p) [
  | inl same ↦ sym (ap (λ (y : Resident). y.page)
      (same_Some x r (sym (find_here p x rs same.1) ∙ is))) ∙ same.1
  | inr other ↦ some_page p rs r (sym (find_past p x rs other.1) ∙ is)
]

pub find_front : (p q : ℕ) (rs : List Resident) → find_page q (to_front p rs) ≡ find_page q rs
find_front p q rs = by (find_page p rs) refl
  where
    by : (o : Option Resident) → find_page p rs ≡ o
        → find_page q (option_map_or (λ r. r ∷ without p rs) o rs) ≡ find_page q rs
    by None e = refl
    by (Some r) e = elim (eqb_tells p q) [
      | inl same ↦ find_here q r (without p rs) (some_page p rs r e ∙ same.1) ∙ sym e
          ∙ ap (λ (k : ℕ). find_page k rs) same.1
      | inr other ↦ find_past q r (without p rs) (λ f. other.1 (sym (some_page p rs r e) ∙ f))
          ∙ find_without_other p q rs other.1
    ]

pub length_without : (p : ℕ) (rs : List Resident) → length (without p rs) ≤ length rs
length_without p [] = omega arith
length_without p (r ∷ rs) = let rest = length_without p rs in elim (eqb_tells r.page p) [
  | inl same ↦ omega (
    arith,
    rest,
    ap (λ (l : List Resident). length l)
        (without_here p r rs same.1),
  )
  | inr other ↦ omega (
    arith,
    rest,
    ap (λ (l : List Resident). length l)
        (without_past p r rs other.1),
  )
]

pub fewer_without : (p : ℕ) (rs : List Resident) (r : Resident) → find_page p rs ≡ Some r
    → length (without p rs) < length rs
fewer_without p [] r is = absurd (let e : ◌≡◌ {A = Option Resident} None (Some r) = is in cc)
fewer_without p (x ∷ rs) r is = elim (eqb_tells x.page p) [
  | inl same ↦ omega (
    arith,
    length_without p rs,
    ap (λ (l : List Resident). length l) (without_here p x rs same.1),
  )
  | inr other ↦ omega (
    arith,
    fewer_without p rs r (sym (find_past p x rs other.1) ∙ is),
    ap (λ (l : List Resident). length l) (without_past p x rs other.1),
  )
]

pub length_front : (p : ℕ) (rs : List Resident) → length (to_front p rs) ≤ length rs
length_front p rs = by (find_page p rs) refl
  where
    by : (o : Option Resident) → find_page p rs ≡ o
        → length (option_map_or (λ r. r ∷ without p rs) o rs) ≤ length rs
    by None e = omega arith
    by (Some r) e = omega (arith, fewer_without p rs r e)

absent_off : (x p : ℕ) (others : List Resident) (r : Resident)
    → IsAbsent x (map (λ (y : Resident). y.page) (others ++ r ∷ [])) → x ≢ r.page
absent_off x p [] r a = a.0
absent_off x p (y ∷ others) r a = absent_off x p others r a.1

pub find_last : (others : List Resident) (r : Resident)
    → IsUnique (map (λ (y : Resident). y.page) (others ++ r ∷ []))
    → find_page r.page (others ++ r ∷ []) ≡ Some r
find_last [] r u = find_here r.page r [] refl
find_last (y ∷ others) r u =
    find_past r.page y (others ++ r ∷ []) (absent_off y.page 0 others r u.0)
    ∙ find_last others r u.1

pub last_found : (pool : Pool) (page : ℕ) (changed : Bool) → IsPool pool → IsLast pool page changed
    → (bytes : List ℕ) × (find_page page pool.resident ≡ Some
    (record { page = page; bytes = bytes; changed = changed }))
last_found pool page changed whole last =
    let r : Resident = record { page = page; bytes = last.bytes; changed = changed } in (
      last.bytes,
      ap (find_page page) last.is ∙ find_last last.others r
          (subst (λ (rs : List Resident). IsUnique (map (λ (y : Resident). y.page) rs)) last.is
          whole.once),
    )

pub found_below : (n p : ℕ) (rs : List Resident) (r : Resident)
    → AllByRecursion (λ (x : Resident). x.page < n) rs → find_page p rs ≡ Some r
    → p < n
found_below n p [] r all is = absurd (let e : ◌≡◌ {A = Option Resident} None (Some r) = is in cc)
found_below n p (x ∷ rs) r all is = elim (eqb_tells x.page p) [
  | inl same ↦ (let e = same.1 in let b = all.0 in omega (arith, e, b))
  | inr other ↦ found_below n p rs r all.1 (sym (find_past p x rs other.1) ∙ is)
]

pub some_found : (p : ℕ) (rs : List Resident) (r : Resident) → find_page p rs ≡ Some r
    → IsSome (find_page p rs)
some_found p rs r is = ap (λ (o : Option Resident). is_some o) is

pub still_none : (p q : ℕ) (rs : List Resident) → find_page q rs ≡ None
    → find_page q (without p rs) ≡ None
still_none p q rs none = elim (eqb_tells p q) [
  | inl same ↦ ap (λ (k : ℕ). find_page k (without p rs)) (sym same.1) ∙ find_without_same p rs
  | inr other ↦ find_without_other p q rs other.1 ∙ none
]

-- Pages on the device

module _ (N P : ℕ) where
  pub stored_apart : (old new : List (List ℕ)) (was is : List Bool) (q : ℕ)
      → get_or is q false ≡ get_or was q false
      → get_or new (slot N q) [] ≡ get_or old (slot N q) []
      → get_or new (home N P q) [] ≡ get_or old (home N P q) []
      → stored N P new is q ≡ stored N P old was q
  stored_apart old new was is q flag at_slot at_home =
      λ i. if flag i then at_slot i else at_home i

  -- a slot was written, and that flag may be set
  pub stored_off : (old new : List (List ℕ)) (was is : List Bool) (p : ℕ) → p < P
      → ((n : ℕ) → n ≢ slot N p → get_or new n [] ≡ get_or old n [])
      → ((q : ℕ) → q ≢ p → get_or is q false ≡ get_or was q false) → (q : ℕ)
      → q ≢ p → stored N P new is q ≡ stored N P old was q
  stored_off old new was is p below blocks flags q ne = stored_apart old new was is q (flags q ne)
      (blocks (slot N q) (λ (e : slot N q ≡ slot N p). ne (omega arith)))
      (blocks (home N P q) (λ (e : home N P q ≡ slot N p). absurd (omega arith)))

  pub stored_slot : (new : List (List ℕ)) (is : List Bool) (p : ℕ) (bytes : List ℕ)
      → get_or is p false ≡ true
      → get_or new (slot N p) [] ≡ bytes → stored N P new is p ≡ bytes
  stored_slot new is p bytes flag written =
      ap (λ (b : Bool). if b then get_or new (slot N p) [] else get_or new (home N P p) []) flag
      ∙ written

  pub page_resident : (blocks : List (List ℕ)) (spilled : List Bool) (rs : List Resident) (p : ℕ)
      (r : Resident) → find_page p rs ≡ Some r
      → page_of N P blocks spilled rs p ≡ r.bytes
  page_resident blocks spilled rs p r is =
      ap (λ (o : Option Resident). option_map_or (λ (x : Resident). x.bytes) o
      (stored N P blocks spilled p)) is

  pub page_absent : (blocks : List (List ℕ)) (spilled : List Bool) (rs : List Resident) (p : ℕ)
      → find_page p rs ≡ None
      → page_of N P blocks spilled rs p ≡ stored N P blocks spilled p
  page_absent blocks spilled rs p is =
      ap (λ (o : Option Resident). option_map_or (λ (x : Resident). x.bytes) o
      (stored N P blocks spilled p)) is

  pub page_apart : (old new : List (List ℕ)) (was is : List Bool) (rs ss : List Resident) (q : ℕ)
      → find_page q ss ≡ find_page q rs
      → stored N P new is q ≡ stored N P old was q → page_of N P new is ss q ≡ page_of N P old was
      rs q
  page_apart old new was is rs ss q found at =
      λ i. option_map_or (λ (x : Resident). x.bytes) (found i) (at i)

  -- nothing but the order of the frames changed
  pub cached_order : (blocks : List (List ℕ)) (spilled : List Bool) (rs ss : List Resident)
      → ((q : ℕ) → find_page q ss ≡ find_page q rs)
      → IsCached N P blocks spilled rs → IsCached N P blocks spilled ss
  cached_order blocks spilled rs ss found cached q r is same = cached q r (sym (found q) ∙ is) same

  -- what is stored of one changed page changes
  module _ (old new : List (List ℕ)) (was is : List Bool) (rs ss : List Resident) (p : ℕ)
      (r : Resident) (at : find_page p rs ≡ Some r)
      (found : (q : ℕ) → find_page q ss ≡ find_page q rs) (off : (q : ℕ) → q ≢ p
      → stored N P new is q ≡ stored N P old was q) where
    pub rewritten_pages : (q : ℕ) → page_of N P new is ss q ≡ page_of N P old was rs q
    rewritten_pages q = elim (eqb_tells q p) [
      | inl same ↦ (let here : find_page q rs ≡ Some r = ap (λ (k : ℕ). find_page k rs) same.1
          ∙ at in
          page_resident new is ss q r (found q ∙ here) ∙ sym (page_resident old was rs q r here))
      | inr other ↦ page_apart old new was is rs ss q (found q) (off q other.1)
    ]

    pub rewritten_cached : r.changed ≡ true → IsCached N P old was rs → IsCached N P new is ss
    rewritten_cached changed cached q x found_x same = elim (eqb_tells q p) [
      | inl at_p ↦ absurd (let e : Some x ≡ Some r = sym found_x ∙ found q
          ∙ ap (λ (k : ℕ). find_page k rs) at_p.1 ∙ at in
          let f = same_Some x r e in cc (f, changed, same))
      | inr other ↦ cached q x (sym (found q) ∙ found_x) same ∙ sym (off q other.1)
    ]

  -- a page whose bytes are stored leaves the frames
  module _ (blocks : List (List ℕ)) (spilled : List Bool) (rs : List Resident) (p : ℕ)
      (r : Resident) (at : find_page p rs ≡ Some r)
      (kept : r.bytes ≡ stored N P blocks spilled p) where
    pub evicted_pages : (q : ℕ)
        → page_of N P blocks spilled (without p rs) q ≡ page_of N P blocks spilled rs q
    evicted_pages q = elim (eqb_tells p q) [
      | inl same ↦ page_absent blocks spilled (without p rs) q
          (ap (λ (k : ℕ). find_page k (without p rs)) (sym same.1)
          ∙ find_without_same p rs)
          ∙ ap (stored N P blocks spilled) (sym same.1) ∙ sym kept
          ∙ sym (page_resident blocks spilled rs q r
          (ap (λ (k : ℕ). find_page k rs) (sym same.1) ∙ at))
      | inr other ↦ page_apart blocks blocks spilled spilled rs (without p rs) q
          (find_without_other p q rs other.1) refl
    ]

  pub evicted_cached : (blocks : List (List ℕ)) (spilled : List Bool) (rs : List Resident) (p : ℕ)
      → IsCached N P blocks spilled rs
      → IsCached N P blocks spilled (without p rs)
  evicted_cached blocks spilled rs p cached q x found same = elim (eqb_tells p q) [
    | inl at_p ↦ absurd (let e : ◌≡◌ {A = Option Resident} None (Some x) =
        sym (find_without_same p rs) ∙ ap (λ (k : ℕ). find_page k (without p rs)) at_p.1 ∙ found in
        cc)
    | inr other ↦ cached q x (sym (find_without_other p q rs other.1) ∙ found) same
  ]

  -- a page comes into a frame, in the place of what was there
  module _ (blocks : List (List ℕ)) (spilled : List Bool) (rs ss : List Resident) (p : ℕ)
      (r : Resident) (here : find_page p ss ≡ Some r)
      (there : (q : ℕ) → p ≢ q → find_page q ss ≡ find_page q rs) where
    pub placed_other : (q : ℕ) → p ≢ q
        → page_of N P blocks spilled ss q ≡ page_of N P blocks spilled rs q
    placed_other q ne = page_apart blocks blocks spilled spilled rs ss q (there q ne) refl

    pub placed_cached : (r.changed ≡ false → r.bytes ≡ stored N P blocks spilled p)
        → IsCached N P blocks spilled rs
        → IsCached N P blocks spilled ss
    placed_cached mine cached q x found same = elim (eqb_tells p q) [
      | inl at_p ↦ (let f : x ≡ r =
          same_Some x r (sym found ∙ ap (λ (k : ℕ). find_page k ss) (sym at_p.1) ∙ here) in
          ap (λ (y : Resident). y.bytes) f ∙ mine (ap (λ (y : Resident). y.changed) (sym f) ∙ same)
          ∙ ap (stored N P blocks spilled) at_p.1)
      | inr other ↦ cached q x (sym (there q other.1) ∙ found) same
    ]

  -- a page comes into a frame as it is stored
  module _ (blocks : List (List ℕ)) (spilled : List Bool) (rs : List Resident) (p : ℕ)
      (bytes : List ℕ) (is : bytes ≡ stored N P blocks spilled p) where
    here : find_page p (placed_first p bytes rs) ≡ Some (record
        { page = p; bytes = bytes; changed = false })
    here = find_here p (record { page = p; bytes = bytes; changed = false }) rs refl

    there : (q : ℕ) → p ≢ q → find_page q (placed_first p bytes rs) ≡ find_page q rs
    there q ne = find_past q (record { page = p; bytes = bytes; changed = false }) rs ne

    pub admitted_pages : find_page p rs ≡ None → (q : ℕ) → page_of N P blocks spilled
        (placed_first p bytes rs) q ≡ page_of N P blocks spilled rs q
    admitted_pages absent q = elim (eqb_tells p q) [
      | inl same ↦ ap (page_of N P blocks spilled (placed_first p bytes rs)) (sym same.1)
          ∙ page_resident blocks spilled (placed_first p bytes rs) p _ here ∙ is
          ∙ sym (page_absent blocks spilled rs p absent) ∙ ap (page_of N P blocks spilled rs) same.1
      | inr other ↦ placed_other blocks spilled rs (placed_first p bytes rs) p _ here there q
          other.1
    ]

    pub admitted_cached : IsCached N P blocks spilled rs → IsCached N P blocks spilled
        (placed_first p bytes rs)
    admitted_cached = placed_cached blocks spilled rs (placed_first p bytes rs) p _ here there
        (λ plain. is)
