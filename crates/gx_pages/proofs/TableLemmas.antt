-- The numbers on a page of the table, once one has been written.
use Rattle.std.proofs.Common.{◌≡◌, ◌≢◌, ◌⊎◌, inl, inr, ℕ, ◌+◌, ◌-◌, ◌*◌, ◌%◌, ◌^◌, ◌<◌, ◌≤◌, List, [], ◌∷◌, ◌++◌, length, take, drop, get_or, replicate, refl, sym, ap, ap₂, ◌∙◌, arith, length-append}
use Rattle.std.specs.Int.{w16, to_be_bytes, from_be_bytes}
use Rattle.std.proofs.Math.ListN.{get_or-append}
use Rattle.std.proofs.lemmas.Bool.{cases_lt}
use Rattle.std.proofs.lemmas.Bool.Decides.{eqb_tells}
use Rattle.std.proofs.lemmas.List.{drop_at, drop_more, length-take-le, length-drop, get_or-take, get_or-drop, get_or-append_right, length-replicate, get_or-replicate}
use Rattle.std.proofs.lemmas.Nat.{from_be_bytes-to_be_bytes_2}
use Rattle.gx_bytes.specs.Parts.{overwritten}
use Rattle.gx_pages.specs.Owners.{owner_number}

pub number_set : (table : List ℕ) (page owner : ℕ) → length table ≡ 4096 → owner < 2 ^ 16
    → owner_number (overwritten table (2 * (page % 2048)) (to_be_bytes w16 owner)) page ≡ owner
number_set table page owner whole fits =
    let at = 2 * (page % 2048) in
    let bytes = to_be_bytes w16 owner in
    ap (λ (xs : List ℕ). from_be_bytes w16 xs)
    (drop_at (take at table) (bytes ++ drop (at + length bytes) table) at
    (length-take-le at table (omega (arith, whole)))) ∙ from_be_bytes-to_be_bytes_2 owner fits

-- bytes outside of a part that was written over
outside : (table part : List ℕ) (at k : ℕ) → at + length part ≤ length table
    → ((k < at) ⊎ (at + length part ≤ k))
    → get_or (overwritten table at part) k 0 ≡ get_or table k 0
outside table part at k room (inl low) =
    let front = length-take-le at table (omega (arith, room)) in
    get_or-append (take at table) (part ++ drop (at + length part) table) 0 k
    (omega (arith, front, low)) ∙ get_or-take at table k 0 low
outside table part at k room (inr high) =
    get_or-append_right (take at table) (part ++ drop (at + length part) table) at k 0
    (length-take-le at table (omega (arith, room)))
    (omega (arith, high))
    ∙ get_or-append_right part (drop (at + length part) table) (length part) (k - at) 0 refl
    (omega (arith, high))
    ∙ get_or-drop (at + length part) table (k - at - length part) 0
    ∙ ap (λ (n : ℕ). get_or table n 0) (let e : at + length part + (k - at - length part) ≡ k =
    omega (arith, high) in e)

length-overwritten : (table part : List ℕ) (at : ℕ) → at + length part ≤ length table
    → length (overwritten table at part) ≡ length table
length-overwritten table part at room =
    let back = drop (at + length part) table in
    omega (
      arith,
      room,
      length-append (take at table) (part ++ back),
      length-append part back,
      length-take-le at table (omega (arith, room)),
      length-drop (at + length part) table,
    )

abbrev pair : ℕ → ℕ → ℕ
pair a b = from_be_bytes w16 (a ∷ b ∷ [])

two_bytes : (table : List ℕ) (k : ℕ) → k + 2 ≤ length table
    → from_be_bytes w16 (drop k table) ≡ pair (get_or table k 0) (get_or table (k + 1) 0)
two_bytes table k room = ap (λ (xs : List ℕ). from_be_bytes w16 xs)
    (drop_more table k 0 (omega (arith, room)) ∙ ap (λ (xs : List ℕ). get_or table k 0 ∷ xs)
    (drop_more table (k + 1) 0 (omega (arith, room))))

-- another number stays
pub number_other : (table part : List ℕ) (page other : ℕ) → length table ≡ 4096 → length part ≡ 2
    → other % 2048 ≢ page % 2048
    → owner_number (overwritten table (2 * (page % 2048)) part) other ≡ owner_number table other
number_other table part page other whole two differ =
    let at = 2 * (page % 2048) in
    let k = 2 * (other % 2048) in
    let room : at + length part ≤ length table = omega (arith, whole, two) in
    let new = overwritten table at part in
    let long = length-overwritten table part at room in
    two_bytes new k (omega (arith, whole, long)) ∙ ap₂ pair (outside table part at k room
    (side (cases_lt (other % 2048) (page % 2048)) (cases_lt (page % 2048) (other % 2048)) k refl))
    (outside table part at (k + 1) room
    (next (cases_lt (other % 2048) (page % 2048)) (cases_lt (page % 2048) (other % 2048))))
    ∙ sym (two_bytes table k (omega (arith, whole)))
  where
    side : ((other % 2048 < page % 2048) ⊎ (page % 2048 ≤ other % 2048))
        → ((page % 2048 < other % 2048) ⊎ (other % 2048 ≤ page % 2048))
        → (k : ℕ) → k ≡ 2 * (other % 2048)
        → (k < 2 * (page % 2048)) ⊎ (2 * (page % 2048) + length part ≤ k)
    side (inl low) b k is = inl (omega (arith, low, is))
    side (inr a) (inl high) k is = inr (omega (arith, high, is, two))
    side (inr a) (inr b) k is = absurd (differ (omega (arith, a, b)))

    next : ((other % 2048 < page % 2048) ⊎ (page % 2048 ≤ other % 2048))
        → ((page % 2048 < other % 2048) ⊎ (other % 2048 ≤ page % 2048))
        → (2 * (other % 2048) + 1 < 2 * (page % 2048))
        ⊎ (2 * (page % 2048) + length part ≤ 2 * (other % 2048) + 1)
    next (inl low) b = inl (omega (arith, low))
    next (inr a) (inl high) = inr (omega (arith, high, two))
    next (inr a) (inr b) = absurd (differ (omega (arith, a, b)))

pub number_zeros : (page : ℕ) → owner_number (replicate 4096 0) page ≡ 0
number_zeros page =
    let k = 2 * (page % 2048) in
    two_bytes (replicate 4096 0) k (omega (arith, length-replicate {A = ℕ} 4096 0))
    ∙ ap₂ pair (get_or-replicate {A = ℕ} 4096 k 0 0 (omega arith))
    (get_or-replicate {A = ℕ} 4096 (k + 1) 0 0 (omega arith))

-- the number of one more page of the table
module _ (old new : List ℕ) (page : ℕ) (whole : length old ≡ 4096) (below : page < 2048)
    (is : new ≡ overwritten old (2 * (page % 2048)) (to_be_bytes w16 65535)) where
  others : (other : ℕ) → other ≢ page → other < 2048
      → owner_number new other ≡ owner_number old other
  others other differ low = ap (λ (t : List ℕ). owner_number t other) is
      ∙ number_other old (to_be_bytes w16 65535) page other whole refl
      (λ e. differ (omega (arith, e, low, below)))

  pub own_more : ((other : ℕ) → other < page → owner_number old other ≡ 65535) → (other : ℕ)
      → other < page + 1 → owner_number new other ≡ 65535
  own_more own other lt = elim (eqb_tells other page) [
    | inl same ↦ ap (owner_number new) same.1 ∙ ap (λ (t : List ℕ). owner_number t page) is
        ∙ number_set old page 65535 whole (omega arith)
    | inr off ↦ (let ne = off.1 in others other ne (omega (arith, lt, below))
        ∙ own other (omega (arith, lt, ne)))
  ]

  pub free_still : ((other : ℕ) → page ≤ other → other < 2048 → owner_number old other ≡ 0)
      → (other : ℕ) → page + 1 ≤ other → other < 2048
      → owner_number new other ≡ 0
  free_still free other high lt = others other (λ e. absurd (omega (arith, e, high))) lt
      ∙ free other (omega (arith, high)) lt
