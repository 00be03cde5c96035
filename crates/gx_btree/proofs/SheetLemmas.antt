-- What calls of pages make of the bytes and the owners of pages.
use Rattle.std.proofs.Common.{◌≡◌, ◌≢◌, ◌⊎◌, inl, inr, ℕ, zero, suc, ◌<◌, ◌≤◌, List, [], ◌∷◌, Some, length, slice_set, get_or, refl, sym, ap, ◌∙◌, subst, arith}
use Rattle.std.specs.Prelude.{slice_get}
use Rattle.std.proofs.lemmas.Bool.{cases_eq}
use Rattle.std.proofs.lemmas.Option.{get_or_from_slice_get}
use Rattle.gx_ports.specs.Files.{OthersStay}
use Rattle.gx_ports.specs.Sheets.{Sheets, Ground, IsOwnedAnew, IsClaimed, bytes_at}
use Rattle.gx_ports.proofs.PageLemmas.{bytes_same}
use Rattle.gx_btree.specs.Bplus.{IsWritten, IsOwned}

pub get_set_other : {X : Type 0} (xs : List X) (i j : ℕ) (x : X) → j ≢ i
    → slice_get (slice_set xs i x) j ≡ slice_get xs j
get_set_other [] zero j x d = refl
get_set_other [] (suc i) j x d = refl
get_set_other (y ∷ ys) zero zero x d = absurd (d refl)
get_set_other (y ∷ ys) zero (suc j) x d = refl
get_set_other (y ∷ ys) (suc i) zero x d = refl
get_set_other (y ∷ ys) (suc i) (suc j) x d = get_set_other ys i j x (λ e. d (ap suc e))

pub get_set_same : {X : Type 0} (xs : List X) (i : ℕ) (x : X) → i < length xs
    → slice_get (slice_set xs i x) i ≡ Some x
get_set_same [] i x below = absurd (omega (arith, below))
get_set_same (y ∷ ys) zero x below = refl
get_set_same (y ∷ ys) (suc i) x below = get_set_same ys i x (omega (arith, below))

pub get_below : {X : Type 0} (xs : List X) (i : ℕ) (x : X) → slice_get xs i ≡ Some x → i < length xs
get_below [] i x e = let no : ⊥ = cc in absurd no
get_below (y ∷ ys) zero x e = omega arith
get_below (y ∷ ys) (suc i) x e = let h = get_below ys i x e in omega (arith, h)

-- what stands at a place of two lists is the same where it is so for the one reading
same_or : (xs ys : List (List ℕ)) (i : ℕ) → slice_get xs i ≡ slice_get ys i
    → get_or xs i [] ≡ get_or ys i []
same_or [] [] i e = refl
same_or [] (y ∷ ys) zero e = let no : ⊥ = cc in absurd no
same_or [] (y ∷ ys) (suc i) e = same_or [] ys i e
same_or (x ∷ xs) [] zero e = let no : ⊥ = cc in absurd no
same_or (x ∷ xs) [] (suc i) e = same_or xs [] i e
same_or (x ∷ xs) (y ∷ ys) zero e = cc
same_or (x ∷ xs) (y ∷ ys) (suc i) e = same_or xs ys i e

-- ---- all that other owners have stays

-- no page has two owners
one_owner : (sheets : Sheets) (q a b : ℕ) → IsOwned a sheets q → IsOwned b sheets q → a ≡ b
one_owner sheets q a b x y = let e : Some a ≡ Some b = sym x ∙ y in cc

-- ---- a page is written

pub written_owners : (page : ℕ) (bytes : List ℕ) (old new : Sheets) → IsWritten page bytes old new
    → new.owners ≡ old.owners
written_owners page bytes old new w = ap (λ (s : Sheets). s.owners) w

pub written_owned : (page : ℕ) (bytes : List ℕ) (old new : Sheets) → IsWritten page bytes old new
    → (owner q : ℕ)
    → (IsOwned owner new q → IsOwned owner old q) × (IsOwned owner old q → IsOwned owner new q)
written_owned page bytes old new w owner q =
    let e = written_owners page bytes old new w in (
      λ h. subst (λ (os : List ℕ). slice_get os q ≡ Some owner) e h,
      λ h. subst (λ (os : List ℕ). slice_get os q ≡ Some owner) (sym e) h,
    )

written_get : (page : ℕ) (bytes : List ℕ) (old new : Sheets) → IsWritten page bytes old new
    → (q : ℕ) → q ≢ page
    → slice_get new.bytes q ≡ slice_get old.bytes q
written_get page bytes old new w q d =
    ap (λ (s : Sheets). slice_get s.bytes q) w ∙ get_set_other old.bytes page q bytes d

pub written_other : (page : ℕ) (bytes : List ℕ) (old new : Sheets) → IsWritten page bytes old new
    → (q : ℕ)
    → q ≢ page → bytes_at new q ≡ bytes_at old q
written_other page bytes old new w q d = bytes_same old new q (written_get page bytes old new w q d)

pub written_here : (page : ℕ) (bytes : List ℕ) (old new : Sheets) → IsWritten page bytes old new
    → page < length old.bytes → bytes_at new page ≡ bytes
written_here page bytes old new w below =
    get_or_from_slice_get new.bytes page bytes []
    (ap (λ (s : Sheets). slice_get s.bytes page) w ∙ get_set_same old.bytes page bytes below)

pub written_length : (page : ℕ) (bytes : List ℕ) (old new : Sheets) → IsWritten page bytes old new
    → length new.owners ≡ length old.owners
written_length page bytes old new w = ap length (written_owners page bytes old new w)

pub written_others : (ground : Ground) (owner page : ℕ) (bytes : List ℕ) (old new : Sheets)
    → IsWritten page bytes old new → IsOwned owner old page → OthersStay ground owner old new
written_others ground owner page bytes old new w mine other d n = record {
  owned = λ q. let o = written_owned page bytes old new w other q in (o.1, o.0);
  bytes = λ q past is. written_get page bytes old new w q
      (λ e. d (one_owner old page other owner (subst (IsOwned other old) e is) mine));
}

-- ---- a page has another owner

pub anew_other : (page to : ℕ) (ground : Ground) (old new : Sheets)
    → IsOwnedAnew page to ground old new
    → (owner q : ℕ) → q ≢ page
    → (IsOwned owner new q → IsOwned owner old q) × (IsOwned owner old q → IsOwned owner new q)
anew_other page to ground old new a owner q d =
    let e : slice_get new.owners q ≡ slice_get old.owners q =
    ap (λ (os : List ℕ). slice_get os q) a.owners
    ∙ get_set_other old.owners page q to d in
    (λ h. sym e ∙ h, λ h. e ∙ h)

pub anew_here : (page to : ℕ) (ground : Ground) (old new : Sheets)
    → IsOwnedAnew page to ground old new
    → page < length old.owners → IsOwned to new page
anew_here page to ground old new a below =
    ap (λ (os : List ℕ). slice_get os page) a.owners ∙ get_set_same old.owners page to below

pub anew_bytes : (page to : ℕ) (ground : Ground) (old new : Sheets)
    → IsOwnedAnew page to ground old new → (q : ℕ)
    → ground.tables ≤ q → bytes_at new q ≡ bytes_at old q
anew_bytes page to ground old new a q past = bytes_same old new q (a.bytes q past)

-- a page that was the owner's or free, and is free or the owner's
anew_others : (page from to owner : ℕ) (ground : Ground) (old new : Sheets)
    → IsOwnedAnew page to ground old new
    → IsOwned from old page → (from ≡ owner) ⊎ (from ≡ 0) → (to ≡ owner) ⊎ (to ≡ 0)
    → OthersStay ground owner old new
anew_others page from to owner ground old new a was f t other d n =
    let here = anew_here page to ground old new a (get_below old.owners page from was) in
    let no_old : IsOwned other old page → ⊥ = λ h. let e =
    one_owner old page other from h was in elim f [ inl x ↦ d (e ∙ x) | inr x ↦ n (e ∙ x) ] in
    let no_new : IsOwned other new page → ⊥ = λ h. let e =
    one_owner new page other to h here in elim t [ inl x ↦ d (e ∙ x) | inr x ↦ n (e ∙ x) ] in
    record {
      owned = λ q. elim (cases_eq q page) [
        | inl e ↦ (
          λ h. absurd (no_old (subst (IsOwned other old) e h)),
          λ h. absurd (no_new (subst (IsOwned other new) e h)),
        )
        | inr e ↦ (let o = anew_other page to ground old new a other q e in (o.1, o.0))
      ];
      bytes = λ q past is. a.bytes q past;
    }

pub freed_others : (page owner : ℕ) (ground : Ground) (old new : Sheets)
    → IsOwnedAnew page 0 ground old new
    → IsOwned owner old page → OthersStay ground owner old new
freed_others page owner ground old new a was =
    anew_others page owner 0 owner ground old new a was (inl refl) (inr refl)

pub claimed_others : (page owner : ℕ) (ground : Ground) (old new : Sheets)
    → IsClaimed page owner ground old new
    → OthersStay ground owner old new
claimed_others page owner ground old new c =
    anew_others page 0 owner owner ground old new c.owned c.was_free (inr refl) (inl refl)

pub freed_owned : (page owner : ℕ) (ground : Ground) (old new : Sheets) → 1 ≤ owner
    → IsOwnedAnew page 0 ground old new → IsOwned owner old page
    → (q : ℕ)
    → (IsOwned owner new q → IsOwned owner old q × (q ≢ page))
    × (IsOwned owner old q × (q ≢ page) → IsOwned owner new q)
freed_owned page owner ground old new least a was q =
    let here = anew_here page 0 ground old new a (get_below old.owners page owner was) in (
      λ h. elim (cases_eq q page) [
        | inl e ↦ (let z = one_owner new page owner 0 (subst (IsOwned owner new) e h) here in
            absurd (omega (arith, z, least)))
        | inr e ↦ ((anew_other page 0 ground old new a owner q e).0 h, e)
      ],
      λ h. (anew_other page 0 ground old new a owner q h.1).1 h.0,
    )

pub claimed_owned : (page owner : ℕ) (ground : Ground) (old new : Sheets)
    → IsClaimed page owner ground old new
    → (q : ℕ)
    → (IsOwned owner new q → (q ≡ page) ⊎ IsOwned owner old q)
    × ((q ≡ page) ⊎ IsOwned owner old q → IsOwned owner new q)
claimed_owned page owner ground old new c q =
    let here = anew_here page owner ground old new c.owned (get_below old.owners page 0 c.was_free)
    in (
      λ h. elim (cases_eq q page) [
        | inl e ↦ inl e
        | inr e ↦ inr
            ((anew_other page owner ground old new c.owned owner q e).0 h)
      ],
      λ h. elim h [
        | inl e ↦ subst (IsOwned owner new) (sym e) here
        | inr i ↦ elim (cases_eq q page) [
          | inl e ↦ subst (IsOwned owner new) (sym e) here
          | inr e ↦ (anew_other page owner ground old new c.owned owner q e).1 i
        ]
      ],
    )

pub claimed_free : (page owner : ℕ) (ground : Ground) (old new : Sheets) → 1 ≤ owner
    → IsClaimed page owner ground old new → IsOwned owner old page → ⊥
claimed_free page owner ground old new least c h = let z = one_owner old page owner 0 h c.was_free
    in omega (arith, z, least)
