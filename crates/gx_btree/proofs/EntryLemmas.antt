-- Entries in ascending order, and the one with a key among them.
use Rattle.std.proofs.Common.{◌≡◌, inl, inr, ℕ, zero, suc, ◌<◌, List, [], ◌∷◌, length, get_or, refl, sym, subst, arith}
use Rattle.gx_slots.specs.Entries.{Entry, AreAscending}
use Rattle.gx_slots.specs.Page.{IsPageOf, entries_of}
use Rattle.gx_slots.proofs.PageLemmas as slots
use Rattle.gx_bnode.specs.Page as bnode
use Rattle.gx_bnode.proofs.PageLemmas as bnode_lemmas
use Rattle.gx_btree.specs.declared.reading.Shape.TheVariants as shapes
use Rattle.gx_btree.specs.Order.{IsBelow}
use Rattle.gx_btree.specs.Bplus.{Shows}
use Rattle.gx_btree.specs.Tree.{IsSome, In, Ascending, ShowsEntries, ShowsInner}

-- where a member stands
pub record IsPlaceOf {A : Type 0} (x : A) (xs : List A) : Type 0 where
  pub place : ℕ
  pub below : place < length xs
  pub is : (d : A) → get_or xs place d ≡ x

pub place_in : {A : Type 0} (x : A) (xs : List A) → In x xs → IsPlaceOf x xs
place_in x [] i = absurd i
place_in x (y ∷ ys) (inl e) = record { place = 0; below = omega arith; is = λ d. sym e }
place_in x (y ∷ ys) (inr i) =
    let p = place_in x ys i in
    record { place = suc p.place; below = (let b = p.below in omega (arith, b)); is = p.is }

pub in_place : {A : Type 0} (xs : List A) (i : ℕ) (d : A) → i < length xs → In (get_or xs i d) xs
in_place [] i d below = absurd (omega (arith, below))
in_place (y ∷ ys) zero d below = inl refl
in_place (y ∷ ys) (suc i) d below = inr (in_place ys i d (omega (arith, below)))

-- the order, by places and by parts
pub ascending_of : (es : List Entry) → AreAscending es → Ascending es
ascending_of [] up = tt
ascending_of (x ∷ xs) up = (
  (λ y i. let p = place_in y xs i in
      subst (λ (e : Entry). IsBelow x.key e.key) (p.is x)
      (up 0 (suc p.place) x (omega arith) (let b = p.below in omega (arith, b)))),
  ascending_of xs
      (λ i j d lt below. up (suc i) (suc j) d (omega (arith, lt)) (omega (arith, below))),
)

pub ascending_from : (es : List Entry) → Ascending es → AreAscending es
ascending_from [] up i j d lt below = absurd (omega (arith, below))
ascending_from (x ∷ xs) up zero zero d lt below = absurd (omega (arith, lt))
ascending_from (x ∷ xs) up zero (suc j) d lt below =
    up.0 (get_or xs j d) (in_place xs j d (omega (arith, below)))
ascending_from (x ∷ xs) up (suc i) zero d lt below = absurd (omega (arith, lt))
ascending_from (x ∷ xs) up (suc i) (suc j) d lt below =
    ascending_from xs up.1 i j d (omega (arith, lt)) (omega (arith, below))

-- pages as the two crates see them
pub shows_entries : (bytes : List ℕ) → Shows shapes.Entries bytes
    → ShowsEntries bytes (entries_of bytes)
shows_entries bytes s =
    subst (λ n. IsPageOf (entries_of bytes) n bytes) s.1 (slots.page_of bytes s.0.page)

pub entries_up : (bytes : List ℕ) → Shows shapes.Entries bytes → Ascending (entries_of bytes)
entries_up bytes s = ascending_of (entries_of bytes) s.0.ascending

pub shows_inner : (bytes : List ℕ) → Shows shapes.Inner bytes
    → ShowsInner bytes (bnode.first_of bytes) (bnode.branches_of bytes)
shows_inner bytes s = bnode_lemmas.page_of bytes s

pub some_of : (es : List Entry) → 0 < length es → IsSome es
some_of [] some = absurd (omega (arith, some))
some_of (x ∷ xs) some = (x, inl refl)

pub none_of : (es : List Entry) → length es ≡ 0 → es ≡ []
none_of [] none = refl
none_of (x ∷ xs) none = absurd (omega (arith, none))
