-- Where a separator may stand among others.
use Rattle.std.proofs.Common.{◌≡◌, ◌⊎◌, inl, inr, ◌++◌, ◌+◌, ◌-◌, ◌<◌, ◌≤◌, ℕ, zero, suc, List, [], ◌∷◌, length, get_or, refl, sym, ap, ◌∙◌, subst, arith}
use Rattle.std.specs.Prelude.{⊤}
use Rattle.std.specs.List.{insert}
use Rattle.std.proofs.lemmas.Bool.{cases_Bool, cond-true, cond-false}
use Rattle.std.proofs.lemmas.List.Edits.{length-insert, get_or-insert_below, get_or-insert_at, get_or-insert_above}
use Rattle.gx_slots.specs.Entries.{Entry}
use Rattle.gx_bnode.specs.Branches.{Branch, AreAscending}
use Rattle.gx_bnode.specs.Page.{branches_of as branches_at, separators_in, separators_of}
use Rattle.gx_bnode.proofs.PageLemmas.{map-insert}
use Rattle.gx_btree.specs.Hole.{IsAtHand}
use Rattle.gx_btree.specs.Order.{IsBelow, IsUpTo, IsUnder, is_below}
use Rattle.gx_btree.specs.Tree.{In, BplusTree, leaf, node, page_of, branches_of, entries, kids_entries, Stands, ShowsEntries, ShowsInner, Ordered, Apart, child_for, with_branch}
use Rattle.gx_btree.proofs.BranchLemmas.{IsPlaceFor, insert_is}
use Rattle.gx_btree.proofs.EntryLemmas.{place_in, in_place}
use Rattle.gx_btree.proofs.KidLemmas.{branch, some_key}
use Rattle.gx_btree.proofs.MemberLemmas.{in_left, in_right}
use Rattle.gx_btree.proofs.OrderLemmas.{below_below, up_to_below, below_of, up_to_of}
use Rattle.gx_btree.proofs.StepLemmas.{IsAtNode, at_node, node_at, leaf_is}
use Rattle.gx_bplus.specs.Changes.{IsSpread, MayStand}
use Rattle.gx_bplus.proofs.HalfLemmas.{cut_kids}

-- keys that ascend, by parts
abbrev Up : List (List ℕ) → Type 0
Up [] = ⊤
Up (x ∷ xs) = ((y : List ℕ) → In y xs → IsBelow x y) × Up xs

up_of : (xs : List (List ℕ)) → AreAscending xs → Up xs
up_of [] up = tt
up_of (x ∷ xs) up = (
  (λ y i. let p = place_in y xs i in
      subst (IsBelow x) (p.is x)
      (up 0 (suc p.place) x (omega arith) (let b = p.below in omega (arith, b)))),
  up_of xs (λ i j d lt below. up (suc i) (suc j) d (omega (arith, lt)) (omega (arith, below))),
)

up_from : (xs : List (List ℕ)) → Up xs → AreAscending xs
up_from [] up i j d lt below = absurd (omega (arith, below))
up_from (x ∷ xs) up zero zero d lt below = absurd (omega (arith, lt))
up_from (x ∷ xs) up zero (suc j) d lt below =
    up.0 (get_or xs j d) (in_place xs j d (omega (arith, below)))
up_from (x ∷ xs) up (suc i) zero d lt below = absurd (omega (arith, lt))
up_from (x ∷ xs) up (suc i) (suc j) d lt below =
    up_from xs up.1 i j d (omega (arith, lt)) (omega (arith, below))

-- the separators with one more
with_in : (bs : List Branch) (key s : List ℕ) (c : ℕ) (z : List ℕ)
    → In z (separators_in (with_branch bs key (branch s c)))
    → (z ≡ s) ⊎ In z (separators_in bs)
with_in [] key s c z i = elim i [ inl e ↦ inl e | inr n ↦ absurd n ]
with_in (b ∷ bs) key s c z i = elim (cases_Bool (is_below key b.separator)) [
  | inl is ↦ subst (λ cs. In z (separators_in cs))
      (cond-true (is_below key b.separator) (branch s c ∷ b ∷ bs)
      (b ∷ with_branch bs key (branch s c)) is) i
  | inr is ↦ elim
      (subst (λ cs. In z (separators_in cs))
      (cond-false (is_below key b.separator) (branch s c ∷ b ∷ bs)
      (b ∷ with_branch bs key (branch s c)) is) i) [
        | inl e ↦ inr (inl e)
        | inr j ↦ elim (with_in bs key s c z j) [ inl e ↦ inl e | inr k ↦ inr (inr k) ]
      ]
]

-- x and y go the way of the key, and the separator stands between them
up_with : (bs : List Branch) (key s x y : List ℕ) (c : ℕ) → Up (separators_in bs)
    → ((t : List ℕ) → In t (separators_in bs) → is_below x t ≡ is_below key t)
    → ((t : List ℕ) → In t (separators_in bs) → is_below y t ≡ is_below key t)
    → IsBelow x s → IsUpTo s y → Up (separators_in (with_branch bs key (branch s c)))
up_with [] key s x y c up as_x as_y below above = ((λ z i. absurd i), tt)
up_with (b ∷ bs) key s x y c up as_x as_y below above =
    elim (cases_Bool (is_below key b.separator)) [
      | inl is ↦
          (let here : IsBelow s b.separator =
          up_to_below s y b.separator above
          (below_of y b.separator (as_y b.separator (inl refl) ∙ is)) in
          subst (λ cs. Up (separators_in cs))
          (sym (cond-true (is_below key b.separator) (branch s c ∷ b ∷ bs)
          (b ∷ with_branch bs key (branch s c)) is)) (
            (λ z i. elim i [
              | inl e ↦ subst (IsBelow s) (sym e) here
              | inr j ↦ below_below s b.separator z here (up.0 z j)
            ]),
            up,
          ))
      | inr is ↦
          (let here : IsBelow b.separator s =
          up_to_below b.separator x s (up_to_of x b.separator (as_x b.separator (inl refl) ∙ is))
          below in
          subst (λ cs. Up (separators_in cs))
          (sym (cond-false (is_below key b.separator) (branch s c ∷ b ∷ bs)
          (b ∷ with_branch bs key (branch s c)) is)) (
            (λ z i. elim (with_in bs key s c z i)
                [ inl e ↦ subst (IsBelow b.separator) (sym e) here | inr j ↦ up.0 z j ]),
            up_with bs key s x y c up.1 (λ t i. as_x t (inr i)) (λ t i. as_y t (inr i)) below above,
          ))
    ]

-- ---- a key among keys

in_insert : (xs : List (List ℕ)) (i : ℕ) (k z : List ℕ) → In z (insert xs i k) → (z ≡ k) ⊎ In z xs
in_insert [] zero k z j = j
in_insert [] (suc i) k z j = j
in_insert (x ∷ xs) zero k z j = j
in_insert (x ∷ xs) (suc i) k z j = elim j [
  | inl e ↦ inr (inl e)
  | inr m ↦ elim (in_insert xs i k z m) [ inl e ↦ inl e | inr n ↦ inr (inr n) ]
]

head_below : (x : List ℕ) (xs : List (List ℕ)) (i : ℕ) (k : List ℕ) → Up (x ∷ xs)
    → i < length (x ∷ xs) → IsBelow (get_or (x ∷ xs) i []) k
    → IsBelow x k
head_below x xs zero k up less below = below
head_below x xs (suc j) k up less below =
    below_below x (get_or xs j []) k
    (up.0 (get_or xs j []) (in_place xs j [] (omega (arith, less))))
    below

up_insert : (xs : List (List ℕ)) (i : ℕ) (k : List ℕ) → Up xs → i ≤ length xs
    → ((j : ℕ) → suc j ≡ i → IsBelow (get_or xs j []) k)
    → (i < length xs → IsBelow k (get_or xs i [])) → Up (insert xs i k)
up_insert [] zero k up le before behind = ((λ y j. absurd j), tt)
up_insert [] (suc i) k up le before behind = absurd (omega (arith, le))
up_insert (x ∷ xs) zero k up le before behind =
    let here : IsBelow k x = behind (omega arith) in (
      (λ y j. elim j [
        | inl e ↦ subst (IsBelow k) (sym e) here
        | inr m ↦ below_below k x y here (up.0 y m)
      ]),
      up,
    )
up_insert (x ∷ xs) (suc i) k up le before behind =
    let here : IsBelow x k = head_below x xs i k up (omega (arith, le)) (before i refl) in (
      (λ y j. elim (in_insert xs i k y j)
          [ inl e ↦ subst (IsBelow x) (sym e) here | inr m ↦ up.0 y m ]),
      up_insert xs i k up.1 (omega (arith, le)) (λ j e. before (suc j) (ap suc e))
          (λ less. behind (omega (arith, less))),
    )

-- a key may stand at a place where it stands between the two keys there
pub ascends_with : (xs : List (List ℕ)) (i : ℕ) (k : List ℕ) → AreAscending xs → i ≤ length xs
    → (0 < i → IsBelow (get_or xs (i - 1) []) k)
    → (i < length xs → IsBelow k (get_or xs i [])) → AreAscending (insert xs i k)
ascends_with xs i k up le before behind =
    up_from (insert xs i k)
    (up_insert xs i k (up_of xs up) le
    (λ j e. subst (λ n. IsBelow (get_or xs n []) k) (let s : i - 1 ≡ j = omega (arith, e) in s)
    (before (omega (arith, e)))) behind)

-- and only there
pub ascends_behind : (xs : List (List ℕ)) (i : ℕ) (k : List ℕ) → i ≤ length xs
    → AreAscending (insert xs i k) → 0 < i
    → IsBelow (get_or xs (i - 1) []) k
ascends_behind xs i k le up some =
    let l = length-insert xs i k le in
    let p = up (i - 1) i [] (omega (arith, some)) (omega (arith, l, le)) in
    subst (λ z. IsBelow z k) (get_or-insert_below xs i k [] (i - 1) (omega (arith, some)) le)
    (subst (IsBelow (get_or (insert xs i k) (i - 1) [])) (get_or-insert_at xs i k [] le) p)

pub ascends_before : (xs : List (List ℕ)) (i : ℕ) (k : List ℕ) → i ≤ length xs
    → AreAscending (insert xs i k) → i < length xs
    → IsBelow k (get_or xs i [])
ascends_before xs i k le up less =
    let l = length-insert xs i k le in
    let p = up i (i + 1) [] (omega arith) (omega (arith, l, less)) in
    subst (IsBelow k) (get_or-insert_above xs i k [] i (omega arith) le)
    (subst (λ z. IsBelow z (get_or (insert xs i k) (i + 1) [])) (get_or-insert_at xs i k [] le) p)

-- so it is with a separator right behind the child on the way
pub may_insert : (page key s : List ℕ) (i : ℕ) → IsPlaceFor (branches_at page) key i
    → MayStand (branches_at page) key s
    → AreAscending (insert (separators_of page) i s)
may_insert page key s i at may =
    let b = branch s 0 in
    subst AreAscending (ap separators_in (sym (insert_is (branches_at page) key i b at))
    ∙ map-insert (λ (c : Branch). c.separator) (branches_at page) i b) (may 0)

-- ---- separators of a tree

-- a separator between two keys of the child on the way may stand beside it
module _ {steps : ℕ} (at : ℕ → List ℕ) (owned : ℕ → Type 0) (root p : ℕ) (key : List ℕ)
    (old : BplusTree)
    (first : ℕ) (branches : List Branch)
    (h : IsAtHand at owned root p key old steps)
    (n : IsAtNode at owned root p key old first branches h) where
  between : (s : List ℕ) (x y : List ℕ) → IsUpTo n.hole.low x → IsUnder x n.hole.high
      → IsUpTo n.hole.low y → IsUnder y n.hole.high
      → IsBelow x s → IsUpTo s y → MayStand branches key s
  between s x y x_least x_most y_least y_most below above c =
      subst (λ bs. AreAscending (separators_in (with_branch bs key (branch s c)))) n.branches_are
      (up_from (separators_in (with_branch (branches_of n.kids) key (branch s c)))
      (up_with (branches_of n.kids) key s x y c
      (up_of (separators_in (branches_of n.kids)) n.shows.ascending)
      (n.hole.beside x x_least x_most) (n.hole.beside y y_least y_most) below above))

-- so may the one between the halves of an inner child
pub split_may : {steps : ℕ} (at : ℕ → List ℕ) (owned : ℕ → Type 0) (root p : ℕ) (key : List ℕ)
    (old : BplusTree) (first : ℕ)
    (branches : List Branch) (f : ℕ) (bs ls : List Branch) (s : List ℕ) (c : ℕ) (rs : List Branch)
    → bs ≡ ls ++ branch s c ∷ rs
    → ShowsInner (at p) first branches → ShowsInner (at (child_for first branches key)) f bs
    → IsAtHand at owned root p key old steps
    → MayStand branches key s
split_may at owned root p key old first branches f bs ls s c rs cut at_p at_c h =
    let n = at_node at owned root p key old first branches at_p h in
    let k = n.hole in
    let m = node_at at f bs k.kid (subst (λ q. ShowsInner (at q) f bs) n.goes at_c) k.fits.stands in
    let stands : Stands at (node (page_of k.kid) m.kids) = subst (Stands at) m.is k.fits.stands in
    let ordered : Ordered (node (page_of k.kid) m.kids) = subst Ordered m.is k.fits.ordered in
    let apart : Apart (node (page_of k.kid) m.kids) = subst Apart m.is k.fits.apart in
    let entries_is : entries k.kid ≡ kids_entries m.kids = ap entries m.is in
    let parts = cut_kids at m.kids ls s c rs (m.branches_are ∙ cut) stands.1 ordered apart.1 in
    let x = some_key parts.left parts.ordered_left in
    let y = some_key parts.right parts.ordered_right in
    let x_in = k.fits.bounds x.0
    (subst (In x.0) (sym entries_is) ((parts.entries_are x.0).1 (inl x.1))) in
    let y_in = k.fits.bounds y.0
    (subst (In y.0) (sym entries_is) ((parts.entries_are y.0).1 (inr y.1))) in
    between at owned root p key old first branches h n s x.0.key y.0.key x_in.0 x_in.1 y_in.0 y_in.1
    (parts.below x.0 x.1)
    (parts.above y.0 y.1)

-- and the one between the two pages of an entry page
pub spread_may : {steps : ℕ} (at : ℕ → List ℕ) (owned : ℕ → Type 0) (root p : ℕ) (e : Entry)
    (old : BplusTree) (first : ℕ)
    (branches : List Branch) (es ls rs : List Entry) (s : List ℕ) → IsSpread es e ls rs s
    → ShowsInner (at p) first branches → ShowsEntries (at (child_for first branches e.key)) es
    → IsAtHand at owned root p e.key old steps
    → MayStand branches e.key s
spread_may at owned root p e old first branches es ls rs s w at_p at_c h =
    let n = at_node at owned root p e.key old first branches at_p h in
    let k = n.hole in
    let kid_is : k.kid ≡ leaf (page_of k.kid) es =
    leaf_is at k.kid es (subst (λ q. ShowsEntries (at q) es) n.goes at_c) k.fits.stands in
    let entries_is : entries k.kid ≡ es = ap entries kid_is in
    let bounds : (x : Entry) → In x (ls ++ rs) → IsUpTo k.low x.key × IsUnder x.key k.high =
    λ x i. elim ((w.put x).0 i) [
      | inl d ↦ (
        subst (λ y. IsUpTo k.low y.key) (sym d) k.from,
        subst (λ (y : Entry). IsUnder y.key k.high) (sym d) k.to,
      )
      | inr d ↦ k.fits.bounds x (subst (In x) (sym entries_is) d.0)
    ] in
    let x = w.left_some in
    let y = w.right_some in
    let x_in = bounds x.0 (in_left x.0 ls rs x.1) in
    let y_in = bounds y.0 (in_right y.0 ls rs y.1) in
    between at owned root p e.key old first branches h n s x.0.key y.0.key x_in.0 x_in.1 y_in.0
    y_in.1 (w.below x.0 x.1) (w.above y.0 y.1)
