-- A tree around one of its subtrees.
use Rattle.std.specs.Prelude.{◌≡◌, ◌⊎◌, ◌++◌, ℕ, List, [], ◌∷◌, Option, length, ⊤}
use Rattle.gx_slots.specs.Entries.{Entry}
use Rattle.gx_bnode.specs.Branches.{Branch}
use Rattle.gx_bnode.specs.Page.{separators_in}
use Rattle.gx_btree.specs.Order.{IsBelow, IsUpTo, IsUnder, IsOver, is_below}
use Rattle.gx_btree.specs.Tree.{In, BplusTree, BplusKids, last, more, page_of, first_of, branches_of, entries, kids_entries, pages, kids_pages, Stands, AllStand, Ordered, AreOrdered, IsFilled, Apart, AreApart, IsWhole, child_for, bound_for, with_branch, without_from, without_branch, first_without}

-- a tree that may stand where the keys from lo up to below hi belong, beside these pages
pub record IsFitting (at : ℕ → List ℕ) (p : ℕ) (lo : List ℕ) (hi : Option (List ℕ))
    (others : List ℕ) (t : BplusTree) : Type 0 where
  pub page_is : page_of t ≡ p
  pub stands : Stands at t
  pub ordered : Ordered t
  pub apart : Apart t
  pub bounds : (x : Entry) → In x (entries t) → IsUpTo lo x.key × IsUnder x.key hi
  pub alone : (q : ℕ) → In q (pages t) → In q others → ⊥

-- these pages are the same
abbrev pub Same : List ℕ → (ℕ → List ℕ) → (ℕ → List ℕ) → Type 0
Same others at new = (q : ℕ) → In q others → new q ≡ at q

-- the members of one list are those of two others
abbrev pub Joins : {A : Type 0} → List A → List A → List A → Type 0
Joins {A} xs ys zs = (x : A) → (In x xs → In x ys ⊎ In x zs) × (In x ys ⊎ In x zs → In x xs)

-- children with these entries and pages, under a page that holds this
pub record Has (at : ℕ → List ℕ) (first : ℕ) (branches : List Branch) (es rest : List Entry)
    (ps others : List ℕ) : Type 0 where
  pub kids : BplusKids
  pub first_is : first_of kids ≡ first
  pub branches_are : branches_of kids ≡ branches
  pub stand : AllStand at kids
  pub ordered : AreOrdered kids
  pub apart : AreApart kids
  pub entries_are : Joins (kids_entries kids) es rest
  pub pages_are : Joins (kids_pages kids) ps others

-- there are two children or more
abbrev pub AreMany : BplusKids → Type 0
AreMany (last t) = ⊥
AreMany (more t s kids) = ⊤

-- a tree may stand before these children, with a separator between
pub record IsBefore (at : ℕ → List ℕ) (t : BplusTree) (s : List ℕ) (kids : BplusKids) : Type 0 where
  pub stands : Stands at t
  pub ordered : Ordered t
  pub filled : IsFilled t
  pub apart : Apart t
  pub below : (x : Entry) → In x (entries t) → IsBelow x.key s
  pub above : (x : Entry) → In x (kids_entries kids) → IsUpTo s x.key
  pub alone : (q : ℕ) → In q (pages t) → In q (kids_pages kids) → ⊥

-- no bound within another one lets more keys through
pub record IsWithin (high hi : Option (List ℕ)) : Type 0 where
  pub under : (key : List ℕ) → IsUnder key high → IsUnder key hi
  pub over : (key : List ℕ) → IsOver key hi → IsOver key high

-- the child on the way to a key, what stands beside it, and what may take its place: one tree, or
-- two with a separator between
pub record KidHole (at : ℕ → List ℕ) (kids : BplusKids) (key lo : List ℕ)
    (hi : Option (List ℕ)) : Type 0
  where
    pub kid : BplusTree
    pub low : List ℕ
    pub high : Option (List ℕ)
    pub rest : List Entry
    pub others : List ℕ
    pub way : child_for (first_of kids) (branches_of kids) key ≡ page_of kid
    pub fits : IsFitting at (page_of kid) low high others kid
    pub filled : IsFilled kid
    pub lower : IsUpTo lo low
    pub higher : IsWithin high hi
    pub high_is : high ≡ bound_for (branches_of kids) key hi
    pub from : IsUpTo low key
    pub to : IsUnder key high
    pub out : (x : Entry) → In x rest → IsBelow x.key low ⊎ IsOver x.key high
    -- keys within its bounds go the same way
    pub beside : (x : List ℕ) → IsUpTo low x → IsUnder x high → (s : List ℕ)
        → In s (separators_in (branches_of kids)) → is_below x s ≡ is_below key s
    pub entries_are : Joins (kids_entries kids) (entries kid) rest
    pub pages_are : Joins (kids_pages kids) (pages kid) others
    pub one : (new : ℕ → List ℕ) (t : BplusTree) → Same others at new
        → IsFitting new (page_of kid) low high others t → IsFilled t
        → Has new (first_of kids) (branches_of kids) (entries t) rest (pages t) others
    pub two : (new : ℕ → List ℕ) (l r : BplusTree) (s : List ℕ) → Same others at new
        → IsFitting new (page_of kid) low high others l → IsFilled l
        → IsFitting new (page_of r) low high others r → IsFilled r
        → ((q : ℕ) → In q (pages l) → In q (pages r) → ⊥)
        → ((x : Entry) → In x (entries l) → IsBelow x.key s)
        → ((x : Entry) → In x (entries r) → IsUpTo s x.key)
        → Has new (first_of kids)
        (with_branch (branches_of kids) key (record { separator = s; child = page_of r }))
        (entries l ++ entries r) rest (pages l ++ pages r) others
    -- and what is left without it
    pub gone : (new : ℕ → List ℕ) → Same others at new → AreMany kids
        → Has new (first_without (first_of kids) (branches_of kids) key)
        (without_branch (branches_of kids) key) rest [] others []
    pub gone_behind : (new : ℕ → List ℕ) (t : BplusTree) (s : List ℕ) → Same others at new
        → IsBefore new t s kids
        → Has new (page_of t)
        (without_from (record { separator = s; child = first_of kids }) (branches_of kids) key)
        (entries t ++ rest) [] (pages t ++ others) []

-- a whole tree around a subtree with these entries and pages
pub record Around (at : ℕ → List ℕ) (root : ℕ) (es rest : List Entry) (ps others : List ℕ) : Type 0
  where
    pub tree : BplusTree
    pub whole : IsWhole at root tree
    pub entries_are : Joins (entries tree) es rest
    pub pages_are : Joins (pages tree) ps others

-- What stands around page p: whatever fitting tree takes the place of the one at p, the whole is a
-- tree again.
pub record Hole (at : ℕ → List ℕ) (root p : ℕ) (lo : List ℕ) (hi : Option (List ℕ))
    (rest : List Entry) (others : List ℕ) : Type 0 where
  pub out : (x : Entry) → In x rest → IsBelow x.key lo ⊎ IsOver x.key hi
  pub fill : (new : ℕ → List ℕ) (t : BplusTree) → Same others at new
      → IsFitting new p lo hi others t
      → IsFilled t → Around new root (entries t) rest (pages t) others

-- no item stands twice
abbrev pub AreUnique : List ℕ → Type 0
AreUnique [] = ⊤
AreUnique (x ∷ xs) = (In x xs → ⊥) × AreUnique xs

-- The search for a key has come to page p after so many steps, in a tree with the entries of the
-- old one.
pub record IsAtHand (at : ℕ → List ℕ) (owned : ℕ → Type 0) (root p : ℕ) (key : List ℕ)
    (old : BplusTree)
    (steps : ℕ) : Type 0 where
  pub lo : List ℕ
  pub hi : Option (List ℕ)
  pub rest : List Entry
  pub others : List ℕ
  pub subtree : BplusTree
  pub hole : Hole at root p lo hi rest others
  pub fits : IsFitting at p lo hi others subtree
  pub from : IsUpTo lo key
  pub to : IsUnder key hi
  pub entries_are : Joins (entries old) (entries subtree) rest
  pub owns : (q : ℕ)
      → (owned q → In q (pages subtree) ⊎ In q others)
      × (In q (pages subtree) ⊎ In q others → owned q)
  -- the pages that it came through
  pub path : List ℕ
  pub path_is : length path ≡ steps
  pub unique : AreUnique path
  pub path_in : (q : ℕ) → In q path → In q others
