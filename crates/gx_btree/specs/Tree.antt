-- A B+ tree as a plain value, and the pages that hold it.
use Rattle.std.specs.Prelude.{◌≡◌, ◌++◌, ℕ, List, [], ◌∷◌, Option, Some, if◌then◌else◌, ⊤}
use Rattle.gx_bytes.specs.declared.page.TheConstants.{NONE}
pub use Rattle.gx_laws.specs.Members.{In}
use Rattle.gx_slots.specs.Entries.{Entry}
use Rattle.gx_slots.specs.Page as slots
use Rattle.gx_bnode.specs.Branches.{Branch}
use Rattle.gx_bnode.specs.Page as bnode
use Rattle.gx_btree.specs.Order.{IsBelow, IsUpTo, is_below}

-- there is an entry
abbrev pub IsSome : List Entry → Type 0
IsSome es = (x : Entry) × In x es

mutual
  pub data BplusTree : Type 0 where
    leaf : ℕ → List Entry → BplusTree
    node : ℕ → BplusKids → BplusTree

  -- one child at least, with separators between
  pub data BplusKids : Type 0 where
    last : BplusTree → BplusKids
    more : BplusTree → List ℕ → BplusKids → BplusKids

-- the page at the top
abbrev pub page_of : BplusTree → ℕ
page_of (leaf p es) = p
page_of (node p kids) = p

abbrev pub first_of : BplusKids → ℕ
first_of (last t) = page_of t
first_of (more t s kids) = page_of t

abbrev pub branches_of : BplusKids → List Branch
branches_of (last t) = []
branches_of (more t s kids) = record { separator = s; child = first_of kids } ∷ branches_of kids

-- the entries, from left to right
abbrev mutual
  pub entries : BplusTree → List Entry
  entries (leaf p es) = es
  entries (node p kids) = kids_entries kids

  pub kids_entries : BplusKids → List Entry
  kids_entries (last t) = entries t
  kids_entries (more t s kids) = entries t ++ kids_entries kids

-- the pages, each as often as it stands in the tree
abbrev mutual
  pub pages : BplusTree → List ℕ
  pages (leaf p es) = p ∷ []
  pages (node p kids) = p ∷ kids_pages kids

  pub kids_pages : BplusKids → List ℕ
  kids_pages (last t) = pages t
  kids_pages (more t s kids) = pages t ++ kids_pages kids

-- the bytes are an entry page with no next page, or an inner page
abbrev pub ShowsEntries : List ℕ → List Entry → Type 0
ShowsEntries bytes es = slots.IsPageOf es NONE bytes

abbrev pub ShowsInner : List ℕ → ℕ → List Branch → Type 0
ShowsInner bytes first branches = bnode.IsPageOf first branches bytes

-- the pages hold the tree
abbrev mutual
  pub Stands : (ℕ → List ℕ) → BplusTree → Type 0
  Stands at (leaf p es) = ShowsEntries (at p) es
  Stands at (node p kids) = ShowsInner (at p) (first_of kids) (branches_of kids) × AllStand at kids

  pub AllStand : (ℕ → List ℕ) → BplusKids → Type 0
  AllStand at (last t) = Stands at t
  AllStand at (more t s kids) = Stands at t × AllStand at kids

-- each key stands before those behind it
abbrev pub Ascending : List Entry → Type 0
Ascending [] = ⊤
Ascending (x ∷ xs) = ((y : Entry) → In y xs → IsBelow x.key y.key) × Ascending xs

abbrev pub IsFilled : BplusTree → Type 0
IsFilled t = (x : Entry) × In x (entries t)

-- the keys of each entry page ascend, each child has one, and the separators stand between those of
-- the children
abbrev mutual
  pub Ordered : BplusTree → Type 0
  Ordered (leaf p es) = Ascending es
  Ordered (node p kids) = AreOrdered kids

  pub AreOrdered : BplusKids → Type 0
  AreOrdered (last t) = Ordered t × IsFilled t
  AreOrdered (more t s kids) =
      Ordered t × IsFilled t × ((x : Entry) → In x (entries t) → IsBelow x.key s)
      × ((x : Entry) → In x (kids_entries kids) → IsUpTo s x.key) × AreOrdered kids

-- no page stands twice in the tree
abbrev mutual
  pub Apart : BplusTree → Type 0
  Apart (leaf p es) = ⊤
  Apart (node p kids) = (In p (kids_pages kids) → ⊥) × AreApart kids

  pub AreApart : BplusKids → Type 0
  AreApart (last t) = Apart t
  AreApart (more t s kids) =
      Apart t × ((q : ℕ) → In q (pages t) → In q (kids_pages kids) → ⊥) × AreApart kids

-- the pages hold this tree, with its top at the root, in order and each page once
pub record IsWhole (at : ℕ → List ℕ) (root : ℕ) (t : BplusTree) : Type 0 where
  pub root_is : page_of t ≡ root
  pub stands : Stands at t
  pub ordered : Ordered t
  pub apart : Apart t

-- the pages that belong to the tree are exactly its own
abbrev pub Owns : (ℕ → Type 0) → BplusTree → Type 0
Owns owned t = (q : ℕ) → (owned q → In q (pages t)) × (In q (pages t) → owned q)

-- the child on the way to a key
abbrev pub child_for : ℕ → List Branch → List ℕ → ℕ
child_for first [] key = first
child_for first (b ∷ bs) key = if is_below key b.separator then first else child_for b.child bs key

-- the nearest separator behind that child, and hi where there is none
abbrev pub bound_for : List Branch → List ℕ → Option (List ℕ) → Option (List ℕ)
bound_for [] key hi = hi
bound_for (b ∷ bs) key hi =
    if is_below key b.separator then Some b.separator else bound_for bs key hi

-- a branch put right behind that child
abbrev pub with_branch : List Branch → List ℕ → Branch → List Branch
with_branch [] key new = new ∷ []
with_branch (b ∷ bs) key new =
    if is_below key b.separator then new ∷ b ∷ bs else b ∷ with_branch bs key new

-- The branches without the child on the way to a key and the separator left of it, which is that of
-- b where none is between.
abbrev pub without_from : Branch → List Branch → List ℕ → List Branch
without_from b [] key = []
without_from b (c ∷ bs) key = if is_below key c.separator then c ∷ bs else b ∷ without_from c bs key

-- the same; for the first child it is the separator right of it
abbrev pub without_branch : List Branch → List ℕ → List Branch
without_branch [] key = []
without_branch (b ∷ bs) key = if is_below key b.separator then bs else without_from b bs key

-- the first child that is left then
abbrev pub first_without : ℕ → List Branch → List ℕ → ℕ
first_without first [] key = first
first_without first (b ∷ bs) key = if is_below key b.separator then b.child else first

-- the separators
abbrev mutual
  pub separators : BplusTree → List (List ℕ)
  separators (leaf p es) = []
  separators (node p kids) = kids_separators kids

  pub kids_separators : BplusKids → List (List ℕ)
  kids_separators (last t) = separators t
  kids_separators (more t s kids) = s ∷ (separators t ++ kids_separators kids)
