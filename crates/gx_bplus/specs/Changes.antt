-- What changes of a tree make of its entries.
use Rattle.std.specs.Prelude.{◌≡◌, ◌≢◌, ◌⊎◌, ◌++◌, ℕ, List}
use Rattle.gx_slots.specs.Entries.{Entry}
use Rattle.gx_bnode.specs.Branches.{Branch, AreAscending}
use Rattle.gx_bnode.specs.Page.{separators_in}
use Rattle.gx_btree.specs.Order.{IsBelow, IsUpTo}
use Rattle.gx_btree.specs.Tree.{In, BplusTree, entries, Ascending, IsWhole, Owns, with_branch, IsSome}

-- an entry is put among others, in the place of the one with its key
abbrev pub IsPutIn : Entry → List Entry → List Entry → Type 0
IsPutIn e old new = (x : Entry)
    → (In x new → (x ≡ e) ⊎ (In x old × (x.key ≢ e.key)))
    × ((x ≡ e) ⊎ (In x old × (x.key ≢ e.key)) → In x new)

-- the entry with a key is taken away, where there is one
abbrev pub IsTakenFrom : List ℕ → List Entry → List Entry → Type 0
IsTakenFrom key old new = (x : Entry)
    → (In x new → In x old × (x.key ≢ key)) × (In x old × (x.key ≢ key) → In x new)

-- The entries with one more stand on two pages, with a separator between.
pub record IsSpread (es : List Entry) (e : Entry) (left right : List Entry)
    (separator : List ℕ) : Type 0 where
  pub left_up : Ascending left
  pub right_up : Ascending right
  pub left_some : IsSome left
  pub right_some : IsSome right
  pub below : (x : Entry) → In x left → IsBelow x.key separator
  pub above : (x : Entry) → In x right → IsUpTo separator x.key
  pub put : IsPutIn e es (left ++ right)

-- separators still ascend where one more stands right behind the child on the way to a key
abbrev pub MayStand : List Branch → List ℕ → List ℕ → Type 0
MayStand branches key separator = (child : ℕ)
    → AreAscending
    (separators_in (with_branch branches key (record { separator = separator; child = child })))

-- a whole tree with an entry put in
pub record IsPut (new : ℕ → List ℕ) (now : ℕ → Type 0) (root : ℕ) (e : Entry)
    (old : BplusTree) : Type 0 where
  pub tree : BplusTree
  pub whole : IsWhole new root tree
  pub owns : Owns now tree
  pub put : IsPutIn e (entries old) (entries tree)

-- a whole tree without a key
pub record IsRemoved (new : ℕ → List ℕ) (now : ℕ → Type 0) (root : ℕ) (key : List ℕ)
    (old : BplusTree) : Type 0 where
  pub tree : BplusTree
  pub whole : IsWhole new root tree
  pub owns : Owns now tree
  pub taken : IsTakenFrom key (entries old) (entries tree)
