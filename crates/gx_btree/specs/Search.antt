-- Searches in the pages of a tree.
use Rattle.std.specs.Prelude.{◌≡◌, ℕ, List, Option, Some}
use Rattle.gx_slots.specs.Entries.{Entry}
use Rattle.gx_btree.specs.Order.{IsUpTo, IsUnder}
use Rattle.gx_btree.specs.Tree.{In, BplusTree, entries, separators}

-- These are the entries of a tree from the page on the way to a key, and the nearest separator
-- behind it.
pub record IsFound (tree : BplusTree) (key : List ℕ) (bound : Option (List ℕ))
    (es : List Entry) : Type 0
  where
    pub among : (x : Entry) → In x es → In x (entries tree)
    pub under : (x : Entry) → In x es → IsUnder x.key bound
    pub all : (x : Entry) → In x (entries tree) → IsUpTo key x.key → IsUnder x.key bound → In x es
    pub to : IsUnder key bound
    pub separator : (s : List ℕ) → bound ≡ Some s → In s (separators tree)
