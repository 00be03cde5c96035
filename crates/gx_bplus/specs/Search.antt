-- Searches in the pages of a tree.
use Rattle.std.specs.Prelude.{◌≡◌, ◌≤◌, ℕ, List}
use Rattle.gx_slots.specs.Entries.{Entry}
use Rattle.gx_ports.specs.Files.{OthersStay}
use Rattle.gx_ports.specs.Sheets.{Sheets, Ground, bytes_at}
use Rattle.gx_btree.specs.Tree.{BplusTree, IsWhole, Owns}
use Rattle.gx_btree.specs.Hole.{IsAtHand}
use Rattle.gx_btree.specs.Bplus.{IsOwned, ArePast}
use Rattle.gx_bplus.specs.Changes.{IsPut, IsRemoved}

-- The search for a key has come to this page, in a tree that the pages hold.
pub record IsSearch (ground : Ground) (owner : ℕ) (sheets : Sheets) (root page : ℕ) (key : List ℕ)
    (old : BplusTree) (steps : ℕ) : Type 0 where
  pub hand : IsAtHand (bytes_at sheets) (IsOwned owner sheets) root page key old steps
  pub past : ArePast ground owner sheets

-- The pages of the owner are those of this tree, and its root has these bytes.
pub record IsHeld (ground : Ground) (owner : ℕ) (sheets : Sheets) (root : ℕ) (tree : BplusTree)
    (bytes : List ℕ) : Type 0 where
  pub whole : IsWhole (bytes_at sheets) root tree
  pub owns : Owns (IsOwned owner sheets) tree
  pub past : ArePast ground owner sheets
  pub least : 1 ≤ owner
  pub bytes_are : bytes_at sheets root ≡ bytes

-- the pages hold the tree without the key, and those of other owners stay
pub record HasRemoved (ground : Ground) (owner root : ℕ) (key : List ℕ) (old new : Sheets)
    (tree : BplusTree) : Type 0 where
  pub removed : IsRemoved (bytes_at new) (IsOwned owner new) root key tree
  pub past : ArePast ground owner new
  pub others : OthersStay ground owner old new

-- the pages hold the tree with the entry, and those of other owners stay
pub record HasPut (ground : Ground) (owner root : ℕ) (e : Entry) (old new : Sheets)
    (tree : BplusTree) : Type 0 where
  pub put : IsPut (bytes_at new) (IsOwned owner new) root e tree
  pub past : ArePast ground owner new
  pub others : OthersStay ground owner old new

-- The search has come to an inner page with these bytes, and the child on the way is an entry page
-- with those.
pub record IsReached (ground : Ground) (owner : ℕ) (sheets : Sheets) (root page child : ℕ)
    (key : List ℕ) (old : BplusTree) (steps : ℕ) (bytes below : List ℕ) : Type 0 where
  pub search : IsSearch ground owner sheets root page key old steps
  pub least : 1 ≤ owner
  pub bytes_are : bytes_at sheets page ≡ bytes
  pub below_are : bytes_at sheets child ≡ below

-- The search has come to a page with these bytes, after so many steps at least, and the pages of
-- other owners stay.
pub record HasCome (ground : Ground) (owner root : ℕ) (key : List ℕ) (old new : Sheets)
    (tree : BplusTree) (least page : ℕ) (bytes : List ℕ) : Type 0 where
  pub steps : ℕ
  pub many : least ≤ steps
  pub search : IsSearch ground owner new root page key tree steps
  pub bytes_are : bytes_at new page ≡ bytes
  pub others : OthersStay ground owner old new

-- the same of some tree of some owner
pub record HasReached (ground : Ground) (sheets : Sheets) (page child : ℕ)
    (key bytes below : List ℕ) : Type 0 where
  pub owner : ℕ
  pub root : ℕ
  pub tree : BplusTree
  pub steps : ℕ
  pub reached : IsReached ground owner sheets root page child key tree steps bytes below

-- The search for a key has come to a page with these bytes, in a tree that the pages hold.
pub record HasLanded (owner : ℕ) (sheets : Sheets) (root : ℕ) (key : List ℕ) (tree : BplusTree)
    (page : ℕ) (bytes : List ℕ) : Type 0 where
  pub steps : ℕ
  pub hand : IsAtHand (bytes_at sheets) (IsOwned owner sheets) root page key tree steps
  pub bytes_are : bytes_at sheets page ≡ bytes
