-- What is yet to be visited of a tree that is checked.
use Rattle.std.specs.Prelude.{◌≡◌, ◌≢◌, ◌⊎◌, ◌↔◌, ◌++◌, ℕ, ◌<◌, Bool, true, List, [], ◌∷◌, map, slice_get, slice_set, Option, Some, IsTrue, ⊤}
use Rattle.gx_ports.specs.declared.page_view.PageView.{Ghosts}
use Rattle.gx_ports.specs.Sheets.{Sheets, Ground, IsPast, bytes_at}
use Rattle.gx_slots.specs.Entries.{Entry}
use Rattle.gx_slots.specs.Page.{entries_of}
use Rattle.gx_bnode.specs.Branches.{Branch}
use Rattle.gx_bnode.specs.Page.{first_of, branches_of}
use Rattle.gx_btree.specs.declared.checking.Part.{Part}
use Rattle.gx_btree.specs.declared.checking.Visits.{Visits}
use Rattle.gx_btree.specs.declared.reading.Shape.{Shape}
use Rattle.gx_btree.specs.declared.reading.Shape.TheVariants as shape
use Rattle.gx_btree.specs.Bplus.{IsOwned}
use Rattle.gx_btree.specs.Tree.{IsSome, In, BplusTree, page_of, entries, pages, Stands, Ordered, IsFilled}
use Rattle.gx_btree.specs.Hole.{AreUnique}
use Rattle.gx_btree.specs.Order.{IsUpTo, IsUnder}

-- the whole tree
abbrev pub root_part : ℕ → Part
root_part root = record { above = root; page = root; low = [] }

-- the children of an inner page
abbrev pub child_parts : ℕ → List ℕ → ℕ → List Branch → List Part
child_parts above low first branches =
    record { above = above; page = first; low = low }
    ∷ map (λ b. record { above = above; page = b.child; low = b.separator }) branches

-- the bound of what stands before some parts
abbrev pub low_of : List Part → Option (List ℕ) → Option (List ℕ)
low_of [] high = high
low_of (part ∷ parts) high = Some part.low

-- A tree stands at a part, with keys below a bound. None but the whole tree may be empty.
pub record IsAtPart (at : ℕ → List ℕ) (part : Part) (high : Option (List ℕ))
    (t : BplusTree) : Type 0
  where
    pub page_is : page_of t ≡ part.page
    pub stands : Stands at t
    pub ordered : Ordered t
    pub filled : part.above ≢ part.page → IsFilled t
    pub bounds : (x : Entry) → In x (entries t) → IsUpTo part.low x.key × IsUnder x.key high

-- trees stand at the parts, the keys of each before those of the next one
abbrev pub AreAtParts : (ℕ → List ℕ) → List Part → Option (List ℕ) → List BplusTree → Type 0
AreAtParts at [] high [] = ⊤
AreAtParts at [] high (t ∷ ts) = ⊥
AreAtParts at (part ∷ parts) high [] = ⊥
AreAtParts at (part ∷ parts) high (t ∷ ts) =
    IsAtPart at part (low_of parts high) t × AreAtParts at parts high ts

-- the pages of some trees
abbrev pub pages_of : List BplusTree → List ℕ
pages_of [] = []
pages_of (t ∷ ts) = pages t ++ pages_of ts

-- these pages, each once, are those of the owner that weren't seen yet
pub record AreLeft (ground : Ground) (owner : ℕ) (sheets : Sheets) (seen : List Bool)
    (ps : List ℕ) : Type 0 where
  pub unique : AreUnique ps
  pub unseen : (q : ℕ) → In q ps → slice_get seen q ≢ Some true
  pub owned : (q : ℕ) → In q ps → IsOwned owner sheets q
  pub past : (q : ℕ) → In q ps → IsPast ground q
  pub all : (q : ℕ) → IsOwned owner sheets q → (slice_get seen q ≡ Some true) ⊎ In q ps

-- trees stand at the parts, with all pages of the owner that weren't seen yet
pub record HasRest (ground : Ground) (owner : ℕ) (sheets : Sheets) (parts : List Part)
    (high : Option (List ℕ)) (seen : List Bool) : Type 0 where
  pub trees : List BplusTree
  pub stand : AreAtParts (bytes_at sheets) parts high trees
  pub left : AreLeft ground owner sheets seen (pages_of trees)

-- the page at the top of a part may stand there
abbrev pub IsInside : Shape → List ℕ → Part → Option (List ℕ) → Type 0
IsInside shape.Entries bytes part high =
    (part.above ≢ part.page → IsSome (entries_of bytes))
    × ((x : Entry) → In x (entries_of bytes) → IsUpTo part.low x.key × IsUnder x.key high)
IsInside shape.Inner bytes part high = ⊤

-- the parts and the bound behind the page of a part
abbrev pub parts_behind : Shape → List ℕ → Part → List Part → List Part
parts_behind shape.Entries bytes part parts = parts
parts_behind shape.Inner bytes part parts =
    parts ++ child_parts part.page part.low (first_of bytes) (branches_of bytes)

abbrev pub high_behind : Shape → Part → Option (List ℕ) → Option (List ℕ)
high_behind shape.Entries part high = Some part.low
high_behind shape.Inner part high = high

-- what visiting the page of a part leaves
pub record IsPassed (shape : Shape) (bytes : List ℕ) (part : Part) (old new : Visits) : Type 0 where
  pub parts : new.parts.items ≡ parts_behind shape bytes part old.parts.items
  pub high : new.high ≡ high_behind shape part old.high

-- The page of the part that came next is seen, and wasn't before. The rest is whole exactly where
-- it was.
pub record IsVisited (ground : Ground) (owner : ℕ) (sheets : Sheets) (part : Part)
    (old new : Visits) : Type 0 where
  pub rest : HasRest ground owner sheets (old.parts.items ++ part ∷ []) old.high old.seen.items ↔
      HasRest ground owner sheets new.parts.items new.high new.seen.items
  pub past : IsPast ground part.page
  pub unseen : slice_get old.seen.items part.page ≢ Some true
  pub seen : new.seen.items ≡ slice_set old.seen.items part.page true

-- the numbers of the parts stand on pages
abbrev pub AreBelow : Ground → List Part → Type 0
AreBelow ground parts = (part : Part) → In part parts → part.above < ground.size

-- the pages tell what the device holds, and trees stand at the parts with this one behind them
abbrev pub HasNext : {S : Type 0} → Ghosts S → S → ℕ → Part → Visits → Type 0
HasNext g p owner part visits =
    IsTrue g.tells
    × HasRest (g.ground p) owner (g.working p) (visits.parts.items ++ part ∷ []) visits.high
    visits.seen.items
