-- What the blocks of a device hold: a database under two texts.
use Rattle.std.specs.Prelude.{◌≡◌, ◌+◌, ◌*◌, ◌≤◌, ◌<◌, ℕ, false, List, [], length, replicate, take, drop, get_or, slice_index_or}
use Rattle.std.specs.FinMap.{empty}
use Rattle.gx_ports.specs.declared.kinds.LeafSpec.{LeafSpec}
use Rattle.gx_ports.specs.LeafMaps.{LeafMap}
use Rattle.gx_ports.specs.Heads.{Head}
use Rattle.gx_ports.specs.Roots.{root_pages}
use Rattle.gx_ports.specs.Sheets.{Sheets, Ground}
use Rattle.gx_layout.specs.Layout.{head_blocks, table_pages, pages_of, head_of, home, is_open}
use Rattle.gx_layout.specs.Recovered.{replayed_pages}
use Rattle.gx_layout.specs.Head.{HasMagic, text_at, text_area, text_blocks}
use Rattle.gx_layout.specs.declared.places.TheConstants.{TEXT_AREA_LEN, MAX_BLOCKS}
use Rattle.gx_pages.specs.Owners.{sheets_of}
use Rattle.gx_leaves.specs.Places.{places_of}
use Rattle.gx_leaves.specs.Wholeness.{AreLaid, maps_of}

-- of the smallest devices: the blocks before the pages, and two for each page of the table of owners
-- and for each root page
abbrev pub smallest_device : List LeafSpec → ℕ
smallest_device specs = head_blocks 0 + 2 * (table_pages 0 + root_pages specs)

-- there is room for such leaves, and no more than a device may have
pub record IsSize (specs : List LeafSpec) (blocks : ℕ) : Type 0 where
  pub least : smallest_device specs ≤ blocks
  pub most : blocks ≤ MAX_BLOCKS

-- how many pages and blocks there are, and of which database
abbrev pub ground_on : List (List ℕ) → Ground
ground_on blocks =
    record {
      size = pages_of (length blocks);
      tables = table_pages (length blocks);
      blocks = length blocks;
      first = head_blocks (length blocks) + pages_of (length blocks);
      head = head_of blocks;
    }

-- the bytes of the text blocks of a head are the lengths of these two texts, the texts, and
-- zeros
abbrev pub AreTexts : List ℕ → List ℕ → List (List ℕ) → Type 0
AreTexts schema equation head = (q : ℕ) → q < TEXT_AREA_LEN
    → text_at head q ≡ slice_index_or (text_area schema equation) q 0

abbrev pub HasTexts : List ℕ → List ℕ → List (List ℕ) → Type 0
HasTexts schema equation blocks = AreTexts schema equation (head_of blocks)

-- a head has the magic and these texts, and leaves of these kinds
pub record IsHeadOf (schema equation : List ℕ) (specs : List LeafSpec) (head : Head) : Type 0 where
  pub magic : HasMagic head.base.blocks (get_or head.base.head 0 [])
  pub texts : AreTexts schema equation head.base.head
  pub leaves : head.leaves ≡ specs

-- a head of a device that is laid out under these texts and has no database yet, with leaves of
-- these kinds
pub record IsHeadBefore (schema equation : List ℕ) (specs : List LeafSpec)
    (head : Head) : Type 0 where
  pub no_magic : ¬ HasMagic head.base.blocks (get_or head.base.head 0 [])
  pub texts : drop 1 head.base.head ≡ text_blocks schema equation
  pub leaves : head.leaves ≡ specs

-- the table of owners is whole, and so is each leaf of these kinds; these are their maps
pub record AreMaps (base : Ground) (specs : List LeafSpec) (maps : List LeafMap)
    (sheets : Sheets) : Type 0 where
  pub laid : AreLaid base (places_of base specs) sheets
  pub maps_are : maps_of base (places_of base specs) sheets ≡ maps

-- The blocks have the magic and these two texts, and these pages, which the blocks stand for, hold
-- these maps in leaves of these kinds.
pub record IsDatabase (schema equation : List ℕ) (specs : List LeafSpec) (maps : List LeafMap)
    (blocks pages : List (List ℕ)) : Type 0 where
  pub size : IsSize specs (length blocks)
  pub magic : HasMagic (length blocks) (get_or blocks 0 [])
  pub texts : HasTexts schema equation blocks
  pub leaves : AreMaps (ground_on blocks) specs maps (sheets_of pages)

-- the pages in their home blocks
abbrev pub home_pages : List (List ℕ) → List (List ℕ)
home_pages blocks =
    take (pages_of (length blocks)) (drop (home (length blocks) (pages_of (length blocks)) 0) blocks)

-- The device holds these maps, and its gate is closed.
pub record IsSettled (schema equation : List ℕ) (specs : List LeafSpec) (maps : List LeafMap)
    (blocks : List (List ℕ)) : Type 0 where
  pub gate : is_open (get_or blocks 1 []) ≡ false
  pub database : IsDatabase schema equation specs maps blocks (home_pages blocks)

-- It is opened with these maps: those of the pages in their homes where the gate is closed, and
-- where it is open those of the slots that the bitmap names.
abbrev pub Reopens : List ℕ → List ℕ → List LeafSpec → List LeafMap → List (List ℕ) → Type 0
Reopens schema equation specs maps blocks =
    IsDatabase schema equation specs maps blocks (replayed_pages blocks)

-- the same pages and the same head are read from these blocks: what opens one of them opens the
-- other
pub record ReadAlike (old new : List (List ℕ)) : Type 0 where
  pub count : length new ≡ length old
  pub head : head_of new ≡ head_of old
  pub pages : replayed_pages new ≡ replayed_pages old

-- Where the blocks have the magic, they are opened with an empty database.
abbrev pub IsNoneOrEmpty : List ℕ → List ℕ → List LeafSpec → List (List ℕ) → Type 0
IsNoneOrEmpty schema equation specs blocks = HasMagic (length blocks) (get_or blocks 0 [])
    → Reopens schema equation specs (replicate (length specs) empty) blocks

-- An empty database was made on a device of so many blocks.
pub record IsMadeOn (size : ℕ) (schema equation : List ℕ) (specs : List LeafSpec)
    (blocks : List (List ℕ)) : Type 0 where
  pub count : length blocks ≡ size
  pub settled : IsSettled schema equation specs (replicate (length specs) empty) blocks
  pub reopens : Reopens schema equation specs (replicate (length specs) empty) blocks
