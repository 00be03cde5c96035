-- What the blocks of a device stand for.
use Rattle.std.specs.Prelude.{◌≡◌, ◌↔◌, ◌⊎◌, ◌<◌, ◌≤◌, zero, suc, ◌++◌, ◌+◌, ◌*◌, ◌-◌, ◌/◌, ◌%◌, ◌&&◌, ◌==◌, if◌then◌else◌, ℕ, Bool, true, false, List, [], ◌∷◌, length, get_or, Contains}
use Rattle.std.specs.Int.{bit_at}
use Rattle.gx_device.specs.Content.{Shelf, Moment, Content, Silent, block_of, is_pending}
use Rattle.gx_device.specs.Crash.{Image}
pub use Rattle.gx_layout.specs.Places.{bitmap_blocks, first_text, head_blocks, table_pages, pages_of, most_pages, slot, home, IsHead, IsBitmap}
use Rattle.gx_layout.specs.declared.bitmap.TheConstants.{BITS}

-- the gate is open
abbrev pub is_open : List ℕ → Bool
is_open gate = get_or gate 0 0 == 165

-- bit p, counted from the highest bit of the first byte
abbrev pub has_bit : List ℕ → ℕ → Bool
has_bit bitmap p = bit_at (get_or bitmap (p / 8) 0) (7 - p % 8) == 1

-- bit p of the bitmap, whose blocks are one list of bits
abbrev pub has_bit_on : List (List ℕ) → ℕ → Bool
has_bit_on blocks p = has_bit (get_or blocks (2 + p / BITS) []) (p % BITS)

-- bit p of the bitmap, where it stands on block i of it, which has these bytes
abbrev pub bit_in : ℕ → List ℕ → ℕ → Bool
bit_in i block p = (p / BITS == i) && has_bit block (p % BITS)

-- on block i of the bitmap exactly those bits are set whose pages are listed
abbrev pub NamesBlock : List ℕ → ℕ → List ℕ → Type 0
NamesBlock listed i block =
    (p : ℕ) → p < BITS → (has_bit block p ≡ true) ↔ Contains listed (BITS * i + p)

-- of the bits below n exactly those are set whose pages are listed
abbrev pub NamesListed : List ℕ → (ℕ → Bool) → ℕ → Type 0
NamesListed listed bit n = (p : ℕ) → p < n → (bit p ≡ true) ↔ Contains listed p

-- the bitmap names page p where it has changed
abbrev pub Names : List Bool → List (List ℕ) → ℕ → Type 0
Names changed blocks p = has_bit_on blocks p ≡ get_or changed p false

-- page p of P pages, as recovery would find it
abbrev pub replayed : ℕ → List (List ℕ) → ℕ → List ℕ
replayed P blocks p =
    if is_open (get_or blocks 1 []) && has_bit_on blocks p
    then get_or blocks (slot (length blocks) p) []
    else get_or blocks (home (length blocks) P p) []

-- the blocks replay to these pages
pub record Replays (blocks pages : List (List ℕ)) : Type 0 where
  pub count : length pages ≡ pages_of (length blocks)
  pub each : (p : ℕ) → p < length pages → replayed (length pages) blocks p ≡ get_or pages p []

-- what a reader of the device goes by: how many blocks it has, the pages, the magic and the texts,
-- what was said, and the other devices
pub record View : Type 0 where
  pub size : ℕ
  pub pages : List (List ℕ)
  pub head : List (List ℕ)
  pub said : List ℕ
  pub shelf : Shelf

-- the block of the magic and those of the texts, of a device whose texts begin at this block
abbrev pub head_in : ℕ → List (List ℕ) → List (List ℕ)
head_in first blocks =
    get_or blocks 0 [] ∷ get_or blocks first [] ∷ get_or blocks (first + 1) []
    ∷ get_or blocks (first + 2) [] ∷ get_or blocks (first + 3) [] ∷ []

abbrev pub head_of : List (List ℕ) → List (List ℕ)
head_of blocks = head_in (first_text (length blocks)) blocks

-- the same with these pages
abbrev pub with_pages : View → List (List ℕ) → View
with_pages v pages =
    record { size = v.size; pages = pages; head = v.head; said = v.said; shelf = v.shelf }

-- the same with this said
abbrev pub with_said : View → List ℕ → View
with_said v said =
    record { size = v.size; pages = v.pages; head = v.head; said = said; shelf = v.shelf }

-- there are so many blocks, they have this head, and they replay to these pages
pub record Shows (size : ℕ) (head pages blocks : List (List ℕ)) : Type 0 where
  pub count : length blocks ≡ size
  pub replays : Replays blocks pages
  pub head_is : head_of blocks ≡ head

-- an image replays to the view
pub record StandsFor (v : View) (image : Image) : Type 0 where
  pub size : length image.blocks ≡ v.size
  pub pages : Replays image.blocks v.pages
  pub head : head_of image.blocks ≡ v.head
  pub said : image.said ≡ v.said
  pub shelf : image.shelf ≡ v.shelf

-- the pages that have changed, in an area of blocks that begins at this one
pub record IsIn (base : ℕ) (changed : List Bool) (n : ℕ) : Type 0 where
  pub page : ℕ
  pub below : page < length changed
  pub is : n ≡ base + page
  pub changes : get_or changed page false ≡ true

-- each changed page below i stands in that area
abbrev pub HoldsBelow : ℕ → ℕ → List (List ℕ) → List Bool → Moment → Type 0
HoldsBelow i base pages changed m = (p : ℕ) → p < i → get_or changed p false ≡ true
    → block_of m (base + p) ≡ get_or pages p []

-- each changed page does
abbrev pub Holds : ℕ → List (List ℕ) → List Bool → Moment → Type 0
Holds base pages changed m = HoldsBelow (length pages) base pages changed m

-- block n has these bytes, and no crash spoils it
pub record IsFirm (m : Moment) (n : ℕ) (bytes : List ℕ) : Type 0 where
  pub kept : is_pending m n ≡ false
  pub reads : block_of m n ≡ bytes

-- there is a place for each page, no crash spoils the head, and this was said beside these devices
pub record Fits (m : Moment) (v : View) : Type 0 where
  pub size : length m.blocks ≡ v.size
  pub count : length v.pages ≡ pages_of v.size
  pub few : length v.pages ≤ most_pages v.size
  pub room : head_blocks v.size ≤ v.size
  pub head_kept : (n : ℕ) → IsHead v.size n → is_pending m n ≡ false
  pub head : head_in (first_text v.size) m.blocks ≡ v.head
  pub said : m.said ≡ v.said
  pub shelf : m.shelf ≡ v.shelf

-- the gate is closed, and each page is at home
pub record AtRest (m : Moment) (v : View) : Type 0 where
  pub fits : Fits m v
  pub gate_kept : is_pending m 1 ≡ false
  pub gate : is_open (block_of m 1) ≡ false
  pub homes : (p : ℕ) → p < length v.pages
      → IsFirm m (home v.size (length v.pages) p) (get_or v.pages p [])

-- the changed pages are in their slots, and the bitmap names them
pub record IsLogged (m : Moment) (v : View) (changed : List Bool) : Type 0 where
  pub bitmap_kept : (n : ℕ) → IsBitmap v.size n → is_pending m n ≡ false
  pub bits : (p : ℕ) → p < length v.pages → has_bit_on m.blocks p ≡ get_or changed p false
  pub slots : (p : ℕ) → p < length v.pages → get_or changed p false ≡ true
      → IsFirm m (slot v.size p) (get_or v.pages p [])

-- the pages that have not changed are the same
abbrev pub SameButChanged : List Bool → List (List ℕ) → List (List ℕ) → Type 0
SameButChanged changed kept pages = (p : ℕ) → p < length pages → get_or changed p false ≡ false
    → get_or kept p [] ≡ get_or pages p []

-- the changed pages are logged, and each kept one is at home: the gate decides
pub record IsReady (m : Moment) (kept new : View) (changed : List Bool) : Type 0 where
  pub fits : Fits m new
  pub fits_kept : Fits m kept
  pub homes : (p : ℕ) → p < length kept.pages
      → IsFirm m (home kept.size (length kept.pages) p) (get_or kept.pages p [])
  pub logged : IsLogged m new changed
  pub same : SameButChanged changed kept.pages new.pages

-- the gate is open, the changed pages are logged, and each other one is at home
pub record IsOpened (m : Moment) (v : View) (changed : List Bool) : Type 0 where
  pub fits : Fits m v
  pub gate_kept : is_pending m 1 ≡ false
  pub gate : is_open (block_of m 1) ≡ true
  pub logged : IsLogged m v changed
  pub homes : (p : ℕ) → p < length v.pages → get_or changed p false ≡ false
      → IsFirm m (home v.size (length v.pages) p) (get_or v.pages p [])

-- an image stands for either
abbrev pub Either : View → View → Image → Type 0
Either kept new image = StandsFor kept image ⊎ StandsFor new image

-- the blocks as they read stand for the view
abbrev pub ReadsAs : Moment → View → Type 0
ReadsAs m v = StandsFor v (record { blocks = m.blocks; said = m.said; shelf = m.shelf })

-- the bits of the first n pages
abbrev pub flags : (ℕ → Bool) → ℕ → List Bool
flags bit zero = []
flags bit (suc n) = flags bit n ++ bit n ∷ []

-- each page below i whose bit is set has been copied from its slot
abbrev pub CopiedBelow : ℕ → ℕ → ℕ → (ℕ → Bool) → Moment → Moment → Type 0
CopiedBelow i size P bit old m = (p : ℕ) → p < i → bit p ≡ true
    → block_of m (home size P p) ≡ block_of old (slot size p)

-- no block changed that isn't free, and nothing was said, heard or attached
pub record OnlyBlocks (free : ℕ → Type 0) (old new : Content) : Type 0 where
  pub count : length new.now.blocks ≡ length old.now.blocks
  pub blocks : (n : ℕ) → (free n → ⊥) → block_of new.now n ≡ block_of old.now n
  pub silent : Silent old new
