-- What a crash may leave of a device while it is attached, opened or made.
use Rattle.std.specs.Prelude.{◌≡◌, ◌⊎◌, ℕ, false, List, [], ◌∷◌, ◌++◌, length, get_or, replicate, Some, None}
use Rattle.std.specs.List.{All}
use Rattle.std.specs.FinMap.{empty}
use Rattle.gx_device.specs.Content.{Moment, Content, NonePending, block_of, device_at}
use Rattle.gx_device.specs.Crash.{Image, IsImage, EachImage, Through, LeavesOnly}
use Rattle.gx_layout.specs.Layout.{is_open}
use Rattle.gx_layout.specs.Recovered.{IsUnwritten}
use Rattle.gx_layout.specs.Head.{HasMagic}
use Rattle.gx_ports.specs.declared.kinds.LeafSpec.{LeafSpec}
use Rattle.gx_ports.specs.LeafMaps.{LeafMap}
use Rattle.gx_store.specs.Device.{IsSize, ReadAlike, Reopens}
use Rattle.gx_store.specs.Store.{Attaches}
use Rattle.gx_store.specs.declared.unopened.Unopened.{Unopened}
use Rattle.gx_store.specs.declared.unopened.Unopened.TheVariants as unopened

-- nothing changed at any moment
abbrev pub Unattached : Content → Content → Type 0
Unattached old new = Through (λ m. m ≡ old.now) old new

-- The device of that name is attached at the second content. Nothing changed before.
pub record Attached (name : List ℕ) (old middle : Content) : Type 0 where
  pub between : List Moment
  pub past : middle.past ≡ old.past ++ between
  pub before : All (λ m. m ≡ old.now) between
  pub named : middle.now.shelf.name ≡ Some name
  pub rest : Attaches name old middle

-- a moment with the same blocks, of which as many are pending
pub record IsAsBefore (old now : Moment) : Type 0 where
  pub blocks : now.blocks ≡ old.blocks
  pub pending : now.pending ≡ old.pending

-- what stood at the content is the first moment of what followed, or nothing was pending then
abbrev pub IsFirstOf : Content → Content → Type 0
IsFirstOf start new =
    NonePending start ⊎ ((rest : List Moment) × (new.past ≡ start.past ++ start.now ∷ rest))

-- the same, or no block was touched since
abbrev pub IsReached : Content → Content → Type 0
IsReached start new = IsFirstOf start new ⊎ Through (IsAsBefore start.now) start new

-- the same is read from an image as from the blocks of a moment, and no more was said
pub record IsReplayed (m : Moment) (image : Image) : Type 0 where
  pub alike : ReadAlike m.blocks image.blocks
  pub said : image.said ≡ m.said
  pub shelf : image.shelf ≡ m.shelf

-- a crash at that moment could have left it, or the same is read from it
abbrev pub IsOpeningImage : Moment → Image → Type 0
IsOpeningImage m image = IsImage m image ⊎ IsReplayed m image

-- A device that was there was attached, and from then on a crash leaves what one right after that
-- could have left, or blocks from which the same is read.
pub record Opens (name : List ℕ) (old new : Content) : Type 0 where
  pub middle : Content
  pub attached : Attached name old middle
  pub was : device_at old.now name ≡ Some middle.now.blocks
  pub reached : IsReached middle new
  pub named : new.now.shelf.name ≡ Some name
  pub images : LeavesOnly (IsOpeningImage middle.now) middle new

-- What a refusal leaves of an attached device. `Size`: the machine wasn't called. `NoDatabase`: no
-- block was written, and each image is one right before. `OtherTexts`: recovery was carried
-- through. After the last two nothing is pending.
abbrev pub IsLeftBy : Content → Content → Unopened → Type 0
IsLeftBy old new unopened.Size = new ≡ old
IsLeftBy old new unopened.NoDatabase = IsUnwritten old new × NonePending new
IsLeftBy old new (unopened.OtherTexts place) =
    (is_open (block_of new.now 1) ≡ false) × NonePending new
    × EachImage (IsReplayed old.now) new.now
IsLeftBy old new why = Unit {0}

-- what a refusal to open a device by its name adds to that
abbrev pub RefusesBy : List ℕ → Content → Content → Unopened → Type 0
RefusesBy name old new unopened.Missing = Unattached old new
RefusesBy name old new unopened.Exists = ⊥
RefusesBy name old new unopened.Fault = Unit {0}
RefusesBy name old new unopened.NoMemory = Unit {0}
RefusesBy name old new why = (o : Opens name old new) × IsLeftBy o.middle new why

-- an image of so many blocks; where it has the magic, it is opened with these maps
pub record IsNewImage (schema equation : List ℕ) (specs : List LeafSpec) (maps : List LeafMap)
    (start : Moment) (image : Image) : Type 0 where
  pub count : length image.blocks ≡ length start.blocks
  pub is : HasMagic (length image.blocks) (get_or image.blocks 0 [])
      → Reopens schema equation specs maps image.blocks
  pub said : image.said ≡ start.said
  pub shelf : image.shelf ≡ start.shelf

-- an image of so many blocks without the magic, with nothing more said
pub record HasNoMagic (start : Moment) (image : Image) : Type 0 where
  pub count : length image.blocks ≡ length start.blocks
  pub none : ¬ HasMagic (length image.blocks) (get_or image.blocks 0 [])
  pub said : image.said ≡ start.said
  pub shelf : image.shelf ≡ start.shelf

-- A device of so many blocks was made, which is a size, and from then on a crash leaves of it what
-- this says of the moment at which it was attached.
pub record Begins (left : Moment → Image → Type 0) (name : List ℕ) (size : ℕ)
    (specs : List LeafSpec) (old new : Content) : Type 0 where
  pub middle : Content
  pub attached : Attached name old middle
  pub fits : IsSize specs size
  pub free : device_at old.now name ≡ None
  pub count : length middle.now.blocks ≡ size
  pub none_pending : NonePending middle
  pub named : new.now.shelf.name ≡ Some name
  pub images : LeavesOnly (left middle.now) middle new

-- a crash leaves no database
abbrev pub Prepares : List ℕ → ℕ → List LeafSpec → Content → Content → Type 0
Prepares name size specs = Begins HasNoMagic name size specs

-- a crash leaves no database, or one with these maps
abbrev pub Fills : List ℕ → ℕ → List ℕ → List ℕ → List LeafSpec → List LeafMap → Content
    → Content → Type 0
Fills name size schema equation specs maps =
    Begins (IsNewImage schema equation specs maps) name size specs

-- a crash leaves no database, or an empty one
abbrev pub Makes : List ℕ → ℕ → List ℕ → List ℕ → List LeafSpec → Content → Content → Type 0
Makes name size schema equation specs =
    Fills name size schema equation specs (replicate (length specs) empty)

-- what a refusal to make a device adds to that
abbrev pub UnmakesBy : Content → Content → Unopened → Type 0
UnmakesBy old new unopened.Size = Unattached old new
UnmakesBy old new unopened.Exists = Unattached old new
UnmakesBy old new why = Unit {0}
