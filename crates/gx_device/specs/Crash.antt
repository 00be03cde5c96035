-- What a crash may leave.
use Rattle.std.specs.Prelude.{◌≡◌, ◌<◌, ℕ, false, List, [], ◌++◌, length, get_or}
use Rattle.std.specs.List.{All}
use Rattle.gx_device.specs.Content.{Shelf, Moment, Content, block_of, is_pending}

-- what a crash leaves: blocks, the bytes that were said, and the devices that weren't attached
pub record Image : Type 0 where
  pub blocks : List (List ℕ)
  pub said : List ℕ
  pub shelf : Shelf

-- any bytes in a block that is pending, and every other block as it is
pub record IsImage (m : Moment) (image : Image) : Type 0 where
  pub said : image.said ≡ m.said
  pub shelf : image.shelf ≡ m.shelf
  pub count : length image.blocks ≡ length m.blocks
  pub same : (n : ℕ) → n < length m.blocks → is_pending m n ≡ false
      → get_or image.blocks n [] ≡ block_of m n

-- each image of this moment has P
abbrev pub EachImage : (Image → Type 0) → Moment → Type 0
EachImage P m = (image : Image) → IsImage m image → P image

-- each moment from old to new has Q
pub record Through (Q : Moment → Type 0) (old new : Content) : Type 0 where
  pub between : List Moment
  pub past : new.past ≡ old.past ++ between
  pub each : All Q between
  pub now : Q new.now

-- each image of a moment from old to new has P
abbrev pub LeavesOnly : (Image → Type 0) → Content → Content → Type 0
LeavesOnly P old new = Through (EachImage P) old new

-- the blocks that aren't free are as they were, and so are what was said and the shelf
pub record Outside (free : ℕ → Type 0) (old m : Moment) : Type 0 where
  pub count : length m.blocks ≡ length old.blocks
  pub said : m.said ≡ old.said
  pub shelf : m.shelf ≡ old.shelf
  pub blocks : (n : ℕ) → (free n → ⊥) → block_of m n ≡ block_of old n
  pub pending : (n : ℕ) → (free n → ⊥) → is_pending m n ≡ is_pending old n
