-- What stays while a device is quiet, and what a commit may leave.
use Rattle.std.specs.Prelude.{◌≡◌, ◌⊎◌, ℕ, List, ◌++◌}
use Rattle.std.specs.List.{All}
use Rattle.gx_device.specs.Content.{Moment, Content}
use Rattle.gx_device.specs.Crash.{Image, EachImage}

-- ys begins with xs
abbrev pub IsPrefix : List ℕ → List ℕ → Type 0
IsPrefix xs ys = (rest : List ℕ) × (ys ≡ xs ++ rest)

-- The blocks stand for something, what was said lies between what had been said at a moment and
-- this, and the devices are those of that moment.
pub record IsQuiet (stands : List (List ℕ) → Type 0) (start : Moment) (last : List ℕ)
    (image : Image) : Type 0 where
  pub is : stands image.blocks
  pub begins : IsPrefix start.said image.said
  pub goes_on : IsPrefix image.said last
  pub shelf : image.shelf ≡ start.shelf

-- since an earlier content a crash leaves no blocks but those that stand for the same
pub record QuietSince (stands : List (List ℕ) → Type 0) (start now : Content) : Type 0 where
  pub since : List Moment
  pub past : now.past ≡ start.past ++ since
  pub each : All (EachImage (IsQuiet stands start.now now.now.said)) since
  pub last : EachImage (IsQuiet stands start.now now.now.said) now.now
  pub begun : IsPrefix start.now.said now.now.said

-- the blocks stand for the old or for the new, and this was said
pub record IsOldOrNew (old new : List (List ℕ) → Type 0) (start : Moment)
    (image : Image) : Type 0 where
  pub is : old image.blocks ⊎ new image.blocks
  pub said : image.said ≡ start.said
  pub shelf : image.shelf ≡ start.shelf
