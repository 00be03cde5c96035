-- What a crash leaves of the devices while a request works on one of them.
use Rattle.std.specs.Prelude.{◌≡◌, ◌⊎◌, ℕ, List, [], ◌++◌, take, Some, false}
use Rattle.gx_device.specs.Content.{Content, Moment, is_pending, device_at}
use Rattle.gx_device.specs.Crash.{Image, IsImage, Through, LeavesOnly}
use Rattle.gx_store.specs.Crashes.{Attached, IsReached}
use Rattle.gx_store.specs.Device.{ReadAlike}
use Rattle.gx_play.specs.declared.ending.DeviceWhy.{DeviceWhy}
use Rattle.gx_play.specs.Endings.{device_line, memory_line}

-- no device is changed, and a crash may spoil of them no more than before; more may have been said
pub record IsUnchanged (old now : Moment) : Type 0 where
  pub blocks : now.blocks ≡ old.blocks
  pub kept : (n : ℕ) → is_pending old n ≡ false → is_pending now n ≡ false
  pub shelf : now.shelf ≡ old.shelf

-- the same, and nothing more was said
pub record IsStill (old now : Moment) : Type 0 where
  pub unchanged : IsUnchanged old now
  pub said : now.said ≡ old.said

-- nothing was said, heard or changed, but that less may be pending
pub record IsLater (old new : Content) : Type 0 where
  pub through : Through (IsStill old.now) old new
  pub script : new.script ≡ old.script
  pub aside : new.aside ≡ old.aside

-- no line, that of a device that is wrong, or that on memory
abbrev pub IsIdleLine : List ℕ → Type 0
IsIdleLine line =
    (line ≡ []) ⊎ (line ≡ memory_line) ⊎ ((why : DeviceWhy) × (line ≡ device_line why))

-- no device is changed, and no more was said than a front of such a line
pub record IsIdle (old now : Moment) : Type 0 where
  pub unchanged : IsUnchanged old now
  pub line : List ℕ
  pub idle : IsIdleLine line
  pub count : ℕ
  pub said : now.said ≡ old.said ++ take count line

-- The device of that name is attached at this content, and reads as before where it was there. All
-- was still until then, and this is where what followed began.
pub record IsAttachedAt (name : List ℕ) (old middle new : Content) : Type 0 where
  pub before : Content
  pub still : Through (IsStill old.now) old before
  pub attached : Attached name before middle
  pub reads : (blocks : List (List ℕ)) → device_at old.now name ≡ Some blocks
      → middle.now.blocks ≡ blocks
  pub reached : IsReached middle new

-- what a crash leaves of the attached device, and all others as they were
pub record IsLeftOf (P : Content → Image → Type 0) (middle : Content) (image : Image) : Type 0 where
  pub is : P middle image
  pub shelf : image.shelf ≡ middle.now.shelf

-- No device is changed at any moment, and nothing is said of a play. Or the device of that name is
-- attached, and from then on each crash leaves of it what P says of that content.
abbrev pub CrashesOn : List ℕ → (Content → Image → Type 0) → Content → Content → Type 0
CrashesOn name P old new =
    Through (IsIdle old.now) old new
    ⊎ ((middle : Content) × IsAttachedAt name old middle new
    × LeavesOnly (IsLeftOf P middle) middle new)

-- a crash when the device was attached could have left these blocks
abbrev pub IsAsAttached : Content → Image → Type 0
IsAsAttached middle image = IsImage middle.now (record image { said = middle.now.said })

-- the same, or they read as the device did then
abbrev pub ReadsAsAttached : Content → Image → Type 0
ReadsAsAttached middle image =
    IsAsAttached middle image ⊎ ReadAlike middle.now.blocks image.blocks
