-- `make`: a device with an empty database.
use Rattle.std.specs.Prelude.{◌≡◌, ℕ, List, length, Some, None, ◌++◌}
use Rattle.gx_device.specs.Content.{Content, NonePending, device_at}
use Rattle.gx_device.specs.Crash.{Image}
use Rattle.gx_layout.specs.Layout.{pages_of}
use Rattle.gx_model.specs.States.{empty_state}
use Rattle.gx_store.specs.Device.{IsSize, IsMadeOn, IsNoneOrEmpty}
use Rattle.gx_store.specs.Store.{OfBlocks}
use Rattle.gx_play.specs.declared.ending.DeviceWhy.{DeviceWhy}
use Rattle.gx_play.specs.declared.status.Status.{Status}
use Rattle.gx_play.specs.declared.status.Status.TheVariants as status
use Rattle.gx_play.specs.Endings.{device_line, made_line}
use Rattle.gx_operations.specs.Making.{IsUnmakable}
use Rattle.gx_operations.specs.Given.{Given, under, IsSettledOn, HoldState}
use Rattle.gx_operations.specs.Promises.{Promise, IsKept, SaysOne, no_break, says_line}
use Rattle.gx_operations.specs.Crashes.{IsUnchanged, CrashesOn}

-- ---- it can't be had

-- No device is changed, but less may be pending.
abbrev pub makes_none : DeviceWhy → List ℕ → Content → Promise
makes_none why device old = record (says_line status.Device (device_line why) old) {
  Leaves = λ new s. IsUnchanged old.now new.now × (new.script ≡ old.script);
}

-- ---- it is made

-- the empty database is on it, and nothing is pending
pub record IsNew (g : Given) (device : List ℕ) (blocks : ℕ) (new : Content) : Type 0 where
  pub made : OfBlocks device new (under g (IsMadeOn blocks))
  pub empty : IsSettledOn g device (empty_state g.schema) new
  pub rests : NonePending new

-- one of so many blocks that has no magic, or is the empty database
abbrev pub IsNoneOrNew : Given → ℕ → List (List ℕ) → Type 0
IsNoneOrNew g count blocks = (length blocks ≡ count) × under g IsNoneOrEmpty blocks

-- where there is one then, it is such a one
abbrev pub LeavesNew : Given → List ℕ → ℕ → Content → Content → Type 0
LeavesNew g device count old new =
    ((blocks : List (List ℕ)) → device_at new.now device ≡ Some blocks → IsNoneOrNew g count blocks)
    × (new.script ≡ old.script)

-- a crash leaves such a one, and once the line was said whole the empty database
pub record IsMakeImage (g : Given) (count : ℕ) (old middle : Content) (image : Image) : Type 0 where
  pub is : IsNoneOrNew g count image.blocks
  pub done : image.said ≡ old.now.said ++ made_line count (pages_of count)
      → HoldState g (empty_state g.schema) image.blocks

abbrev pub makes_one : Given → List ℕ → ℕ → Content → Promise
makes_one g device blocks old = record {
  Says = SaysOne status.Done
      (λ last new. (last ≡ made_line blocks (pages_of blocks)) × IsNew g device blocks new);
  Breaks = no_break;
  Due = λ s. s ≡ status.Done;
  Leaves = λ new s. LeavesNew g device blocks old new;
  Crashes = CrashesOn device (IsMakeImage g blocks old) old;
}

-- ---- the request

pub record MakesOn (g : Given) (device : List ℕ) (blocks : ℕ) (old new : Content)
    (s : Status) : Type 0 where
  pub unmakable : (why : DeviceWhy) → IsUnmakable g.typing.specs device blocks old why
      → IsKept (makes_none why device old) old new s
  pub makable : IsSize g.typing.specs blocks → device_at old.now device ≡ None
      → IsKept (makes_one g device blocks old) old new s
