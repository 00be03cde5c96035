-- `inspect`: what a device holds, examined whole.
use Rattle.std.specs.Prelude.{◌≡◌, ◌⊎◌, ℕ, List, Some}
use Rattle.gx_device.specs.Content.{Content, device_at}
use Rattle.gx_device.specs.Crash.{Image}
use Rattle.gx_ports.specs.LeafMaps.{LeafMap}
use Rattle.gx_audit.specs.Texts.{inspect_text}
use Rattle.gx_model.specs.States.{State}
use Rattle.gx_store.specs.Device.{ReadAlike, Reopens}
use Rattle.gx_store.specs.Store.{OfBlocks}
use Rattle.gx_play.specs.declared.ending.DeviceWhy.{DeviceWhy}
use Rattle.gx_play.specs.declared.status.Status.{Status}
use Rattle.gx_play.specs.declared.status.Status.TheVariants as status
use Rattle.gx_operations.specs.Given.{Given, under, HoldState, IsHeldOn, SettleState, IsStateless}
use Rattle.gx_operations.specs.Promises.{Promise, IsKept, SaysOne, no_break}
use Rattle.gx_operations.specs.Crashes.{CrashesOn, IsAsAttached}
use Rattle.gx_operations.specs.Wrong.{IsWrong, IsDamageLine, finds_wrong}

-- ---- it holds a state

-- the device is settled with it, and the text tells of both
pub record TellsOf (g : Given) (device : List ℕ) (s : State) (new : Content)
    (text : List ℕ) : Type 0 where
  pub settled : OfBlocks device new (SettleState g s)
  pub text_is : text ≡ inspect_text g.schema g.typing.specs g.typing.owners settled.2.maps s

-- a crash leaves what one could have left when the device was attached, or what holds the state
abbrev pub IsSoundImage : Given → State → Content → Image → Type 0
IsSoundImage g s middle image = IsAsAttached middle image ⊎ HoldState g s image.blocks

-- whatever the status is, it holds the state
abbrev pub inspects_sound : Given → List ℕ → State → Content → Promise
inspects_sound g device s old = record {
  Says = SaysOne status.Done (λ text new. TellsOf g device s new text);
  Breaks = no_break;
  Due = λ s. s ≡ status.Done;
  Leaves = λ new s'. IsHeldOn g device s new × (new.script ≡ old.script);
  Crashes = CrashesOn device (IsSoundImage g s) old;
}

-- ---- it holds none

-- what the blocks reopened to stays, and those that reopened to nothing read as before
pub record StayUnsound (g : Given) (old new : List (List ℕ)) : Type 0 where
  pub keeps : (maps : List LeafMap) → under g Reopens maps old → under g Reopens maps new
  pub reads : ((maps : List LeafMap) → ¬ under g Reopens maps old) → ReadAlike old new

-- the same of the device of that name
abbrev pub StaysUnsound : Given → List ℕ → Content → Content → Type 0
StaysUnsound g device old new = (blocks : List (List ℕ)) → device_at old.now device ≡ Some blocks
    → OfBlocks device new (StayUnsound g blocks)

abbrev pub IsUnsoundImage : Given → Content → Image → Type 0
IsUnsoundImage g middle image =
    IsAsAttached middle image ⊎ StayUnsound g middle.now.blocks image.blocks

abbrev pub inspects_unsound : Given → List ℕ → Content → Promise
inspects_unsound g device old = record {
  Says = SaysOne status.Device (λ line new. IsDamageLine device old line);
  Breaks = no_break;
  Due = λ s. s ≡ status.Device;
  Leaves = λ new s. StaysUnsound g device old new × (new.script ≡ old.script);
  Crashes = CrashesOn device (IsUnsoundImage g) old;
}

-- ---- the request

pub record InspectsOn (g : Given) (device : List ℕ) (old new : Content) (s : Status) : Type 0 where
  pub wrong : (why : DeviceWhy) → IsWrong g device old why
      → IsKept (finds_wrong g why device old) old new s
  pub sound : (state : State) → IsHeldOn g device state old
      → IsKept (inspects_sound g device state old) old new s
  pub unsound : IsStateless g device old → IsKept (inspects_unsound g device old) old new s
  -- where it is said to be sound it held a state
  pub found : s ≡ status.Done → (state : State) × IsHeldOn g device state old
