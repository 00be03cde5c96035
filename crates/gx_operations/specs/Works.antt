-- `work`: the play of the workload on a device that is made, of which the summary alone is said.
use Rattle.std.specs.Prelude.{◌≡◌, ◌⊎◌, ℕ, List, [], None, Some, length, ◌++◌}
use Rattle.gx_device.specs.Content.{Content, device_at}
use Rattle.gx_device.specs.Crash.{Image}
use Rattle.gx_model.specs.Play.{Playing, good}
use Rattle.gx_model.specs.States.{State, empty_state}
use Rattle.gx_store.specs.Device.{IsSize, IsNoneOrEmpty}
use Rattle.gx_store.specs.Store.{OfBlocks}
use Rattle.gx_work.specs.Workload.{work_script}
use Rattle.gx_work.specs.Summary.{work_text}
use Rattle.gx_play.specs.declared.ending.DeviceWhy.{DeviceWhy}
use Rattle.gx_play.specs.declared.status.Status.{Status}
use Rattle.gx_play.specs.declared.status.Status.TheVariants as status
use Rattle.gx_play.specs.Endings.{full_line, memory_line}
use Rattle.gx_play.specs.Player.{Play, IsDueOf, line_play}
use Rattle.gx_operations.specs.Settled.{limits_on}
use Rattle.gx_operations.specs.Making.{IsUnmakable}
use Rattle.gx_operations.specs.Given.{Given, under, HoldState, SettleState}
use Rattle.gx_operations.specs.Promises.{Promise, IsKept, IsLine}
use Rattle.gx_operations.specs.Crashes.{CrashesOn}
use Rattle.gx_operations.specs.Makes.{makes_none}

-- the workload on a device of so many blocks
abbrev pub work_play : Given → ℕ → ℕ → Play Playing
work_play g blocks records =
    line_play g.schema g.definitions (Some (limits_on g.typing.specs blocks)) (empty_state g.schema)
    (work_script records)

-- the device has so many blocks and is settled with the state
abbrev pub IsWorkedOn : Given → List ℕ → ℕ → State → Content → Type 0
IsWorkedOn g device blocks s new = OfBlocks device new (λ b. SettleState g s b × (length b ≡ blocks))

-- no database or an empty one; or first lines of the workload were played and what they kept is held
abbrev pub HoldsFirst : Given → Play Playing → (State → List (List ℕ) → Type 0) → List (List ℕ)
    → Type 0
HoldsFirst g p Holds blocks =
    under g IsNoneOrEmpty blocks
    ⊎ ((answers : List ℕ) × (m : Playing) × p.First answers m × Holds (p.kept m) blocks)

abbrev pub WorkSays : Given → List ℕ → ℕ → ℕ → Status → List ℕ → List ℕ → Content → Type 0
WorkSays g device blocks records status.Done whole last new =
    (answers : List ℕ) × (m : Playing) × (work_play g blocks records).Ends good answers m
    × IsLine (work_text records m) whole last × IsWorkedOn g device blocks m.kept new
WorkSays g device blocks records status.Full whole last new =
    (answers : List ℕ) × (m : Playing) × (work_play g blocks records).Full answers m
    × IsLine full_line whole last × IsWorkedOn g device blocks m.kept new
WorkSays g device blocks records status.Memory whole last new =
    IsLine memory_line whole last × ((b : List (List ℕ)) → device_at new.now device ≡ Some b
    → HoldsFirst g (work_play g blocks records) (SettleState g) b)
WorkSays g device blocks records other whole last new = ⊥

-- once the summary was said whole, a crash leaves the last kept state
pub record IsWorkImage (g : Given) (blocks records : ℕ) (old middle : Content)
    (image : Image) : Type 0 where
  pub is : HoldsFirst g (work_play g blocks records) (HoldState g) image.blocks
  pub done : (answers : List ℕ) (m : Playing) → (work_play g blocks records).Ends good answers m
      → image.said ≡ old.now.said ++ work_text records m → HoldState g m.kept image.blocks

-- Where a call failed before the line, nothing was said.
abbrev pub works_on : Given → List ℕ → ℕ → ℕ → Content → Promise
works_on g device blocks records old = record {
  Says = WorkSays g device blocks records;
  Breaks = λ told new. told ≡ [];
  Due = IsDueOf (work_play g blocks records);
  Leaves = λ new s. (new.script ≡ old.script)
      × ((b : List (List ℕ)) → device_at new.now device ≡ Some b
      → HoldsFirst g (work_play g blocks records) (HoldState g) b);
  Crashes = CrashesOn device (IsWorkImage g blocks records old) old;
}

-- ---- the request

pub record WorksOn (g : Given) (device : List ℕ) (blocks records : ℕ) (old new : Content)
    (s : Status) : Type 0 where
  pub unmakable : (why : DeviceWhy) → IsUnmakable g.typing.specs device blocks old why
      → IsKept (makes_none why device old) old new s
  pub makable : IsSize g.typing.specs blocks → device_at old.now device ≡ None
      → IsKept (works_on g device blocks records old) old new s
