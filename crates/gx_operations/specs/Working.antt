-- The steps by which the workload is played on a device.
use Rattle.std.specs.Prelude.{◌≡◌, ◌⊎◌, ℕ, List, length, Some, None, Result, Ok, Err, OnOk}
use Rattle.gx_device.specs.Content.{Content, Moment, NonePending, device_at}
use Rattle.gx_device.specs.Crash.{Image, EachImage, LeavesOnly}
use Rattle.gx_ports.specs.LeafMaps.{LeafMap}
use Rattle.gx_model.specs.States.{State, empty_state}
use Rattle.gx_work.specs.Schema.{work_schema}
use Rattle.gx_working.specs.Worked.{IsWorkedOut, IsWorkedFirst, IsWorkedFull}
use Rattle.gx_states.specs.Internal.{AreInternal}
use Rattle.gx_store.specs.Crashes.{Attached}
use Rattle.gx_store.specs.Device.{IsSize, IsNoneOrEmpty, Reopens}
use Rattle.gx_store.specs.Store.{OfBlocks}
use Rattle.gx_play.specs.declared.ending.Ending.{Ending}
use Rattle.gx_play.specs.declared.ending.Ending.TheVariants as ending
use Rattle.gx_requests.specs.declared.opened.Stored.{Stored}
use Rattle.gx_operations.specs.Settled.{IsSettledIn, limits_on}
use Rattle.gx_operations.specs.Making.{IsUnmakable}

-- the blocks are settled with the internal form of the state under these texts
abbrev pub IsSettledOf : Stored → List (List ℕ) → State → Type 0
IsSettledOf x after s =
    IsSettledIn x.schema x.built x.schema_text x.equation_text x.built.specs after s

-- the blocks are opened with the internal form of the state under these texts
abbrev pub IsHeldOf : Stored → List (List ℕ) → State → Type 0
IsHeldOf x blocks s = (maps : List LeafMap)
    × Reopens x.schema_text x.equation_text x.built.specs maps blocks
    × AreInternal x.schema x.built maps s

-- What is left after want of memory: no database or an empty one, or first lines of the workload
-- were played, and the blocks are settled with the last state that these kept.
abbrev pub HoldsFirst : Stored → ℕ → List (List ℕ) → Type 0
HoldsFirst x records after =
    IsNoneOrEmpty x.schema_text x.equation_text x.built.specs after
    ⊎ IsWorkedFirst (empty_state work_schema) (IsSettledOf x after) records

-- what was played on an empty database of so many blocks, which are these afterwards
abbrev pub IsPlayedOn : Stored → ℕ → ℕ → List (List ℕ) → Result (List ℕ) Ending → Type 0
IsPlayedOn x count records after (Ok line) =
    IsWorkedOut (empty_state work_schema) (IsSettledOf x after) records line
IsPlayedOn x count records after (Err ending.Full) =
    IsWorkedFull x.built (Some (limits_on x.built.specs count)) (empty_state work_schema)
    (IsSettledOf x after) records
IsPlayedOn x count records after (Err ending.NoMemory) = HoldsFirst x records after
IsPlayedOn x count records after (Err ending.Fault) = Unit {0}
IsPlayedOn x count records after other = ⊥

-- there was no device of that name, one of so many blocks is there, and P holds of its blocks
pub record IsNewDevice (x : Stored) (device : List ℕ) (count : ℕ) (old new : Content)
    (P : List (List ℕ) → Type 0) : Type 0 where
  pub size : IsSize x.built.specs count
  pub free : device_at old.now device ≡ None
  pub left : OfBlocks device new P
  pub many : length left.0 ≡ count

-- What making the device and playing on it did. After want of memory a device that wasn't there and
-- is there holds first lines.
abbrev pub IsWorking : Stored → List ℕ → ℕ → ℕ → Content → Content → Result (List ℕ) Ending → Type 0
IsWorking x device count records old new (Ok line) =
    IsNewDevice x device count old new (λ after. IsPlayedOn x count records after (Ok line))
IsWorking x device count records old new (Err ending.Full) =
    IsNewDevice x device count old new (λ after. IsPlayedOn x count records after (Err ending.Full))
IsWorking x device count records old new (Err (ending.Device why)) =
    IsUnmakable x.built.specs device count old why
    × (device_at new.now device ≡ device_at old.now device)
IsWorking x device count records old new (Err ending.NoMemory) =
    device_at old.now device ≡ None → (blocks : List (List ℕ))
    → device_at new.now device ≡ Some blocks → HoldsFirst x records blocks
IsWorking x device count records old new (Err ending.Fault) = Unit {0}
IsWorking x device count records old new other = ⊥

-- ---- what a crash leaves

-- no database or an empty one, or the last state that first lines of the workload kept; and nothing
-- more was said
pub record IsWorkingImage (x : Stored) (records : ℕ) (start : Moment) (image : Image) : Type 0 where
  pub is : IsNoneOrEmpty x.schema_text x.equation_text x.built.specs image.blocks
      ⊎ IsWorkedFirst (empty_state work_schema) (IsHeldOf x image.blocks) records
  pub said : image.said ≡ start.said
  pub shelf : image.shelf ≡ start.shelf

-- A device of so many blocks was made, which is a size, and from then on a crash leaves such images.
pub record WorksThrough (x : Stored) (device : List ℕ) (count records : ℕ)
    (old new : Content) : Type 0 where
  pub middle : Content
  pub attached : Attached device old middle
  pub fits : IsSize x.built.specs count
  pub free : device_at old.now device ≡ None
  pub none_pending : NonePending middle
  pub named : new.now.shelf.name ≡ Some device
  pub images : LeavesOnly (IsWorkingImage x records middle.now) middle new

-- each image is opened with the same maps
abbrev pub EachReopens : Stored → Content → Type 0
EachReopens x c = (maps : List LeafMap)
    × EachImage (λ image. Reopens x.schema_text x.equation_text x.built.specs maps image.blocks) c.now

-- What the play on a device with an empty database leaves. Where it was played out, each image is
-- opened alike.
pub record LeavesWorking (x : Stored) (records : ℕ) (old new : Content)
    (r : Result (List ℕ) Ending) : Type 0 where
  pub images : LeavesOnly (IsWorkingImage x records old.now) old new
  pub each : OnOk r (EachReopens x new)
