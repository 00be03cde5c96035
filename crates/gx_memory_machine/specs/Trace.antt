-- What a trace of calls tells, as contracts see it.
use Rattle.std.specs.Prelude.{◌≡◌, ◌+◌, ◌≤◌, ◌<◌, ◌^◌, ℕ, List, [], ◌∷◌, ◌++◌, length, Bool, Option, Some, None, is_some, is_none, IsSome, Result, OnOk, IsErrOf}
use Rattle.std.specs.FinMap.{remove, get}
use Rattle.std.specs.Global.{Vec}
use Rattle.gx_memory_machine.specs.declared.trace.Step.{Step}
use Rattle.gx_memory_machine.specs.declared.trace.Step.TheVariants.{Open, Make}
use Rattle.gx_device.specs.declared.device.AttachStop.{AttachStop}
use Rattle.gx_device.specs.declared.device.AttachStop.TheVariants as attach
use Rattle.gx_device.specs.Content.{Moment, Shelf, Devices, zero_blocks}
use Rattle.gx_memory_machine.specs.Log.{total, latest, blocks_in}

pub record Traced : Type 0 where
  pub now : Moment
  pub past : List Moment
  -- the room that is left: for calls, and for the bytes that they write
  pub calls : ℕ
  pub bytes : ℕ

-- the device of that name is attached, if one is named; what the others have of it is an old copy
abbrev pub shelf_of : Option (Vec ℕ) → Devices → Shelf
shelf_of None devices = record { name = None; devices = devices }
shelf_of (Some name) devices =
    record { name = Some name.items; devices = remove devices name.items }

-- no device has more blocks than a number can count
abbrev pub AreFew : Devices → Type 0
AreFew devices = (name : List ℕ) → length (blocks_in devices name) < 2 ^ 32

-- the log gives this moment, and there are flags for as many blocks as a number can count
pub record IsTrace (start : Moment) (steps : List Step) (written : List ℕ)
    (now : Moment) : Type 0 where
  pub is : now ≡ latest start steps written
  pub total : length written ≡ total steps
  pub flags : length now.pending ≡ length now.blocks
  pub few : length now.blocks < 2 ^ 32
  pub each_few : AreFew now.shelf.devices
  pub start_few : AreFew start.shelf.devices

-- one call more, with so many bytes, after which this stands
pub record Adds (used : ℕ) (next : Moment) (old new : Traced) : Type 0 where
  pub now : new.now ≡ next
  pub past : new.past ≡ old.past ++ old.now ∷ []
  pub calls : old.calls ≤ new.calls + 1
  pub bytes : old.bytes ≤ new.bytes + used

-- the blocks of a device that is opened, or made with so many
abbrev pub blocks_given : Devices → List ℕ → Option ℕ → List (List ℕ)
blocks_given devices name None = blocks_in devices name
blocks_given devices name (Some n) = zero_blocks n

-- whether there is a device of that name
abbrev pub is_there : Devices → List ℕ → Bool
is_there devices name = is_some (get devices name)

-- why a device isn't attached: it is to be opened and isn't there, or to be made and is
pub record HasAttachCause {T : Type 0} (devices : Devices) (name : List ℕ) (make : Option ℕ)
    (result : Result T AttachStop) : Type 0 where
  pub there : OnOk result (is_there devices name ≡ is_none make)
  pub missing : IsErrOf result attach.Missing → (make ≡ None) × (get devices name ≡ None)
  pub exists : IsErrOf result attach.Exists → IsSome make × IsSome (get devices name)
  pub no_fault : ¬ IsErrOf result attach.Fault

-- the call that attaches a device
abbrev pub attaching : ℕ → Option ℕ → Step
attaching name None = Open name
attaching name (Some n) = Make name n
