-- `run` and `share`: the play of the script on a device, from the state that it holds. Any play
-- serves.
use Rattle.std.specs.Prelude.{◌≡◌, ◌⊎◌, ℕ, List, [], ◌++◌, take, Some}
use Rattle.gx_device.specs.Content.{Content}
use Rattle.gx_device.specs.Crash.{Image}
use Rattle.gx_ports.specs.LeafMaps.{Limits}
use Rattle.gx_commands.specs.declared.command.LineWhy.{LineWhy}
use Rattle.gx_model.specs.Play.{Playing, End, good, stopped, end_text}
use Rattle.gx_model.specs.States.{State}
use Rattle.gx_sharing.specs.Sharing.{Sharing}
use Rattle.gx_shares.specs.Player.{share_play}
use Rattle.gx_play.specs.declared.ending.DeviceWhy.{DeviceWhy}
use Rattle.gx_play.specs.declared.status.Status.{Status}
use Rattle.gx_play.specs.declared.status.Status.TheVariants as status
use Rattle.gx_play.specs.Endings.{memory_line, full_line}
use Rattle.gx_play.specs.Player.{Play, IsDueOf, MayBeSaid, line_play}
use Rattle.gx_operations.specs.Given.{Given, HoldState, IsHeldOn, IsSettledOn, IsStateless, limit_of}
use Rattle.gx_operations.specs.Playing.{PlaySays, PlayBreaks}
use Rattle.gx_operations.specs.Promises.{Promise, IsKept, IsLine}
use Rattle.gx_operations.specs.Crashes.{CrashesOn, IsAsAttached}
use Rattle.gx_operations.specs.Wrong.{IsWrong, IsDamageLine, finds_wrong}

-- ---- the device holds a state

-- The play was said, and the device is settled with the state that is kept there. After want of
-- memory none may have been said, and it holds what it held.
abbrev pub RunSays : {M : Type 0} → Given → List ℕ → State → Play M → Status → List ℕ → List ℕ
    → Content → Type 0
RunSays g device start p s answers line new =
    PlaySays p (IsSettledOn g device) s answers line new
    ⊎ ((s ≡ status.Memory) × IsLine memory_line answers line × IsHeldOn g device start new)

-- A crash leaves what one could have left when the device was attached, and no answer was said; or
-- what was said is of the play, and the state that is kept there is held.
abbrev pub IsRunImage : {M : Type 0} → Given → Play M → Content → Content → Image → Type 0
IsRunImage {M = M} g p old middle image =
    (IsAsAttached middle image
    × ((count : ℕ) × (image.said ≡ old.now.said ++ take count memory_line)))
    ⊎ ((told : List ℕ) × (m : M) × MayBeSaid p told m × (image.said ≡ old.now.said ++ told)
    × HoldState g (p.kept m) image.blocks)

-- What is kept behind what was said is held, also after a failed call.
abbrev pub runs_from : {M : Type 0} → Given → List ℕ → State → Play M → Content → Promise
runs_from g device start p old = record {
  Says = RunSays g device start p;
  Breaks = PlayBreaks p (IsHeldOn g device);
  Due = IsDueOf p;
  Leaves = λ new s. s ≡ status.Done → new.script ≡ [];
  Crashes = CrashesOn device (IsRunImage g p old) old;
}

-- ---- it holds none

-- Behind what was said of the script comes the line of the damage, or of another end. With Done and
-- Script the script ends so, whatever state it is played from.
abbrev pub UnheldSays : List ℕ → Content → (End → Type 0) → Status → List ℕ → List ℕ → Content
    → Type 0
UnheldSays device old Ends status.Device answers line new = IsDamageLine device old line
UnheldSays device old Ends status.Script answers line new =
    (number : ℕ) × (why : LineWhy) × Ends (stopped number why)
    × (line ≡ end_text (stopped number why))
UnheldSays device old Ends status.Outside answers line new = ⊥
UnheldSays device old Ends status.Refused answers line new = ⊥
UnheldSays device old Ends status.Done answers line new = Ends good × (line ≡ [])
UnheldSays device old Ends status.Memory answers line new = line ≡ memory_line
UnheldSays device old Ends status.Full answers line new = line ≡ full_line

abbrev pub runs_unheld : List ℕ → (End → Type 0) → Content → Promise
runs_unheld device Ends old = record {
  Says = UnheldSays device old Ends;
  Breaks = λ told new. Unit {0};
  Due = λ s. ⊥;
  Leaves = λ new s. s ≡ status.Done → new.script ≡ [];
  Crashes = λ new. Unit {0};
}

-- ---- the request, with its play from each state

pub record RunsOn {M : Type 0} (g : Given) (device : List ℕ) (plays : Limits → State → Play M)
    (Ends : End → Type 0) (old new : Content) (s : Status) : Type 0 where
  pub wrong : (why : DeviceWhy) → IsWrong g device old why
      → IsKept (finds_wrong g why device old) old new s
  pub held : (start : State) (is : IsHeldOn g device start old)
      → IsKept (runs_from g device start (plays (limit_of g is.0) start) old) old new s
  pub unheld : IsStateless g device old → IsKept (runs_unheld device Ends old) old new s

-- the lines of the script, and its turns
abbrev pub script_play : Given → List ℕ → Limits → State → Play Playing
script_play g script limit start = line_play g.schema g.definitions (Some limit) start script

abbrev pub turns_play : Given → List ℕ → Limits → State → Play Sharing
turns_play g script limit start = share_play g.schema g.definitions (Some limit) start script
