-- What `top` promises of its words.
use Rattle.std.specs.Prelude.{◌≡◌, ◌≢◌, ℕ, List, Option, Some, None}
use Rattle.gx_device.specs.Content.{Content, Texts}
use Rattle.gx_play.specs.declared.ending.Ending.{Ending}
use Rattle.gx_play.specs.declared.status.Status.{Status}
use Rattle.gx_play.specs.declared.status.Status.TheVariants as status
use Rattle.gx_requests.specs.Words.{Action, checking, trying, explaining, making, running, sharing, inspecting, working, request_words, IsCount, IsRecordCount}
use Rattle.gx_requests.specs.Requests.{IsRefused, IsAccepted}
use Rattle.gx_operations.specs.Given.{Given, KeepsBut}
use Rattle.gx_operations.specs.Promises.{IsKept}
use Rattle.gx_operations.specs.Refuses.{refuses}
use Rattle.gx_operations.specs.Checks.{checks}
use Rattle.gx_operations.specs.Tries.{tries}
use Rattle.gx_operations.specs.Explains.{explains}
use Rattle.gx_operations.specs.Makes.{MakesOn}
use Rattle.gx_operations.specs.Runs.{RunsOn, script_play, turns_play}
use Rattle.gx_operations.specs.Inspects.{InspectsOn}
use Rattle.gx_operations.specs.Works.{WorksOn}
use Rattle.gx_play.specs.ScriptEnds.{IsScriptEnd}
use Rattle.gx_shares.specs.Ends.{IsShareEnd}

-- the words ask for this, and the texts that they name are accepted and mean these
abbrev pub IsGiven : List (List ℕ) → Texts → Action → Given → Type 0
IsGiven words texts a g = IsAccepted words texts a g.schema g.definitions g.typing

-- the device that is asked for
abbrev pub device_of : Action → Option (List ℕ)
device_of (making device digits) = Some device
device_of (running device) = Some device
device_of (sharing device) = Some device
device_of (inspecting device) = Some device
device_of (working device digits number) = Some device
device_of other = None

-- a request is carried out
abbrev pub CarriesOut : Action → Given → Content → Content → Status → Type 0
CarriesOut checking g old new s = IsKept (checks g old) old new s
CarriesOut trying g old new s = IsKept (tries g old) old new s
CarriesOut explaining g old new s = IsKept (explains g old) old new s
CarriesOut (making device digits) g old new s = (blocks : ℕ) → IsCount digits blocks
    → MakesOn g device blocks old new s
CarriesOut (running device) g old new s =
    RunsOn g device (script_play g old.script) (IsScriptEnd g.schema old.script) old new s
CarriesOut (sharing device) g old new s =
    RunsOn g device (turns_play g old.script) (IsShareEnd g.schema old.script) old new s
CarriesOut (inspecting device) g old new s = InspectsOn g device old new s
CarriesOut (working device digits number) g old new s = (blocks records : ℕ)
    → IsCount digits blocks → IsRecordCount number records → WorksOn g device blocks records old new s

-- the words name this device
abbrev pub NameDevice : List (List ℕ) → List ℕ → Type 0
NameDevice words device = (a : Action) × (schema : List ℕ) × (equation : List ℕ)
    × (words ≡ request_words a schema equation) × (device_of a ≡ Some device)

-- Refused for the first reason, where there is one; and carried out, where the texts are accepted.
-- With Refused there is a reason, and with every other status but Memory and Outside they are
-- accepted. Whatever the words are, the texts stay, and all devices but the one that they name.
pub record IsPromised (words : List (List ℕ)) (old new : Content) (s : Status) : Type 0 where
  pub refused : (why : Ending) → IsRefused words old.aside.texts why
      → IsKept (refuses why old) old new s
  pub accepted : (a : Action) (g : Given) → IsGiven words old.aside.texts a g
      → CarriesOut a g old new s
  pub reason : s ≡ status.Refused → (why : Ending) × IsRefused words old.aside.texts why
  pub given : s ≢ status.Refused → s ≢ status.Memory → s ≢ status.Outside
      → (a : Action) × (g : Given) × IsGiven words old.aside.texts a g
  pub keeps : KeepsBut (NameDevice words) old new
