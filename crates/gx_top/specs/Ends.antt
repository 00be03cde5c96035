-- Which statuses a request may have: the table that a reader looks up first.
use Rattle.std.specs.Prelude.{◌≡◌, ℕ, List, Bool, true, false}
use Rattle.gx_device.specs.Content.{Content}
use Rattle.gx_model.specs.States.{State}
use Rattle.gx_ports.specs.LeafMaps.{Limits}
use Rattle.gx_play.specs.ScriptEnds.{IsScriptEnd}
use Rattle.gx_shares.specs.Ends.{IsShareEnd}
use Rattle.gx_play.specs.declared.ending.DeviceWhy.{DeviceWhy}
use Rattle.gx_operations.specs.Given.{Given}
use Rattle.gx_operations.specs.Promises.{Promise, IsKept}
use Rattle.gx_operations.specs.Checks.{checks}
use Rattle.gx_operations.specs.Tries.{tries}
use Rattle.gx_operations.specs.Explains.{explains}
use Rattle.gx_operations.specs.Makes.{makes_none, makes_one}
use Rattle.gx_operations.specs.Runs.{runs_from, runs_unheld, script_play, turns_play}
use Rattle.gx_operations.specs.Inspects.{inspects_sound, inspects_unsound}
use Rattle.gx_operations.specs.Works.{works_on}
use Rattle.gx_operations.specs.Wrong.{finds_wrong}
use Rattle.gx_play.specs.declared.status.Status.{Status}
use Rattle.gx_play.specs.declared.status.Status.TheVariants as status
use Rattle.gx_requests.specs.Words.{Action, checking, trying, explaining, making, running, sharing, inspecting, working}

-- a script is played or explained, its pages are limited, it names a device
abbrev pub has_script : Action → Bool
has_script trying = true
has_script explaining = true
has_script (running device) = true
has_script (sharing device) = true
has_script other = false

abbrev pub has_limit : Action → Bool
has_limit (running device) = true
has_limit (sharing device) = true
has_limit (working device blocks records) = true
has_limit other = false

abbrev pub has_device : Action → Bool
has_device checking = false
has_device trying = false
has_device explaining = false
has_device other = true

-- of an accepted request
abbrev pub may_end : Action → Status → Bool
may_end a status.Done = true
may_end a status.Memory = true
may_end a status.Outside = true
may_end a status.Script = has_script a
may_end a status.Full = has_limit a
may_end a status.Device = has_device a
may_end a status.Refused = false

-- a promise is kept with such a status alone
abbrev pub EndsBy : Action → Promise → Content → Content → Type 0
EndsBy a p old new = (s : Status) → IsKept p old new s → may_end a s ≡ true

-- so is each promise of each request
pub record AreEnds (g : Given) (device : List ℕ) (old new : Content) : Type 0 where
  pub checks : EndsBy checking (checks g old) old new
  pub tries : EndsBy trying (tries g old) old new
  pub explains : EndsBy explaining (explains g old) old new
  pub unmade : (digits : List ℕ) (why : DeviceWhy)
      → EndsBy (making device digits) (makes_none why device old) old new
  pub made : (digits : List ℕ) (blocks : ℕ)
      → EndsBy (making device digits) (makes_one g device blocks old) old new
  pub run_wrong : (why : DeviceWhy) → EndsBy (running device) (finds_wrong g why device old) old new
  pub ran : (start : State) (limit : Limits) (script : List ℕ)
      → EndsBy (running device) (runs_from g device start (script_play g script limit start) old) old
      new
  pub unheld : (script : List ℕ)
      → EndsBy (running device) (runs_unheld device (IsScriptEnd g.schema script) old) old new
  pub share_wrong : (why : DeviceWhy)
      → EndsBy (sharing device) (finds_wrong g why device old) old new
  pub shared : (start : State) (limit : Limits) (script : List ℕ)
      → EndsBy (sharing device) (runs_from g device start (turns_play g script limit start) old) old
      new
  pub share_unheld : (script : List ℕ)
      → EndsBy (sharing device) (runs_unheld device (IsShareEnd g.schema script) old) old new
  pub inspect_wrong : (why : DeviceWhy)
      → EndsBy (inspecting device) (finds_wrong g why device old) old new
  pub sound : (s : State) → EndsBy (inspecting device) (inspects_sound g device s old) old new
  pub unsound : EndsBy (inspecting device) (inspects_unsound g device old) old new
  pub unworkable : (digits number : List ℕ) (why : DeviceWhy)
      → EndsBy (working device digits number) (makes_none why device old) old new
  pub worked : (digits number : List ℕ) (blocks records : ℕ)
      → EndsBy (working device digits number) (works_on g device blocks records old) old new
