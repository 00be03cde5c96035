-- What a request needs to be carried out to its end.
use Rattle.std.specs.Prelude.{◌≡◌, ◌⊎◌, ℕ, List, Bool, false, None}
use Rattle.gx_device.specs.Content.{Content, device_at}
use Rattle.gx_device.specs.Faults.{Rose}
use Rattle.gx_schema.specs.declared.schema.Schema.{Schema}
use Rattle.gx_commands.specs.Lines.{script_lines}
use Rattle.gx_model.specs.States.{State, empty_state}
use Rattle.gx_model.specs.Play.{good}
use Rattle.gx_work.specs.Workload.{work_script}
use Rattle.gx_store.specs.Device.{IsSize}
use Rattle.gx_play.specs.ScriptEnds.{AreGood}
use Rattle.gx_play.specs.Endings.{CountsOutside}
use Rattle.gx_play.specs.Player.{IsRoomy}
use Rattle.gx_play.specs.declared.status.Status.{Status}
use Rattle.gx_play.specs.declared.status.Status.TheVariants as status
use Rattle.gx_shares.specs.Ends.{IsShareEnd}
use Rattle.gx_requests.specs.Words.{Action, checking, trying, explaining, making, running, sharing, inspecting, working, IsCount, IsRecordCount}
use Rattle.gx_operations.specs.Given.{Given, IsHeldOn, limit_of}
use Rattle.gx_operations.specs.Settled.{limits_on}
use Rattle.gx_operations.specs.Runs.{turns_play}
use Rattle.gx_top.specs.Needs.{AreEnough}
use Rattle.gx_top.specs.Promised.{IsGiven, IsPromised}

-- No line of the script is bad, and none goes past a limit; a transaction is open behind them, or
-- isn't.
pub record HasGoodLines (schema : Schema) (script : List ℕ) (inside : Bool) : Type 0 where
  pub good : AreGood schema false (script_lines script).lines inside
  pub all : (script_lines script).stop ≡ None

-- a device of that name may be made with so many blocks
pub record IsMakable (g : Given) (device : List ℕ) (blocks : ℕ) (c : Content) : Type 0 where
  pub size : IsSize g.typing.specs blocks
  pub free : device_at c.now device ≡ None

-- the device holds a state, and the pages are enough for the script's play from there
pub record IsPlayable (g : Given) (device : List ℕ) (c : Content) : Type 0 where
  pub start : State
  pub held : IsHeldOn g device start c
  pub enough : AreEnough g.schema g.definitions (limit_of g held.0) start c.script

-- the same of the play of its turns, at none of which the pages may be too few
pub record IsShareable (g : Given) (device : List ℕ) (c : Content) : Type 0 where
  pub start : State
  pub held : IsHeldOn g device start c
  pub roomy : IsRoomy (turns_play g c.script (limit_of g held.0) start)

-- What there must be: for `try` and `run` a script of good lines with no transaction open behind
-- them, for `share` such turns, for `explain` good lines; for `run`, `share` and `inspect` a device
-- that holds a state, for `make` and `work` none of the name, and a size; for `run`, `share` and
-- `work` pages enough at each command.
abbrev pub IsReady : Action → Given → Content → Type 0
IsReady checking g c = Unit {0}
IsReady trying g c = HasGoodLines g.schema c.script false
IsReady explaining g c = (inside : Bool) × HasGoodLines g.schema c.script inside
IsReady (making device digits) g c =
    (blocks : ℕ) × IsCount digits blocks × IsMakable g device blocks c
IsReady (running device) g c = HasGoodLines g.schema c.script false × IsPlayable g device c
IsReady (sharing device) g c = IsShareEnd g.schema c.script good × IsShareable g device c
IsReady (inspecting device) g c = (s : State) × IsHeldOn g device s c
IsReady (working device digits number) g c =
    (blocks records : ℕ) × IsCount digits blocks × IsRecordCount number records
    × IsMakable g device blocks c
    × AreEnough g.schema g.definitions (limits_on g.typing.specs blocks) (empty_state g.schema)
    (work_script records)

-- Such a request was made, the words' texts are accepted, and no call of the machine failed.
pub record IsUnhindered (words : List (List ℕ)) (old new : Content) (before now : ℕ)
    (s : Status) : Type 0 where
  pub action : Action
  pub given : Given
  pub is : IsGiven words old.aside.texts action given
  pub ready : IsReady action given old
  pub promised : IsPromised words old new s
  pub counted : CountsOutside before now s
  pub no_fault : ¬ Rose before now

-- it was carried out, or there was no memory
abbrev pub IsDoneOrMemory : Status → Type 0
IsDoneOrMemory s = (s ≡ status.Done) ⊎ (s ≡ status.Memory)
