-- The table of statuses follows from what is promised.
use Rattle.std.proofs.Common.{◌≡◌, ℕ, List, refl, true, inl, inr}
use Rattle.gx_device.specs.Content.{Content}
use Rattle.gx_model.specs.Play.{Playing, End}
use Rattle.gx_model.specs.States.{State}
use Rattle.gx_play.specs.ScriptEnds.{IsScriptEnd}
use Rattle.gx_shares.specs.Ends.{IsShareEnd}
use Rattle.gx_sharing.specs.Sharing.{Sharing}
use Rattle.gx_play.specs.Player.{Play}
use Rattle.gx_play.specs.declared.ending.DeviceWhy.{DeviceWhy}
use Rattle.gx_play.specs.declared.status.Status.TheVariants as status
use Rattle.gx_requests.specs.Words.{checking, trying, explaining, making, running, sharing, inspecting, working}
use Rattle.gx_operations.specs.Given.{Given}
use Rattle.gx_operations.specs.Checks.{checks}
use Rattle.gx_operations.specs.Tries.{tries}
use Rattle.gx_operations.specs.Explains.{explains}
use Rattle.gx_operations.specs.Makes.{makes_none, makes_one}
use Rattle.gx_operations.specs.Runs.{RunSays, runs_from, runs_unheld, script_play, turns_play}
use Rattle.gx_operations.specs.Inspects.{inspects_sound, inspects_unsound}
use Rattle.gx_operations.specs.Works.{works_on}
use Rattle.gx_operations.specs.Wrong.{finds_wrong}
use Rattle.gx_top.specs.Ends.{EndsBy, AreEnds, may_end}

module _ (g : Given) (device : List ℕ) (old new : Content) where
  check_ends : EndsBy checking (checks g old) old new
  check_ends status.Done k = refl
  check_ends status.Script k = absurd k.said.says
  check_ends status.Refused k = absurd k.said.says
  check_ends status.Full k = absurd k.said.says
  check_ends status.Device k = absurd k.said.says
  check_ends status.Memory k = refl
  check_ends status.Outside k = refl

  try_ends : EndsBy trying (tries g old) old new
  try_ends status.Done k = refl
  try_ends status.Script k = refl
  try_ends status.Refused k = absurd k.said.says.1
  try_ends status.Full k = absurd k.said.says.1.0.short.short
  try_ends status.Device k = absurd k.said.says.1
  try_ends status.Memory k = refl
  try_ends status.Outside k = refl

  explain_ends : EndsBy explaining (explains g old) old new
  explain_ends status.Done k = refl
  explain_ends status.Script k = refl
  explain_ends status.Refused k = absurd k.said.says
  explain_ends status.Full k = absurd k.said.says
  explain_ends status.Device k = absurd k.said.says
  explain_ends status.Memory k = refl
  explain_ends status.Outside k = refl

  unmade_ends : (digits : List ℕ) (why : DeviceWhy)
      → EndsBy (making device digits) (makes_none why device old) old new
  unmade_ends digits why status.Done k = refl
  unmade_ends digits why status.Script k = absurd k.said.says
  unmade_ends digits why status.Refused k = absurd k.said.says
  unmade_ends digits why status.Full k = absurd k.said.says
  unmade_ends digits why status.Device k = refl
  unmade_ends digits why status.Memory k = refl
  unmade_ends digits why status.Outside k = refl

  made_ends : (digits : List ℕ) (blocks : ℕ)
      → EndsBy (making device digits) (makes_one g device blocks old) old new
  made_ends digits blocks status.Done k = refl
  made_ends digits blocks status.Script k = absurd k.said.says
  made_ends digits blocks status.Refused k = absurd k.said.says
  made_ends digits blocks status.Full k = absurd k.said.says
  made_ends digits blocks status.Device k = refl
  made_ends digits blocks status.Memory k = refl
  made_ends digits blocks status.Outside k = refl

  wrong_ends : (why : DeviceWhy)
      → EndsBy (running device) (finds_wrong g why device old) old new
  wrong_ends why status.Done k = refl
  wrong_ends why status.Script k = refl
  wrong_ends why status.Refused k = absurd k.said.says
  wrong_ends why status.Full k = refl
  wrong_ends why status.Device k = refl
  wrong_ends why status.Memory k = refl
  wrong_ends why status.Outside k = refl

  unrun : (start : State) (p : Play Playing) (answers line : List ℕ)
      → RunSays g device start p status.Refused answers line new → may_end (running device) status.Refused ≡ true
  unrun start p answers line (inl is) = absurd is.1
  unrun start p answers line (inr is) = absurd (differ is.0)
    where
      differ : status.Refused ≡ status.Memory → ⊥
      differ e = cc

  ran_ends : (start : State) (p : Play Playing)
      → EndsBy (running device) (runs_from g device start p old) old new
  ran_ends start p status.Done k = refl
  ran_ends start p status.Script k = refl
  ran_ends start p status.Refused k = unrun start p k.said.whole k.said.last k.said.says
  ran_ends start p status.Full k = refl
  ran_ends start p status.Device k = refl
  ran_ends start p status.Memory k = refl
  ran_ends start p status.Outside k = refl

  unheld_ends : (Ends : End → Type 0)
      → EndsBy (running device) (runs_unheld device Ends old) old new
  unheld_ends ends status.Done k = refl
  unheld_ends ends status.Script k = refl
  unheld_ends ends status.Refused k = absurd k.said.says
  unheld_ends ends status.Full k = refl
  unheld_ends ends status.Device k = refl
  unheld_ends ends status.Memory k = refl
  unheld_ends ends status.Outside k = refl

  wrong_shared : (why : DeviceWhy)
      → EndsBy (sharing device) (finds_wrong g why device old) old new
  wrong_shared why status.Done k = refl
  wrong_shared why status.Script k = refl
  wrong_shared why status.Refused k = absurd k.said.says
  wrong_shared why status.Full k = refl
  wrong_shared why status.Device k = refl
  wrong_shared why status.Memory k = refl
  wrong_shared why status.Outside k = refl

  unshared : (start : State) (p : Play Sharing) (answers line : List ℕ)
      → RunSays g device start p status.Refused answers line new
      → may_end (sharing device) status.Refused ≡ true
  unshared start p answers line (inl is) = absurd is.1
  unshared start p answers line (inr is) = absurd (differ is.0)
    where
      differ : status.Refused ≡ status.Memory → ⊥
      differ e = cc

  shared_ends : (start : State) (p : Play Sharing)
      → EndsBy (sharing device) (runs_from g device start p old) old new
  shared_ends start p status.Done k = refl
  shared_ends start p status.Script k = refl
  shared_ends start p status.Refused k = unshared start p k.said.whole k.said.last k.said.says
  shared_ends start p status.Full k = refl
  shared_ends start p status.Device k = refl
  shared_ends start p status.Memory k = refl
  shared_ends start p status.Outside k = refl

  unheld_shared : (Ends : End → Type 0)
      → EndsBy (sharing device) (runs_unheld device Ends old) old new
  unheld_shared ends status.Done k = refl
  unheld_shared ends status.Script k = refl
  unheld_shared ends status.Refused k = absurd k.said.says
  unheld_shared ends status.Full k = refl
  unheld_shared ends status.Device k = refl
  unheld_shared ends status.Memory k = refl
  unheld_shared ends status.Outside k = refl

  wrong_inspected : (why : DeviceWhy)
      → EndsBy (inspecting device) (finds_wrong g why device old) old new
  wrong_inspected why status.Done k = refl
  wrong_inspected why status.Script k = absurd k.said.says
  wrong_inspected why status.Refused k = absurd k.said.says
  wrong_inspected why status.Full k = absurd k.said.says
  wrong_inspected why status.Device k = refl
  wrong_inspected why status.Memory k = refl
  wrong_inspected why status.Outside k = refl

  sound_ends : (s : State)
      → EndsBy (inspecting device) (inspects_sound g device s old) old new
  sound_ends s status.Done k = refl
  sound_ends s status.Script k = absurd k.said.says
  sound_ends s status.Refused k = absurd k.said.says
  sound_ends s status.Full k = absurd k.said.says
  sound_ends s status.Device k = refl
  sound_ends s status.Memory k = refl
  sound_ends s status.Outside k = refl

  unsound_ends : EndsBy (inspecting device) (inspects_unsound g device old) old new
  unsound_ends status.Done k = refl
  unsound_ends status.Script k = absurd k.said.says
  unsound_ends status.Refused k = absurd k.said.says
  unsound_ends status.Full k = absurd k.said.says
  unsound_ends status.Device k = refl
  unsound_ends status.Memory k = refl
  unsound_ends status.Outside k = refl

  unworkable_ends : (digits number : List ℕ) (why : DeviceWhy)
      → EndsBy (working device digits number) (makes_none why device old) old new
  unworkable_ends digits number why status.Done k = refl
  unworkable_ends digits number why status.Script k = absurd k.said.says
  unworkable_ends digits number why status.Refused k = absurd k.said.says
  unworkable_ends digits number why status.Full k = refl
  unworkable_ends digits number why status.Device k = refl
  unworkable_ends digits number why status.Memory k = refl
  unworkable_ends digits number why status.Outside k = refl

  worked_ends : (digits number : List ℕ) (blocks records : ℕ)
      → EndsBy (working device digits number) (works_on g device blocks records old) old new
  worked_ends digits number blocks records status.Done k = refl
  worked_ends digits number blocks records status.Script k = absurd k.said.says
  worked_ends digits number blocks records status.Refused k = absurd k.said.says
  worked_ends digits number blocks records status.Full k = refl
  worked_ends digits number blocks records status.Device k = refl
  worked_ends digits number blocks records status.Memory k = refl
  worked_ends digits number blocks records status.Outside k = refl

  pub are_ends : AreEnds g device old new
  are_ends = record {
    checks = check_ends;
    tries = try_ends;
    explains = explain_ends;
    unmade = unmade_ends;
    made = made_ends;
    run_wrong = wrong_ends;
    ran = λ start limit script. ran_ends start (script_play g script limit start);
    unheld = λ script. unheld_ends (IsScriptEnd g.schema script);
    share_wrong = wrong_shared;
    shared = λ start limit script. shared_ends start (turns_play g script limit start);
    share_unheld = λ script. unheld_shared (IsShareEnd g.schema script);
    inspect_wrong = wrong_inspected;
    sound = sound_ends;
    unsound = unsound_ends;
    unworkable = unworkable_ends;
    worked = worked_ends;
  }
