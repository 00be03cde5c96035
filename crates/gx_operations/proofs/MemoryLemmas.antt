-- A request that is given up for want of memory, or where a call failed, before anything was done.
use Rattle.std.proofs.Common.{◌≡◌, ℕ, List, [], Some, None, Option, refl, sym, subst, ap, ◌∙◌, inl, inr, true, false}
use Rattle.std.specs.Prelude.{Bool}
use Rattle.gx_device.specs.Content.{Content, device_at}
use Rattle.gx_commands.specs.Lines.{script_lines}
use Rattle.gx_model.specs.States.{State, empty_state}
use Rattle.gx_model.specs.Play.{End, start_at}
use Rattle.gx_ports.specs.LeafMaps.{Limits}
use Rattle.gx_store.specs.Store.{OfBlocks}
use Rattle.gx_play.specs.declared.ending.Ending.{Ending}
use Rattle.gx_play.specs.declared.ending.DeviceWhy.{DeviceWhy}
use Rattle.gx_play.specs.declared.ending.DeviceWhy.TheVariants as device_why
use Rattle.gx_play.specs.declared.status.Status.{Status}
use Rattle.gx_play.specs.declared.status.Status.TheVariants as status
use Rattle.gx_play.specs.Endings.{memory_line}
use Rattle.gx_play.specs.Player.{Play}
use Rattle.gx_play.specs.Say.{SameDevices}
use Rattle.gx_operations.specs.Crashes.{IsUnchanged}
use Rattle.gx_operations.specs.Given.{Given, HoldState, limit_of}
use Rattle.gx_operations.specs.GivenUp.{GaveUp, GivesUp}
use Rattle.gx_operations.specs.Promises.{Promise, IsKept}
use Rattle.gx_operations.specs.Refuses.{refuses}
use Rattle.gx_operations.specs.Checks.{checks}
use Rattle.gx_operations.specs.Tries.{tries}
use Rattle.gx_operations.specs.Explains.{explains}
use Rattle.gx_operations.specs.Makes.{MakesOn, makes_none, makes_one}
use Rattle.gx_operations.specs.Runs.{RunsOn, runs_from, runs_unheld}
use Rattle.gx_operations.specs.Inspects.{InspectsOn, inspects_sound, inspects_unsound}
use Rattle.gx_operations.specs.Works.{WorksOn, works_on}
use Rattle.gx_operations.specs.Wrong.{StaysWrong, IsWrong, finds_wrong}
use Rattle.gx_operations.proofs.EndedLemmas.{devices_same}
use Rattle.gx_operations.proofs.UnchangedLemmas.{unchanged_by, idle_unchanged}

-- ---- the statuses

abbrev is_done : Status → Bool
is_done status.Done = true
is_done other = false

abbrev only_false : Bool → Type 0
only_false false = Unit {0}
only_false true = ⊥

apart_memory : status.Memory ≡ status.Done → ⊥
apart_memory same = subst only_false (ap is_done same) tt

apart_outside : status.Outside ≡ status.Done → ⊥
apart_outside same = subst only_false (ap is_done same) tt

pub not_done : (old new : Content) (s : Status) → GaveUp old new s → s ≡ status.Done → ⊥
not_done old new s (inl m) is = apart_memory (sym m.0 ∙ is)
not_done old new s (inr o) is = apart_outside (sym o.0 ∙ is)

-- ---- any promise

pub given_by : (p : Promise) (old new : Content) (s : Status) → GaveUp old new s
    → p.Says status.Memory [] memory_line new → p.Leaves new s → p.Crashes new → IsKept p old new s
given_by p old new s (inl m) says leaves crashes =
    subst (λ k. p.Leaves new k → IsKept p old new k) (sym m.0) (λ l. record {
      said = record { whole = []; last = memory_line; says = says; said = m.1 };
      due = λ d is out. inr refl;
      leaves = l;
      crashes = crashes;
    }) leaves
given_by p old new s (inr o) says leaves crashes =
    subst (λ k. p.Leaves new k → IsKept p old new k) (sym o.0) (λ l. record {
      said = inl (record {
        meant = status.Memory;
        whole = [];
        last = memory_line;
        says = says;
        count = o.1;
        said = o.2;
      });
      due = λ d is out. absurd (out refl);
      leaves = l;
      crashes = crashes;
    }) leaves

-- ---- the devices

pub unchanged_devices : (old new : Content) → SameDevices old new → IsUnchanged old.now new.now
unchanged_devices old new x = unchanged_by old.now new.now x.blocks x.pending x.shelf

abbrev is_none_at : Option (List (List ℕ)) → Type 0
is_none_at None = Unit {0}
is_none_at (Some x) = ⊥

none_some : {b : List (List ℕ)} → None ≡ Some b → ⊥
none_some same = subst is_none_at same tt

-- ---- the requests

pub refusal_given_up : (old new : Content) (s : Status) → GivesUp old new s → (why : Ending)
    → IsKept (refuses why old) old new s
refusal_given_up old new s x why =
    given_by (refuses why old) old new s x.how (refl, refl) x.apart (idle_unchanged old new x.through)

module _ (g : Given) (old new : Content) (s : Status) (x : GivesUp old new s) where
  pub check_given_up : IsKept (checks g old) old new s
  check_given_up = given_by (checks g old) old new s x.how (refl, refl) x.apart
      (idle_unchanged old new x.through)

  pub try_given_up : IsKept (tries g old) old new s
  try_given_up = given_by (tries g old) old new s x.how (
    start_at (empty_state g.schema),
    (
      record {
        first = record {
          ran = [];
          later = (script_lines old.script).lines;
          parts = refl;
          final = start_at (empty_state g.schema);
          runs = (refl, refl);
        };
        is = refl;
      },
      refl,
    ),
    tt,
  )
      (x.apart.devices, λ is. absurd (not_done old new s x.how is)) tt

  pub explain_given_up : IsKept (explains g old) old new s
  explain_given_up = given_by (explains g old) old new s x.how (
    record {
      ran = [];
      later = (script_lines old.script).lines;
      parts = refl;
      inside = false;
      explained = (refl, refl);
    },
    refl,
  )
      (x.apart.devices, λ is. absurd (not_done old new s x.how is)) tt

  same : (device : List ℕ) → device_at new.now device ≡ device_at old.now device
  same device = devices_same old new x.apart.devices device

  absent : (device : List ℕ) → device_at old.now device ≡ None → (b : List (List ℕ))
      → device_at new.now device ≡ Some b → ⊥
  absent device free b there = none_some (sym free ∙ sym (same device) ∙ there)

  done : s ≡ status.Done → ⊥
  done is = not_done old new s x.how is

  still : (device : List ℕ) (P : List (List ℕ) → Type 0) → OfBlocks device old P
      → OfBlocks device new P
  still device P is = (is.0, same device ∙ is.1, is.2)

  unmade_given_up : (device : List ℕ) (why : DeviceWhy)
      → IsKept (makes_none why device old) old new s
  unmade_given_up device why = given_by (makes_none why device old) old new s x.how (refl, refl)
      (unchanged_devices old new x.apart.devices, x.apart.script) (idle_unchanged old new x.through)

  pub make_given_up : (device : List ℕ) (blocks : ℕ) → MakesOn g device blocks old new s
  make_given_up device blocks = record {
    unmakable = λ why is. unmade_given_up device why;
    makable = λ size free. given_by (makes_one g device blocks old) old new s x.how (refl, refl)
        ((λ b there. absurd (absent device free b there)), x.apart.script) (inl x.through);
  }

  stays_wrong : (device : List ℕ) (why : DeviceWhy) → IsWrong g device old why
      → StaysWrong why device old new
  stays_wrong device device_why.Missing is = unchanged_devices old new x.apart.devices
  stays_wrong device device_why.Exists is = absurd is
  stays_wrong device device_why.Size is = same device
  stays_wrong device device_why.NoDatabase is = same device
  stays_wrong device (device_why.OtherEquation place) is = λ blocks there. (
    blocks,
    same device ∙ there,
    (
      record { count = refl; others = λ n no. refl },
      record { count = refl; head = refl; pages = refl },
    ),
  )
  stays_wrong device (device_why.Damaged block) is = absurd is

  wrong_given_up : (device : List ℕ) (why : DeviceWhy) → IsWrong g device old why
      → IsKept (finds_wrong g why device old) old new s
  wrong_given_up device why is = given_by (finds_wrong g why device old) old new s x.how
      ((refl, refl), stays_wrong device why is)
      ((λ none. same device ∙ none), x.apart.script) (inl x.through)

  pub run_given_up : {M : Type 0} (device : List ℕ) (plays : Limits → State → Play M)
      (Ends : End → Type 0) → RunsOn g device plays Ends old new s
  run_given_up device plays Ends = record {
    wrong = wrong_given_up device;
    held = λ start is. given_by (runs_from g device start (plays (limit_of g is.0) start) old) old
        new s x.how (inr (refl, (refl, refl), still device (HoldState g start) is))
        (λ ends. absurd (done ends)) (inl x.through);
    unheld = λ is. given_by (runs_unheld device Ends old) old new s x.how refl
        (λ ends. absurd (done ends)) tt;
  }

  pub inspect_given_up : (device : List ℕ) → InspectsOn g device old new s
  inspect_given_up device = record {
    wrong = wrong_given_up device;
    sound = λ state is. given_by (inspects_sound g device state old) old new s x.how (refl, refl)
        (still device (HoldState g state) is, x.apart.script) (inl x.through);
    unsound = λ is. given_by (inspects_unsound g device old) old new s x.how (refl, refl) (
      (λ blocks there. (
        blocks,
        same device ∙ there,
        record {
          keeps = λ maps held. held;
          reads = λ none. record { count = refl; head = refl; pages = refl };
        },
      )),
      x.apart.script,
    ) (inl x.through);
    found = λ is. absurd (done is);
  }

  pub work_given_up : (device : List ℕ) (blocks records : ℕ)
      → WorksOn g device blocks records old new s
  work_given_up device blocks records = record {
    unmakable = λ why is. unmade_given_up device why;
    makable = λ size free. given_by (works_on g device blocks records old) old new s x.how
        ((refl, refl), (λ b there. absurd (absent device free b there)))
        (x.apart.script, (λ b there. absurd (absent device free b there)))
        (inl x.through);
  }
