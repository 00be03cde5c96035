-- What a request leaves for the next one on the same machine.
use Rattle.std.proofs.Common.{◌≡◌, ℕ, List, ◌++◌, Option, Some, None, refl, sym, ap, subst, ◌∙◌, inl, inr}
use Rattle.std.specs.Prelude.{◌⊎◌, IsSome}
use Rattle.gx_device.specs.Content.{Content, device_at}
use Rattle.gx_model.specs.Play.{Playing, good, stopped}
use Rattle.gx_model.specs.States.{State, empty_state}
use Rattle.gx_store.specs.Device.{IsSize}
use Rattle.gx_play.specs.declared.ending.DeviceWhy.TheVariants as device_why
use Rattle.gx_play.specs.declared.status.Status.{Status}
use Rattle.gx_play.specs.declared.status.Status.TheVariants as status
use Rattle.gx_play.specs.Player.{Play}
use Rattle.gx_sharing.specs.Sharing.{Sharing}
use Rattle.gx_requests.specs.Words.{making, running, sharing, inspecting}
use Rattle.gx_operations.specs.Given.{Given, IsHeldOn, IsSettledOn, limit_of}
use Rattle.gx_operations.specs.Makes.{MakesOn}
use Rattle.gx_operations.specs.Promises.{SaysBoth}
use Rattle.gx_operations.specs.Runs.{RunSays, runs_from, script_play, turns_play}
use Rattle.gx_operations.proofs.GivenLemmas.{settle_holds}
use Rattle.gx_top.specs.Laws.{NextFinds, SaysPlay, SaysShare, Follows}
use Rattle.gx_top.specs.Promised.{IsGiven, IsPromised}
use Rattle.gx_top.proofs.CaseLemmas.{sized}

-- what is settled is held
settled_held : (g : Given) (device : List ℕ) (s : State) (c : Content) → IsSettledOn g device s c
    → IsHeldOn g device s c
settled_held g device s c is = (is.0, is.1, settle_holds g s is.0 is.2)

module _ (words : List (List ℕ)) (g : Given) (device : List ℕ) (old new : Content) where
  finds : (P : State → Type 0) (s : State) → P s → IsHeldOn g device s new → (e : Status)
      → IsPromised words old new e → NextFinds g device old new P
  finds P s is held e promised = (
    s,
    is,
    record {
      given = λ others a h given.
          subst (λ t. IsGiven others t a h) (ap (λ x. x.texts) (sym promised.keeps.aside)) given;
      held = held;
    },
  )

  -- a device was made, since it is told so
  new_state : (blocks : ℕ) → MakesOn g device blocks old new status.Done
      → IsHeldOn g device (empty_state g.schema) new
  new_state blocks m = by_size (sized g.typing.specs blocks)
    where
      by_device : (found : Option (List (List ℕ))) → device_at old.now device ≡ found
          → IsSize g.typing.specs blocks → IsHeldOn g device (empty_state g.schema) new
      by_device None none size =
          settled_held g device (empty_state g.schema) new (m.makable size none).said.says.1.1.empty
      by_device (Some there) is size =
          absurd (m.unmakable device_why.Exists (size, subst IsSome (sym is) refl)).said.says

      by_size : IsSize g.typing.specs blocks ⊎ (¬ IsSize g.typing.specs blocks)
          → IsHeldOn g device (empty_state g.schema) new
      by_size (inl size) = by_device (device_at old.now device) refl size
      by_size (inr none) = absurd (m.unmakable device_why.Size none).said.says

  abbrev PlayAt : (start : State) → IsHeldOn g device start old → Play Playing
  PlayAt start is = script_play g old.script (limit_of g is.0) start

  done_not_memory : status.Done ≡ status.Memory → ⊥
  done_not_memory e = cc

  script_not_memory : status.Script ≡ status.Memory → ⊥
  script_not_memory e = cc

  -- the script was played to its end
  played_out : (start : State) (is : IsHeldOn g device start old)
      → SaysBoth (runs_from g device start (PlayAt start is) old) old new status.Done
      → IsPromised words old new status.Done
      → NextFinds g device old new (SaysPlay g.schema start old new)
  played_out start is said promised = by_says said.says
    where
      by_says : RunSays g device start (PlayAt start is) status.Done said.whole said.last new
          → NextFinds g device old new (SaysPlay g.schema start old new)
      by_says (inl play) =
          finds (SaysPlay g.schema start old new) play.0.kept (
            good,
            said.whole ++ said.last,
            record {
              answers = said.whole;
              final = play.0;
              play = play.1.0;
              text_is = ap (λ (t : List ℕ). said.whole ++ t) play.1.1;
              kept_is = refl;
            },
            said.said,
          ) (settled_held g device play.0.kept new play.2) status.Done promised
      by_says (inr none) = absurd (done_not_memory none.0)

  -- it was played to a line that ends it
  played_to : (start : State) (is : IsHeldOn g device start old)
      → SaysBoth (runs_from g device start (PlayAt start is) old) old new status.Script
      → IsPromised words old new status.Script
      → NextFinds g device old new (SaysPlay g.schema start old new)
  played_to start is said promised = by_says said.says
    where
      by_says : RunSays g device start (PlayAt start is) status.Script said.whole said.last new
          → NextFinds g device old new (SaysPlay g.schema start old new)
      by_says (inl play) =
          finds (SaysPlay g.schema start old new) play.0.kept (
            stopped play.1.0 play.1.1,
            said.whole ++ said.last,
            record {
              answers = said.whole;
              final = play.0;
              play = play.1.2;
              text_is = ap (λ (t : List ℕ). said.whole ++ t) play.1.3;
              kept_is = refl;
            },
            said.said,
          ) (settled_held g device play.0.kept new play.2) status.Script promised
      by_says (inr none) = absurd (script_not_memory none.0)

  ran : IsGiven words old.aside.texts (running device) g → (start : State)
      → IsHeldOn g device start old → (s : Status) → (s ≡ status.Done) ⊎ (s ≡ status.Script)
      → IsPromised words old new s → NextFinds g device old new (SaysPlay g.schema start old new)
  ran given start is s (inl done) promised =
      let p = subst (IsPromised words old new) done promised in
      played_out start is ((p.accepted (running device) g given).held start is).said p
  ran given start is s (inr script) promised =
      let p = subst (IsPromised words old new) script promised in
      played_to start is ((p.accepted (running device) g given).held start is).said p

  -- the same of turns
  abbrev SharedAt : (start : State) → IsHeldOn g device start old → Play Sharing
  SharedAt start is = turns_play g old.script (limit_of g is.0) start

  shared_out : (start : State) (is : IsHeldOn g device start old)
      → SaysBoth (runs_from g device start (SharedAt start is) old) old new status.Done
      → IsPromised words old new status.Done
      → NextFinds g device old new (SaysShare g.schema start old new)
  shared_out start is said promised = by_says said.says
    where
      by_says : RunSays g device start (SharedAt start is) status.Done said.whole said.last new
          → NextFinds g device old new (SaysShare g.schema start old new)
      by_says (inl play) =
          finds (SaysShare g.schema start old new) play.0.kept (
            good,
            play.1.0.0,
            play.0,
            play.1.0.1,
            said.said ∙ (λ i. old.now.said ++ (play.1.0.2 i ++ play.1.1 i)),
            refl,
          ) (settled_held g device play.0.kept new play.2) status.Done promised
      by_says (inr none) = absurd (done_not_memory none.0)

  shared_to : (start : State) (is : IsHeldOn g device start old)
      → SaysBoth (runs_from g device start (SharedAt start is) old) old new status.Script
      → IsPromised words old new status.Script
      → NextFinds g device old new (SaysShare g.schema start old new)
  shared_to start is said promised = by_says said.says
    where
      by_says : RunSays g device start (SharedAt start is) status.Script said.whole said.last new
          → NextFinds g device old new (SaysShare g.schema start old new)
      by_says (inl play) =
          finds (SaysShare g.schema start old new) play.0.kept (
            stopped play.1.0 play.1.1,
            play.1.2.0,
            play.0,
            play.1.2.1,
            said.said ∙ (λ i. old.now.said ++ (play.1.2.2 i ++ play.1.3 i)),
            refl,
          ) (settled_held g device play.0.kept new play.2) status.Script promised
      by_says (inr none) = absurd (script_not_memory none.0)

  shared : IsGiven words old.aside.texts (sharing device) g → (start : State)
      → IsHeldOn g device start old → (s : Status) → (s ≡ status.Done) ⊎ (s ≡ status.Script)
      → IsPromised words old new s → NextFinds g device old new (SaysShare g.schema start old new)
  shared given start is s (inl done) promised =
      let p = subst (IsPromised words old new) done promised in
      shared_out start is ((p.accepted (sharing device) g given).held start is).said p
  shared given start is s (inr script) promised =
      let p = subst (IsPromised words old new) script promised in
      shared_to start is ((p.accepted (sharing device) g given).held start is).said p

  pub follows : Follows words g device old new
  follows = record {
    made = λ digits given promised.
        let n = given.2.counted in
        finds (λ s. s ≡ empty_state g.schema) (empty_state g.schema) refl
        (new_state n.0 (promised.accepted (making device digits) g given n.0 n.1)) status.Done
        promised;
    ran = ran;
    shared = shared;
    inspected = λ given state is s promised.
        finds (λ t. t ≡ state) state refl
        ((promised.accepted (inspecting device) g given).sound state is).leaves.0 s promised;
  }
