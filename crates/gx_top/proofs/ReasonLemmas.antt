-- A request whose texts are accepted is never answered as one that is refused.
use Rattle.std.proofs.Common.{◌≡◌, ℕ, List, Option, Some, None, refl, sym, subst, inl, inr}
use Rattle.std.specs.Prelude.{◌⊎◌, ◌≢◌, IsSome}
use Rattle.gx_device.specs.Content.{Content, Texts, device_at}
use Rattle.gx_model.specs.Play.{End}
use Rattle.gx_model.specs.States.{State}
use Rattle.gx_store.specs.Device.{IsSize}
use Rattle.gx_ports.specs.LeafMaps.{Limits}
use Rattle.gx_play.specs.ScriptEnds.{IsScriptEnd}
use Rattle.gx_shares.specs.Ends.{IsShareEnd}
use Rattle.gx_play.specs.Player.{Play}
use Rattle.gx_store.specs.Opening.{AreOpened}
use Rattle.gx_store.specs.Store.{OfBlocks}
use Rattle.gx_play.specs.declared.ending.DeviceWhy.{DeviceWhy}
use Rattle.gx_play.specs.declared.ending.DeviceWhy.TheVariants as device_why
use Rattle.gx_play.specs.declared.ending.Ending.{Ending}
use Rattle.gx_play.specs.declared.status.Status.{Status}
use Rattle.gx_play.specs.declared.status.Status.TheVariants as status
use Rattle.gx_requests.specs.Words.{Action, checking, trying, explaining, making, running, sharing, inspecting, working}
use Rattle.gx_operations.specs.Given.{Given, under, limit_of}
use Rattle.gx_operations.specs.GivenUp.{GaveUp, GivesUp}
use Rattle.gx_operations.specs.Inspects.{InspectsOn}
use Rattle.gx_operations.specs.Makes.{MakesOn}
use Rattle.gx_operations.specs.Promises.{IsKept}
use Rattle.gx_operations.specs.Refuses.{refuses}
use Rattle.gx_operations.specs.Runs.{RunsOn, RunSays, script_play, turns_play}
use Rattle.gx_operations.specs.Works.{WorksOn}
use Rattle.gx_operations.specs.Wrong.{IsWrong}
use Rattle.gx_top.specs.Promised.{IsGiven, CarriesOut}
use Rattle.gx_top.proofs.CaseLemmas.{are_cases, sized}

memory_not_refused : status.Refused ≡ status.Memory → ⊥
memory_not_refused e = cc

outside_not_refused : status.Refused ≡ status.Outside → ⊥
outside_not_refused e = cc

abbrev Cases : Given → List ℕ → Content → Type 0
Cases g device c =
    ((why : DeviceWhy) × IsWrong g device c why) ⊎ OfBlocks device c (under g AreOpened)

module _ (g : Given) (old new : Content) where
  make_not : (device : List ℕ) (blocks : ℕ) → MakesOn g device blocks old new status.Refused → ⊥
  make_not device blocks m = by_size (sized g.typing.specs blocks)
    where
      by_device : (found : Option (List (List ℕ))) → device_at old.now device ≡ found
          → IsSize g.typing.specs blocks → ⊥
      by_device None none size = (m.makable size none).said.says
      by_device (Some there) is size =
          (m.unmakable device_why.Exists (size, subst IsSome (sym is) refl)).said.says

      by_size : IsSize g.typing.specs blocks ⊎ (¬ IsSize g.typing.specs blocks) → ⊥
      by_size (inl size) = by_device (device_at old.now device) refl size
      by_size (inr none) = (m.unmakable device_why.Size none).said.says

  work_not : (device : List ℕ) (blocks records : ℕ)
      → WorksOn g device blocks records old new status.Refused → ⊥
  work_not device blocks records m = by_size (sized g.typing.specs blocks)
    where
      by_device : (found : Option (List (List ℕ))) → device_at old.now device ≡ found
          → IsSize g.typing.specs blocks → ⊥
      by_device None none size = (m.makable size none).said.says
      by_device (Some there) is size =
          (m.unmakable device_why.Exists (size, subst IsSome (sym is) refl)).said.says

      by_size : IsSize g.typing.specs blocks ⊎ (¬ IsSize g.typing.specs blocks) → ⊥
      by_size (inl size) = by_device (device_at old.now device) refl size
      by_size (inr none) = (m.unmakable device_why.Size none).said.says

  unrun : {M : Type 0} (device : List ℕ) (start : State) (p : Play M) (answers line : List ℕ)
      → RunSays g device start p status.Refused answers line new → ⊥
  unrun device start p answers line (inl is) = is.1
  unrun device start p answers line (inr is) = memory_not_refused is.0

  run_not : {M : Type 0} (device : List ℕ) (plays : Limits → State → Play M)
      (Ends : End → Type 0) → RunsOn g device plays Ends old new status.Refused → ⊥
  run_not device plays Ends r = by_case (are_cases g device old).some
    where
      by_case : Cases g device old → ⊥
      by_case (inl wrong) = (r.wrong wrong.0 wrong.1).said.says
      by_case (inr opened) =
          let none = (are_cases g device old).none opened (λ s held.
          let k = r.held s held in
          unrun device s (plays (limit_of g held.0) s) k.said.whole k.said.last
          k.said.says) in
          (r.unheld none).said.says

  inspect_not : (device : List ℕ) → InspectsOn g device old new status.Refused → ⊥
  inspect_not device r = by_case (are_cases g device old).some
    where
      by_case : Cases g device old → ⊥
      by_case (inl wrong) = (r.wrong wrong.0 wrong.1).said.says
      by_case (inr opened) =
          let none = (are_cases g device old).none opened (λ s held. (r.sound s held).said.says) in
          (r.unsound none).said.says

  pub carried_not_refused : (words : List (List ℕ)) (texts : Texts) (a : Action)
      → IsGiven words texts a g → CarriesOut a g old new status.Refused → ⊥
  carried_not_refused words texts checking given k = k.said.says
  carried_not_refused words texts trying given k = k.said.says.1
  carried_not_refused words texts explaining given k = k.said.says
  carried_not_refused words texts (making device digits) given k =
      let n = given.2.counted in
      make_not device n.0 (k n.0 n.1)
  carried_not_refused words texts (running device) given k =
      run_not device (script_play g old.script) (IsScriptEnd g.schema old.script) k
  carried_not_refused words texts (sharing device) given k =
      run_not device (turns_play g old.script) (IsShareEnd g.schema old.script) k
  carried_not_refused words texts (inspecting device) given k = inspect_not device k
  carried_not_refused words texts (working device digits number) given k =
      let n = given.2.counted in
      work_not device n.0.0 n.1.0 (k n.0.0 n.1.0 n.0.1 n.1.1)

-- a refusal has no other status, but for want of memory or a failed call
pub refusal_status : (why : Ending) (old new : Content) (s : Status)
    → IsKept (refuses why old) old new s → s ≢ status.Refused → s ≢ status.Memory
    → s ≢ status.Outside → ⊥
refusal_status why old new status.Refused k refused memory outside = refused refl
refusal_status why old new status.Memory k refused memory outside = memory refl
refusal_status why old new status.Outside k refused memory outside = outside refl
refusal_status why old new status.Done k refused memory outside = k.said.says
refusal_status why old new status.Script k refused memory outside = k.said.says
refusal_status why old new status.Full k refused memory outside = k.said.says
refusal_status why old new status.Device k refused memory outside = k.said.says

-- nor has one that is given up
pub given_up_status : (old new : Content) (s : Status) → GivesUp old new s
    → (s ≡ status.Memory) ⊎ (s ≡ status.Outside)
given_up_status old new s x = by_how x.how
  where
    by_how : GaveUp old new s → (s ≡ status.Memory) ⊎ (s ≡ status.Outside)
    by_how (inl m) = inl m.0
    by_how (inr o) = inr o.0

pub given_up_not_refused : (old new : Content) (s : Status) → GivesUp old new s
    → s ≡ status.Refused → ⊥
given_up_not_refused old new s x is = by_status (given_up_status old new s x)
  where
    by_status : (s ≡ status.Memory) ⊎ (s ≡ status.Outside) → ⊥
    by_status (inl m) = memory_not_refused (subst (λ k. k ≡ status.Memory) is m)
    by_status (inr o) = outside_not_refused (subst (λ k. k ≡ status.Outside) is o)
