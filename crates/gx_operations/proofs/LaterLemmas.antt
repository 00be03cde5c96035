-- What is promised of a content that comes later, before which nothing was done, is promised of the
-- one before.
use Rattle.std.proofs.Common.{◌≡◌, ℕ, List, ◌++◌, take, sym, subst, ap, ◌∙◌, inl, inr}
use Rattle.std.specs.Prelude.{IsSome}
use Rattle.std.specs.FinMap.{get}
use Rattle.gx_device.specs.Content.{Content, SameContent, device_at, with_named}
use Rattle.gx_device.specs.Crash.{Image, Through}
use Rattle.gx_ports.specs.declared.kinds.LeafSpec.{LeafSpec}
use Rattle.gx_ports.specs.LeafMaps.{Limits}
use Rattle.gx_layout.specs.Layout.{pages_of}
use Rattle.gx_model.specs.Play.{End}
use Rattle.gx_model.specs.States.{State}
use Rattle.gx_store.specs.Store.{OfBlocks}
use Rattle.gx_work.specs.Summary.{work_text}
use Rattle.gx_play.specs.declared.ending.Ending.{Ending}
use Rattle.gx_play.specs.declared.ending.DeviceWhy.{DeviceWhy}
use Rattle.gx_play.specs.declared.ending.DeviceWhy.TheVariants as device_why
use Rattle.gx_play.specs.declared.status.Status.{Status}
use Rattle.gx_play.specs.declared.status.Status.TheVariants as status
use Rattle.gx_play.specs.Endings.{made_line, memory_line}
use Rattle.gx_play.specs.Player.{Play, IsDueOf}
use Rattle.gx_play.specs.Say.{SameDevices}
use Rattle.gx_operations.specs.Crashes.{IsUnchanged, IsStill, IsLater, ReadsAsAttached}
use Rattle.gx_operations.specs.Given.{Given, HoldState, IsStateless, limit_of}
use Rattle.gx_operations.specs.GivenUp.{GaveUp, GivesUp}
use Rattle.gx_operations.specs.declared.kinds.ScriptKind.{ScriptKind}
use Rattle.gx_operations.specs.Kinds.{RunsAs, IsEndOfKind, plays_of}
use Rattle.gx_operations.specs.Making.{IsUnmakable}
use Rattle.gx_operations.specs.Promises.{Promise, IsKept, IsSaid, IsApart}
use Rattle.gx_operations.specs.Refuses.{refuses}
use Rattle.gx_operations.specs.Checks.{checks}
use Rattle.gx_operations.specs.Tries.{tries, memory_play}
use Rattle.gx_operations.specs.Playing.{PlaySays, PlayBreaks}
use Rattle.gx_operations.specs.Explains.{explains, ExplainSays, ExplainBreaks}
use Rattle.gx_operations.specs.Makes.{MakesOn, makes_none, makes_one, IsMakeImage}
use Rattle.gx_operations.specs.Runs.{RunsOn, runs_from, runs_unheld, IsRunImage, UnheldSays}
use Rattle.gx_operations.specs.Inspects.{InspectsOn, inspects_sound, inspects_unsound, IsSoundImage, IsUnsoundImage}
use Rattle.gx_operations.specs.Works.{WorksOn, works_on, IsWorkImage}
use Rattle.gx_operations.specs.Wrong.{StaysWrong, IsWrong, WrongSays, IsDamageLine, finds_wrong}
use Rattle.gx_device.proofs.RunLemmas.{weakened}
use Rattle.gx_operations.proofs.UnchangedLemmas.{still_same, unchanged_twice, unchanged_after, idle_joined, crashes_after}

-- ---- any promise

-- what one promises the other does
pub record Carries (q p : Promise) : Type 0 where
  pub says : (s : Status) (whole last : List ℕ) (new : Content) → q.Says s whole last new
      → p.Says s whole last new
  pub breaks : (told : List ℕ) (new : Content) → q.Breaks told new → p.Breaks told new
  pub due : (d : Status) → p.Due d → q.Due d
  pub leaves : (new : Content) (s : Status) → q.Leaves new s → p.Leaves new s
  pub crashes : (new : Content) → q.Crashes new → p.Crashes new

both_said : (q p : Promise) → Carries q p → (old mid new : Content)
    → mid.now.said ≡ old.now.said → (s : Status) → IsSaid q mid new s → IsSaid p old new s
both_said q p c old mid new same status.Outside (inl x) = inl (record {
  meant = x.meant;
  whole = x.whole;
  last = x.last;
  says = c.says x.meant x.whole x.last new x.says;
  count = x.count;
  said = x.said ∙ ap (λ t. t ++ (x.whole ++ take x.count x.last)) same;
})
both_said q p c old mid new same status.Outside (inr x) = inr (record {
  told = x.told;
  breaks = c.breaks x.told new x.breaks;
  said = x.said ∙ ap (λ t. t ++ x.told) same;
})
both_said q p c old mid new same status.Done x = record {
  whole = x.whole;
  last = x.last;
  says = c.says status.Done x.whole x.last new x.says;
  said = x.said ∙ ap (λ t. t ++ (x.whole ++ x.last)) same;
}
both_said q p c old mid new same status.Script x = record {
  whole = x.whole;
  last = x.last;
  says = c.says status.Script x.whole x.last new x.says;
  said = x.said ∙ ap (λ t. t ++ (x.whole ++ x.last)) same;
}
both_said q p c old mid new same status.Refused x = record {
  whole = x.whole;
  last = x.last;
  says = c.says status.Refused x.whole x.last new x.says;
  said = x.said ∙ ap (λ t. t ++ (x.whole ++ x.last)) same;
}
both_said q p c old mid new same status.Full x = record {
  whole = x.whole;
  last = x.last;
  says = c.says status.Full x.whole x.last new x.says;
  said = x.said ∙ ap (λ t. t ++ (x.whole ++ x.last)) same;
}
both_said q p c old mid new same status.Device x = record {
  whole = x.whole;
  last = x.last;
  says = c.says status.Device x.whole x.last new x.says;
  said = x.said ∙ ap (λ t. t ++ (x.whole ++ x.last)) same;
}
both_said q p c old mid new same status.Memory x = record {
  whole = x.whole;
  last = x.last;
  says = c.says status.Memory x.whole x.last new x.says;
  said = x.said ∙ ap (λ t. t ++ (x.whole ++ x.last)) same;
}

pub carried : (q p : Promise) → Carries q p → (old mid new : Content)
    → mid.now.said ≡ old.now.said → (s : Status) → IsKept q mid new s → IsKept p old new s
carried q p c old mid new same s k = record {
  said = both_said q p c old mid new same s k.said;
  due = λ d is out. k.due d (c.due d is) out;
  leaves = c.leaves new s k.leaves;
  crashes = c.crashes new k.crashes;
}

-- ---- a request that names no device, where texts were fetched before

pub fetched_later : (old mid : Content) → SameContent old mid → Through (λ m. m ≡ old.now) old mid
    → IsLater old mid
fetched_later old mid same time = record {
  through = weakened (λ m. m ≡ old.now) (IsStill old.now)
      (λ m is. subst (IsStill old.now) (sym is) (still_same old.now)) old mid time;
  script = same.script;
  aside = same.aside;
}

module _ (old mid : Content) (l : IsLater old mid) (same : mid.now.pending ≡ old.now.pending) where
  apart : (new : Content) → SameDevices mid new → SameDevices old new
  apart new x = record {
    blocks = x.blocks ∙ l.through.now.unchanged.blocks;
    pending = x.pending ∙ same;
    shelf = x.shelf ∙ l.through.now.unchanged.shelf;
  }

  is_apart : (new : Content) → IsApart mid new → IsApart old new
  is_apart new x = record {
    devices = apart new x.devices;
    script = x.script ∙ l.script;
  }

  through : (new : Content) → Through (IsUnchanged mid.now) mid new
      → Through (IsUnchanged old.now) old new
  through new x = unchanged_after old mid new l.through x

  pub refused_later : (why : Ending) (new : Content) (s : Status)
      → IsKept (refuses why mid) mid new s → IsKept (refuses why old) old new s
  refused_later why new s k = carried (refuses why mid) (refuses why old) (record {
    says = λ s whole last new is. is;
    breaks = λ told new is. is;
    due = λ d is. is;
    leaves = λ new s is. is_apart new is;
    crashes = through;
  }) old mid new l.through.now.said s k

  pub checked_later : (g : Given) (new : Content) (s : Status) → IsKept (checks g mid) mid new s
      → IsKept (checks g old) old new s
  checked_later g new s k = carried (checks g mid) (checks g old) (record {
    says = λ s whole last new is. is;
    breaks = λ told new is. is;
    due = λ d is. is;
    leaves = λ new s is. is_apart new is;
    crashes = through;
  }) old mid new l.through.now.said s k

  pub tried_later : (g : Given) (new : Content) (s : Status) → IsKept (tries g mid) mid new s
      → IsKept (tries g old) old new s
  tried_later g new s k = carried (tries g mid) (tries g old) (record {
    says = λ s whole last new is.
        subst (λ t. PlaySays (memory_play g t) (λ (x : State) (c : Content). Unit {0}) s whole last
        new) l.script is;
    breaks = λ told new is.
        subst (λ t. PlayBreaks (memory_play g t) (λ (x : State) (c : Content). Unit {0}) told new)
        l.script is;
    due = λ d is. subst (λ t. IsDueOf (memory_play g t) d) (sym l.script) is;
    leaves = λ new s is. (apart new is.0, is.1);
    crashes = λ new is. is;
  }) old mid new l.through.now.said s k

  -- what is explained speaks of no content
  explained_any : (g : Given) (script : List ℕ) (s : Status) (plans line : List ℕ) (a b : Content)
      → ExplainSays g script s plans line a → ExplainSays g script s plans line b
  explained_any g script status.Done plans line a b is = is
  explained_any g script status.Script plans line a b is = is
  explained_any g script status.Memory plans line a b is = is
  explained_any g script status.Refused plans line a b is = is
  explained_any g script status.Full plans line a b is = is
  explained_any g script status.Device plans line a b is = is
  explained_any g script status.Outside plans line a b is = is

  pub explained_later : (g : Given) (new : Content) (s : Status)
      → IsKept (explains g mid) mid new s → IsKept (explains g old) old new s
  explained_later g new s k = carried (explains g mid) (explains g old) (record {
    says = λ s whole last new is.
        subst (λ t. ExplainSays g t s whole last new) l.script is;
    breaks = λ told new is. subst (λ t. ExplainBreaks g t told new) l.script is;
    due = λ d is. (
      is.0,
      is.1,
      is.2,
      explained_any g mid.script d is.0 is.1 old mid
          (subst (λ t. ExplainSays g t d is.0 is.1 old) (sym l.script) is.3),
    );
    leaves = λ new s is. (apart new is.0, is.1);
    crashes = λ new is. is;
  }) old mid new l.through.now.said s k

-- ---- a request on a device

module _ (g : Given) (device : List ℕ) (old mid : Content) (l : IsLater old mid) where
  at : (name : List ℕ) → device_at mid.now name ≡ device_at old.now name
  at name = λ i. get (with_named (l.through.now.unchanged.shelf i).name
      (l.through.now.unchanged.blocks i) (l.through.now.unchanged.shelf i).devices) name

  said_is : mid.now.said ≡ old.now.said
  said_is = l.through.now.said

  of_mid : (name : List ℕ) (P : List (List ℕ) → Type 0) → OfBlocks name old P → OfBlocks name mid P
  of_mid name P is = (is.0, at name ∙ is.1, is.2)

  of_old : (name : List ℕ) (P : List (List ℕ) → Type 0) → OfBlocks name mid P → OfBlocks name old P
  of_old name P is = (is.0, sym (at name) ∙ is.1, is.2)

  unchanged : (new : Content) → IsUnchanged mid.now new.now → IsUnchanged old.now new.now
  unchanged new is = unchanged_twice old.now mid.now new.now l.through.now.unchanged is

  through_later : (new : Content) → Through (IsUnchanged mid.now) mid new
      → Through (IsUnchanged old.now) old new
  through_later new x = unchanged_after old mid new l.through x

  front : (new text : List ℕ) → new ≡ old.now.said ++ text → new ≡ mid.now.said ++ text
  front new text is = is ∙ ap (λ t. t ++ text) (sym said_is)

  back : (new text : List ℕ) → new ≡ mid.now.said ++ text → new ≡ old.now.said ++ text
  back new text is = is ∙ ap (λ t. t ++ text) said_is

  unmade_later : (why : DeviceWhy) (new : Content) (s : Status)
      → IsKept (makes_none why device mid) mid new s → IsKept (makes_none why device old) old new s
  unmade_later why new s k = carried (makes_none why device mid) (makes_none why device old) (record {
    says = λ s whole last new is. is;
    breaks = λ told new is. is;
    due = λ d is. is;
    leaves = λ new s is. (unchanged new is.0, is.1 ∙ l.script);
    crashes = through_later;
  }) old mid new said_is s k

  unmakable : (specs : List LeafSpec) (blocks : ℕ) (why : DeviceWhy)
      → IsUnmakable specs device blocks old why → IsUnmakable specs device blocks mid why
  unmakable specs blocks device_why.Exists is = (is.0, subst IsSome (sym (at device)) is.1)
  unmakable specs blocks device_why.Size is = is
  unmakable specs blocks device_why.Missing is = is
  unmakable specs blocks device_why.NoDatabase is = is
  unmakable specs blocks (device_why.OtherEquation place) is = is
  unmakable specs blocks (device_why.Damaged block) is = is

  pub made_later : (blocks : ℕ) (new : Content) (s : Status)
      → MakesOn g device blocks mid new s → MakesOn g device blocks old new s
  made_later blocks new s m = record {
    unmakable = λ why is. unmade_later why new s
        (m.unmakable why (unmakable g.typing.specs blocks why is));
    makable = λ size free.
        carried (makes_one g device blocks mid) (makes_one g device blocks old) (record {
          says = λ s whole last new is. is;
          breaks = λ told new is. is;
          due = λ d is. is;
          leaves = λ new s is. (is.0, is.1 ∙ l.script);
          crashes = λ new is. crashes_after device (IsMakeImage g blocks mid)
              (IsMakeImage g blocks old) old mid new l.through
              (λ middle image x. record {
                is = x.is;
                done = λ said. x.done
                    (front image.said (made_line blocks (pages_of blocks)) said);
              }) is;
        }) old mid new said_is s (m.makable size (at device ∙ free));
  }

  is_wrong : (why : DeviceWhy) → IsWrong g device old why → IsWrong g device mid why
  is_wrong device_why.Missing is = at device ∙ is
  is_wrong device_why.Size is = of_mid device _ is
  is_wrong device_why.NoDatabase is = of_mid device _ is
  is_wrong (device_why.OtherEquation place) is = of_mid device _ is
  is_wrong device_why.Exists is = is
  is_wrong (device_why.Damaged block) is = is

  stays_wrong : (why : DeviceWhy) (new : Content) → StaysWrong why device mid new
      → StaysWrong why device old new
  stays_wrong device_why.Missing new is = unchanged new is
  stays_wrong device_why.Size new is = is ∙ at device
  stays_wrong device_why.NoDatabase new is = is ∙ at device
  stays_wrong (device_why.OtherEquation place) new is = λ blocks there. is blocks (at device ∙ there)
  stays_wrong device_why.Exists new is = is ∙ at device
  stays_wrong (device_why.Damaged block) new is = is ∙ at device

  wrong_says : (why : DeviceWhy) (s : Status) (whole last : List ℕ) (new : Content)
      → WrongSays why device mid s whole last new → WrongSays why device old s whole last new
  wrong_says why status.Device whole last new is = (is.0, stays_wrong why new is.1, is.2)
  wrong_says why status.Memory whole last new is = (is.0, stays_wrong why new is.1)
  wrong_says why status.Done whole last new is = is
  wrong_says why status.Script whole last new is = is
  wrong_says why status.Refused whole last new is = is
  wrong_says why status.Full whole last new is = is
  wrong_says why status.Outside whole last new is = is

  wrong_later : (why : DeviceWhy) (new : Content) (s : Status)
      → IsKept (finds_wrong g why device mid) mid new s
      → IsKept (finds_wrong g why device old) old new s
  wrong_later why new s k =
      carried (finds_wrong g why device mid) (finds_wrong g why device old) (record {
        says = wrong_says why;
        breaks = λ told new is. (is.0, λ blocks there. is.1 blocks (at device ∙ there));
        due = λ d is. is;
        leaves = λ new s is. ((λ none. is.0 (at device ∙ none)), is.1 ∙ l.script);
        crashes = λ new is. crashes_after device ReadsAsAttached ReadsAsAttached old mid new l.through
            (λ middle image x. x) is;
      }) old mid new said_is s k

  damage : (line : List ℕ) → IsDamageLine device mid line → IsDamageLine device old line
  damage line is = (is.0, of_old device _ is.1, is.2)

  unheld_says : (Ends : End → Type 0) (s : Status) (whole last : List ℕ) (new : Content)
      → UnheldSays device mid Ends s whole last new → UnheldSays device old Ends s whole last new
  unheld_says Ends status.Device whole last new is = damage last is
  unheld_says Ends status.Memory whole last new is = is
  unheld_says Ends status.Done whole last new is = is
  unheld_says Ends status.Script whole last new is = is
  unheld_says Ends status.Refused whole last new is = is
  unheld_says Ends status.Full whole last new is = is
  unheld_says Ends status.Outside whole last new is = is

  run_image : {M : Type 0} (p : Play M) (middle : Content) (image : Image)
      → IsRunImage g p mid middle image → IsRunImage g p old middle image
  run_image p middle image (inl x) =
      inl (x.0, (x.1.0, back image.said (take x.1.0 memory_line) x.1.1))
  run_image p middle image (inr x) = inr (x.0, x.1, x.2, back image.said x.0 x.3, x.4)

  is_stateless : IsStateless g device old → IsStateless g device mid
  is_stateless is = record {
    opened = of_mid device _ is.opened;
    none = λ s held. is.none s (of_old device (HoldState g s) held);
  }

  ran_on : {M : Type 0} (plays : Limits → State → Play M) (Ends : End → Type 0)
      (new : Content) (s : Status)
      → RunsOn g device plays Ends mid new s → RunsOn g device plays Ends old new s
  ran_on plays Ends new s r = record {
    wrong = λ why is. wrong_later why new s (r.wrong why (is_wrong why is));
    held = λ start is.
        let p = plays (limit_of g is.0) start in
        carried (runs_from g device start p mid) (runs_from g device start p old) (record {
          says = λ s whole last new is. is;
          breaks = λ told new is. is;
          due = λ d is. is;
          leaves = λ new s is. is;
          crashes = λ new is. crashes_after device (IsRunImage g p mid) (IsRunImage g p old) old mid
              new l.through (run_image p) is;
        }) old mid new said_is s (r.held start (is.0, at device ∙ is.1, is.2));
    unheld = λ is.
        carried (runs_unheld device Ends mid) (runs_unheld device Ends old) (record {
          says = unheld_says Ends;
          breaks = λ told new is. is;
          due = λ d is. is;
          leaves = λ new s is. is;
          crashes = λ new is. is;
        }) old mid new said_is s (r.unheld (is_stateless is));
  }

  pub ran_later : (k : ScriptKind) (new : Content) (s : Status) → RunsAs k g device mid new s
      → RunsAs k g device old new s
  ran_later k new s r =
      subst (λ t. RunsOn g device (plays_of k g t) (IsEndOfKind k g.schema t) old new s) l.script
      (ran_on (plays_of k g mid.script) (IsEndOfKind k g.schema mid.script) new s r)

  unsound_says : (s : Status) (whole last : List ℕ) (new : Content)
      → (inspects_unsound g device mid).Says s whole last new
      → (inspects_unsound g device old).Says s whole last new
  unsound_says status.Device whole last new is = (is.0, damage last is.1)
  unsound_says status.Memory whole last new is = is
  unsound_says status.Done whole last new is = is
  unsound_says status.Script whole last new is = is
  unsound_says status.Refused whole last new is = is
  unsound_says status.Full whole last new is = is
  unsound_says status.Outside whole last new is = is

  pub inspected_later : (new : Content) (s : Status) → InspectsOn g device mid new s
      → InspectsOn g device old new s
  inspected_later new s r = record {
    wrong = λ why is. wrong_later why new s (r.wrong why (is_wrong why is));
    sound = λ state is.
        carried (inspects_sound g device state mid) (inspects_sound g device state old) (record {
          says = λ s whole last new is. is;
          breaks = λ told new is. is;
          due = λ d is. is;
          leaves = λ new s is. (is.0, is.1 ∙ l.script);
          crashes = λ new is. crashes_after device (IsSoundImage g state) (IsSoundImage g state) old
              mid new l.through (λ middle image x. x) is;
        }) old mid new said_is s (r.sound state (of_mid device (HoldState g state) is));
    unsound = λ is.
        carried (inspects_unsound g device mid) (inspects_unsound g device old) (record {
          says = unsound_says;
          breaks = λ told new is. is;
          due = λ d is. is;
          leaves = λ new s is. (
            (λ blocks there. is.0 blocks (at device ∙ there)),
            is.1 ∙ l.script,
          );
          crashes = λ new is. crashes_after device (IsUnsoundImage g) (IsUnsoundImage g) old mid new
              l.through (λ middle image x. x) is;
        }) old mid new said_is s (r.unsound (is_stateless is));
    found = λ is. let held = r.found is in (held.0, of_old device (HoldState g held.0) held.1);
  }

  pub worked_later : (blocks records : ℕ) (new : Content) (s : Status)
      → WorksOn g device blocks records mid new s → WorksOn g device blocks records old new s
  worked_later blocks records new s r = record {
    unmakable = λ why is. unmade_later why new s
        (r.unmakable why (unmakable g.typing.specs blocks why is));
    makable = λ size free.
        carried (works_on g device blocks records mid) (works_on g device blocks records old) (record {
          says = λ s whole last new is. is;
          breaks = λ told new is. is;
          due = λ d is. is;
          leaves = λ new s is. (is.0 ∙ l.script, is.1);
          crashes = λ new is. crashes_after device (IsWorkImage g blocks records mid)
              (IsWorkImage g blocks records old) old mid new l.through
              (λ middle image x. record {
                is = x.is;
                done = λ answers m ends said. x.done answers m ends
                    (front image.said (work_text records m) said);
              }) is;
        }) old mid new said_is s (r.makable size (at device ∙ free));
  }

-- ---- a request that is given up

pub given_later : (old mid new : Content) (s : Status) → IsLater old mid
    → mid.now.pending ≡ old.now.pending → GivesUp mid new s → GivesUp old new s
given_later old mid new s l pending x = record {
  how = gave_later x.how;
  apart = record {
    devices = record {
      blocks = x.apart.devices.blocks ∙ l.through.now.unchanged.blocks;
      pending = x.apart.devices.pending ∙ pending;
      shelf = x.apart.devices.shelf ∙ l.through.now.unchanged.shelf;
    };
    script = x.apart.script ∙ l.script;
  };
  through = idle_joined old mid new l.through x.through;
}
  where
    gave_later : GaveUp mid new s → GaveUp old new s
    gave_later (inl m) = inl (m.0, m.1 ∙ ap (λ t. t ++ memory_line) l.through.now.said)
    gave_later (inr o) =
        inr (o.0, o.1, o.2 ∙ ap (λ t. t ++ take o.1 memory_line) l.through.now.said)
