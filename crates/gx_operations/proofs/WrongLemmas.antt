-- A device that isn't what was asked for: what is promised of it is kept where it isn't opened.
use Rattle.std.proofs.Common.{◌≡◌, ◌∙◌, inl, inr, ℕ, ◌<◌, Bool, true, false, not, List, [], ◌++◌, length, take, get_or, slice_index_or, Some, None, Err, refl, sym, ap, subst, arith, append-nil, Option}
use Rattle.std.specs.Prelude.{◌⊎◌, ◌≢◌}
use Rattle.std.proofs.lemmas.Option.{same_Some}
use Rattle.gx_device.specs.declared.device.Device as device
use Rattle.gx_device.specs.Content.{Moment, Content, NonePending, device_at}
use Rattle.gx_layout.specs.Layout.{head_of}
use Rattle.gx_layout.specs.Head.{HasMagic, DifferFirst, text_at, text_area}
use Rattle.gx_layout.specs.declared.places.TheConstants.{TEXT_AREA_LEN}
use Rattle.gx_ports.specs.declared.page_view.PageView as page_view
use Rattle.gx_pages.specs.declared.paged.Paged.{Paged}
use Rattle.gx_schema.specs.Printing.{schema_text}
use Rattle.gx_equation.specs.Printing.{equation_text}
use Rattle.gx_store.specs.Crashes.{Unattached, Opens, RefusesBy}
use Rattle.gx_store.specs.Device.{IsSize, ReadAlike}
use Rattle.gx_store.specs.Opened.{LeavesNamed}
use Rattle.gx_store.specs.Opening.{AreOpened, IsUnopened, HaveDatabase, IsRecoveryOf}
use Rattle.gx_store.specs.Store.{Attaches, OfBlocks, is_fault}
use Rattle.gx_store.specs.declared.unopened.Unopened.{Unopened}
use Rattle.gx_store.specs.declared.unopened.Unopened.TheVariants as unopened
use Rattle.gx_store.proofs.ShelfLemmas.{named_at}
use Rattle.gx_play.specs.declared.ending.DeviceWhy.{DeviceWhy}
use Rattle.gx_play.specs.declared.ending.DeviceWhy.TheVariants as device_why
use Rattle.gx_play.specs.declared.ending.Ending.{Ending}
use Rattle.gx_play.specs.declared.ending.Ending.TheVariants as ending
use Rattle.gx_play.specs.declared.status.Status.{Status}
use Rattle.gx_play.specs.declared.status.Status.TheVariants as status
use Rattle.gx_play.specs.Endings.{device_line, memory_line, status_of, unopened_ending, IsEnded, IsStatusFor, EndsThrough}
use Rattle.gx_play.specs.Say.{SameDevices, IsCut}
use Rattle.gx_operations.specs.Crashes.{IsUnchanged, CrashesOn, ReadsAsAttached}
use Rattle.gx_operations.specs.Given.{Given, under, KeepsAbsent}
use Rattle.gx_operations.specs.Promises.{Promise, IsKept, IsSaid}
use Rattle.gx_operations.specs.Wrong.{IsWrong, StaysWrong, IsSettledWrong, finds_wrong}
use Rattle.gx_operations.proofs.CrashLemmas.{ends_idle, unopened_idle, unattached_idle, opens_refused}
use Rattle.gx_operations.proofs.UnchangedLemmas.{unchanged_by, same_device_at}

-- ---- the status

-- it is the one of the ending, but for a failed call or want of memory
pub due_or_memory : (w : Ending) (s : Status) → IsStatusFor w s → s ≢ status.Outside
    → (s ≡ status_of w) ⊎ (s ≡ status.Memory)
due_or_memory w status.Memory is out = inr refl
due_or_memory w status.Outside is out = absurd (out refl)
due_or_memory w status.Done is out = inl (is.status_is (λ f. cc) (λ f. cc))
due_or_memory w status.Refused is out = inl (is.status_is (λ f. cc) (λ f. cc))
due_or_memory w status.Script is out = inl (is.status_is (λ f. cc) (λ f. cc))
due_or_memory w status.Full is out = inl (is.status_is (λ f. cc) (λ f. cc))
due_or_memory w status.Device is out = inl (is.status_is (λ f. cc) (λ f. cc))

-- ---- one reason

-- texts differ first at one place
differ_once : (xs ys : ℕ → ℕ) (p q : ℕ)
    → (p < TEXT_AREA_LEN) × (xs p ≢ ys p) × ((k : ℕ) → k < p → xs k ≡ ys k)
    → (q < TEXT_AREA_LEN) × (xs q ≢ ys q) × ((k : ℕ) → k < q → xs k ≡ ys k) → p ≡ q
differ_once xs ys p q one two =
    let no_less : ¬ (q < p) = λ less. two.1 (one.2 q less) in
    let no_more : ¬ (p < q) = λ less. one.1 (two.2 p less) in
    omega arith

-- what open answers of such a device: for want of memory, after a failed call, or for that reason
abbrev Answers : Unopened → DeviceWhy → Type 0
Answers e why =
    (e ≡ unopened.Fault) ⊎ (e ≡ unopened.NoMemory) ⊎ (unopened_ending e ≡ ending.Device why)

-- no device, and one
both_there : {A : Type 0} (c : Content) (name : List ℕ) (blocks : List (List ℕ))
    → device_at c.now name ≡ None → device_at c.now name ≡ Some blocks → A
both_there c name blocks none there = absurd (never (sym none ∙ there))
  where
    never : ◌≡◌ {A = Option (List (List ℕ))} None (Some blocks) → ⊥
    never f = cc

module _ (g : Given) (device : List ℕ) (old : Content) where
  abbrev Had : Unopened → Type 0
  Had e = under g (IsUnopened device) old e

  one_there : (P Q : List (List ℕ) → Type 0) → OfBlocks device old P → OfBlocks device old Q
      → (blocks : List (List ℕ)) × P blocks × Q blocks
  one_there P Q u w =
      (u.0, u.2, subst Q (same_Some w.0 u.0 (sym w.1 ∙ u.1)) w.2)

  wrong_of : (e : Unopened) (why : DeviceWhy) → Had e → IsWrong g device old why → Answers e why
  wrong_of unopened.Fault why u w = inl refl
  wrong_of unopened.NoMemory why u w = inr (inl refl)
  wrong_of unopened.Exists why u w = absurd u.2
  wrong_of e device_why.Exists u w = absurd w
  wrong_of e (device_why.Damaged block) u w = absurd w
  wrong_of unopened.Missing device_why.Missing u w = inr (inr refl)
  wrong_of unopened.Missing device_why.Size u w = both_there old device w.0 u w.1
  wrong_of unopened.Missing device_why.NoDatabase u w = both_there old device w.0 u w.1
  wrong_of unopened.Missing (device_why.OtherEquation place) u w = both_there old device w.0 u w.1
  wrong_of unopened.Size device_why.Missing u w = both_there old device u.0 w u.1
  wrong_of unopened.Size device_why.Size u w = inr (inr refl)
  wrong_of unopened.Size device_why.NoDatabase u w =
      absurd (u.2 (subst (λ (b : List (List ℕ)). IsSize g.typing.specs (length b))
      (same_Some w.0 u.0 (sym w.1 ∙ u.1)) w.2.0))
  wrong_of unopened.Size (device_why.OtherEquation place) u w =
      absurd (u.2 (subst (λ (b : List (List ℕ)). IsSize g.typing.specs (length b))
      (same_Some w.0 u.0 (sym w.1 ∙ u.1)) w.2.0))
  wrong_of unopened.NoDatabase device_why.Missing u w = both_there old device u.0 w u.1
  wrong_of unopened.NoDatabase device_why.Size u w =
      absurd (w.2 (subst (λ (b : List (List ℕ)). IsSize g.typing.specs (length b))
      (same_Some u.0 w.0 (sym u.1 ∙ w.1)) u.2.0))
  wrong_of unopened.NoDatabase device_why.NoDatabase u w = inr (inr refl)
  wrong_of unopened.NoDatabase (device_why.OtherEquation place) u w =
      absurd (u.2.1 (subst (λ (b : List (List ℕ)). HasMagic (length b) (get_or b 0 []))
      (same_Some w.0 u.0 (sym w.1 ∙ u.1)) w.2.1))
  wrong_of (unopened.OtherTexts place) device_why.Missing u w = both_there old device u.0 w u.1
  wrong_of (unopened.OtherTexts place) device_why.Size u w =
      absurd (w.2 (subst (λ (b : List (List ℕ)). IsSize g.typing.specs (length b))
      (same_Some u.0 w.0 (sym u.1 ∙ w.1)) u.2.0))
  wrong_of (unopened.OtherTexts place) device_why.NoDatabase u w =
      absurd (w.2.1 (subst (λ (b : List (List ℕ)). HasMagic (length b) (get_or b 0 []))
      (same_Some u.0 w.0 (sym u.1 ∙ w.1)) u.2.1))
  wrong_of (unopened.OtherTexts place) (device_why.OtherEquation other) u w =
      let area = text_area (schema_text g.schema) (equation_text g.definitions) in
      inr (inr (ap (λ (n : ℕ). ending.Device (device_why.OtherEquation n))
      (differ_once (text_at (head_of w.0)) (λ q. slice_index_or area q 0) place other
      (subst (λ (b : List (List ℕ)). DifferFirst (text_at (head_of b))
      (λ q. slice_index_or area q 0) (Some place)) (same_Some u.0 w.0 (sym u.1 ∙ w.1)) u.2.2)
      w.2.2)))

  -- a device that is opened isn't wrong
  pub opened_right : (why : DeviceWhy) → OfBlocks device old (under g AreOpened)
      → IsWrong g device old why → ⊥
  opened_right device_why.Missing u w = both_there old device u.0 w u.1
  opened_right device_why.Exists u w = w
  opened_right device_why.Size u w =
      w.2 (subst (λ (b : List (List ℕ)). IsSize g.typing.specs (length b))
      (same_Some u.0 w.0 (sym u.1 ∙ w.1)) u.2.size)
  opened_right device_why.NoDatabase u w =
      w.2.1 (subst (λ (b : List (List ℕ)). HasMagic (length b) (get_or b 0 []))
      (same_Some u.0 w.0 (sym u.1 ∙ w.1)) u.2.magic)
  opened_right (device_why.OtherEquation place) u w =
      let area = text_area (schema_text g.schema) (equation_text g.definitions) in
      w.2.2.1 (subst (λ (b : List (List ℕ)). text_at (head_of b) place
      ≡ slice_index_or area place 0) (same_Some u.0 w.0 (sym u.1 ∙ w.1))
      (u.2.texts place w.2.2.0))
  opened_right (device_why.Damaged block) u w = w

-- one that has the size, the magic and the texts is refused for want of memory, or after a failed
-- call
pub opened_short : (g : Given) (device : List ℕ) (old : Content) (e : Unopened)
    → under g (IsUnopened device) old e → OfBlocks device old (under g AreOpened)
    → (e ≡ unopened.Fault) ⊎ (e ≡ unopened.NoMemory)
opened_short g device old unopened.Fault u o = inl refl
opened_short g device old unopened.NoMemory u o = inr refl
opened_short g device old unopened.Exists u o = absurd u.2
opened_short g device old unopened.Missing u o =
    absurd (opened_right g device old device_why.Missing o u)
opened_short g device old unopened.Size u o = absurd (opened_right g device old device_why.Size o u)
opened_short g device old unopened.NoDatabase u o =
    absurd (opened_right g device old device_why.NoDatabase o u)
opened_short g device old (unopened.OtherTexts place) u o =
    absurd (opened_right g device old (device_why.OtherEquation place) o u)

-- the refusal that has an ending
abbrev refusal_of : Ending → Unopened
refusal_of (ending.Device device_why.Missing) = unopened.Missing
refusal_of (ending.Device device_why.Exists) = unopened.Exists
refusal_of (ending.Device device_why.Size) = unopened.Size
refusal_of (ending.Device device_why.NoDatabase) = unopened.NoDatabase
refusal_of (ending.Device (device_why.OtherEquation place)) = unopened.OtherTexts place
refusal_of ending.NoMemory = unopened.NoMemory
refusal_of other = unopened.Fault

refusal_again : (e : Unopened) → refusal_of (unopened_ending e) ≡ e
refusal_again unopened.Missing = refl
refusal_again unopened.Exists = refl
refusal_again unopened.Size = refl
refusal_again unopened.NoDatabase = refl
refusal_again (unopened.OtherTexts place) = refl
refusal_again unopened.Fault = refl
refusal_again unopened.NoMemory = refl

refusal_is : (e : Unopened) (why : DeviceWhy) → unopened_ending e ≡ ending.Device why
    → e ≡ refusal_of (ending.Device why)
refusal_is e why is = sym (refusal_again e) ∙ ap refusal_of is

goes_short : (e : Unopened) → e ≡ unopened.NoMemory → not (is_fault e) ≡ true
goes_short e is = ap (λ f. not (is_fault f)) is

goes_on_for : (e : Unopened) (why : DeviceWhy) → unopened_ending e ≡ ending.Device why
    → not (is_fault e) ≡ true
goes_on_for unopened.Fault why is = absurd (never is)
  where
    never : ending.Fault ≡ ending.Device why → ⊥
    never f = cc
goes_on_for unopened.Missing why is = refl
goes_on_for unopened.Exists why is = refl
goes_on_for unopened.Size why is = refl
goes_on_for unopened.NoDatabase why is = refl
goes_on_for (unopened.OtherTexts place) why is = refl
goes_on_for unopened.NoMemory why is = refl

-- ---- what a try to open it left

-- of the device of that name, with leaves of the kinds of g
pub record IsTried (g : Given) (device : List ℕ) (old mid : Content) (e : Unopened) : Type 0 where
  pub unopened : under g (IsUnopened device) old e
  pub kept : (blocks : List (List ℕ)) → device_at old.now device ≡ Some blocks
      → OfBlocks device mid (ReadAlike blocks)
  pub recovered : (blocks : List (List ℕ)) → device_at old.now device ≡ Some blocks
      → OfBlocks device mid (IsRecoveryOf blocks)
  pub no_database : not (is_fault e) ≡ true → (blocks : List (List ℕ))
      → device_at old.now device ≡ Some blocks → ¬ HaveDatabase g.typing.specs blocks
      → device_at mid.now device ≡ Some blocks
  pub absent : device_at old.now device ≡ None → device_at mid.now device ≡ None
  pub crash : Unattached old mid ⊎ Opens device old mid
  pub refused : RefusesBy device old mid e
  pub attaches : Attaches device old mid

-- as open says it
pub tried : {M : Type 0} {h : device.Ghosts M} {v : page_view.Ghosts (Paged M h)} (g : Given)
    (name : List ℕ) (old : Content) (m : M) (e : Unopened)
    → LeavesNamed {v = v} name g.typing.specs old (Err (m, e))
    → under g (IsUnopened name) old e → Attaches name old (h.content m)
    → IsTried g name old (h.content m) e
tried g name old m e left unopened attaches = record {
  unopened = unopened;
  kept = left.kept;
  recovered = left.recovered;
  no_database = left.no_database;
  absent = left.absent;
  crash = left.crash;
  refused = left.refused;
  attaches = attaches;
}

module _ (g : Given) (device : List ℕ) (old mid new : Content) (e : Unopened) (s : Status)
    (t : IsTried g device old mid e) (same : SameDevices mid new) where
  now_there : (name : List ℕ) → device_at new.now name ≡ device_at mid.now name
  now_there name = same_device_at mid.now new.now name same.blocks same.shelf

  pub tried_absent : KeepsAbsent device old new
  tried_absent none = now_there device ∙ t.absent none

  pub tried_reads : (blocks : List (List ℕ)) → device_at old.now device ≡ Some blocks
      → OfBlocks device new (ReadAlike blocks)
  tried_reads blocks there =
      let k = t.kept blocks there in
      (k.0, now_there device ∙ k.1, k.2)

  unchanged : device_at old.now device ≡ None → Unattached old mid ⊎ Opens device old mid
      → IsUnchanged old.now new.now
  unchanged none (inl run) =
      subst (λ (m : Moment). IsUnchanged m new.now) run.now
      (unchanged_by mid.now new.now same.blocks same.pending same.shelf)
  unchanged none (inr o) = both_there old device o.middle.now.blocks none o.was

  -- what is left of a device that is wrong
  pub tried_stays : not (is_fault e) ≡ true → (why : DeviceWhy) → IsWrong g device old why
      → StaysWrong why device old new
  tried_stays goes device_why.Missing w = unchanged w t.crash
  tried_stays goes device_why.Exists w = absurd w
  tried_stays goes (device_why.Damaged block) w = absurd w
  tried_stays goes device_why.Size w =
      now_there device ∙ t.no_database goes w.0 w.1 (λ had. w.2 had.size) ∙ sym w.1
  tried_stays goes device_why.NoDatabase w =
      now_there device ∙ t.no_database goes w.0 w.1 (λ had. w.2.1 had.magic) ∙ sym w.1
  tried_stays goes (device_why.OtherEquation place) w = λ blocks there.
      let r = t.recovered blocks there in
      let k = t.kept blocks there in (
        r.0,
        now_there device ∙ r.1,
        (r.2, subst (ReadAlike blocks) (same_Some k.0 r.0 (sym k.1 ∙ r.1)) k.2),
      )

  none_now : NonePending mid → NonePending new
  none_now none n = ap (λ (ps : List Bool). get_or ps n false) same.pending ∙ none n

  -- and what is so of it where that was the answer
  tried_settled : (why : DeviceWhy) → IsWrong g device old why
      → unopened_ending e ≡ ending.Device why → IsSettledWrong why device new
  tried_settled device_why.Missing w is = tt
  tried_settled device_why.Exists w is = tt
  tried_settled device_why.Size w is = tt
  tried_settled (device_why.Damaged block) w is = tt
  tried_settled device_why.NoDatabase w is =
      none_now (subst (RefusesBy device old mid) (refusal_is e device_why.NoDatabase is)
      t.refused).1.1
  tried_settled (device_why.OtherEquation place) w is =
      let r = subst (RefusesBy device old mid) (refusal_is e (device_why.OtherEquation place) is)
      t.refused in (
        (
          mid.now.blocks,
          now_there device ∙ named_at mid.now device r.0.named,
          r.1.0,
        ),
        none_now r.1.1,
      )

  module _ (ended : IsEnded (unopened_ending e) mid new s)
      (moments : EndsThrough (unopened_ending e) mid new) where
    -- what a crash leaves
    pub tried_crash : CrashesOn device ReadsAsAttached old new
    tried_crash = elim t.crash [
      | inl run ↦ inl (unattached_idle old mid new run
          (ends_idle (unopened_ending e) (unopened_idle e) mid new moments))
      | inr o ↦ opens_refused device (unopened_ending e) old mid new o moments
    ]

    pub tried_script : new.script ≡ old.script
    tried_script = ended.words.script ∙ t.attaches.script

module _ (g : Given) (device : List ℕ) (old mid new : Content) (why : DeviceWhy)
    (said : mid.now.said ≡ old.now.said) where
  abbrev p : Promise
  p = finds_wrong g why device old

  -- the line of the reason, or that there was no memory
  said_wrong : (s : Status) → IsEnded (ending.Device why) mid new s → StaysWrong why device old new
      → IsSettledWrong why device new → IsSaid p old new s
  said_wrong status.Device e stays settled = record {
    whole = [];
    last = device_line why;
    says = ((refl, refl), stays, settled);
    said = e.words.said (λ f. cc) (λ f. cc) ∙ ap (λ t. t ++ device_line why) said;
  }
  said_wrong status.Memory e stays settled = record {
    whole = [];
    last = memory_line;
    says = ((refl, refl), stays);
    said = e.words.memory refl ∙ ap (λ t. t ++ memory_line) said;
  }
  said_wrong status.Outside e stays settled = cut (e.words.cut refl)
    where
      cut : IsCut (device_line why) memory_line mid new → IsSaid p old new status.Outside
      cut (count, inl line) = inl (record {
        meant = status.Device;
        whole = [];
        last = device_line why;
        says = ((refl, refl), stays, settled);
        count = count;
        said = line ∙ ap (λ t. t ++ take count (device_line why)) said;
      })
      cut (count, inr line) = inl (record {
        meant = status.Memory;
        whole = [];
        last = memory_line;
        says = ((refl, refl), stays);
        count = count;
        said = line ∙ ap (λ t. t ++ take count memory_line) said;
      })
  said_wrong status.Done e stays settled = absurd (never (e.due.status_is (λ f. cc) (λ f. cc)))
    where
      never : status.Done ≡ status.Device → ⊥
      never f = cc
  said_wrong status.Refused e stays settled = absurd (never (e.due.status_is (λ f. cc) (λ f. cc)))
    where
      never : status.Refused ≡ status.Device → ⊥
      never f = cc
  said_wrong status.Script e stays settled = absurd (never (e.due.status_is (λ f. cc) (λ f. cc)))
    where
      never : status.Script ≡ status.Device → ⊥
      never f = cc
  said_wrong status.Full e stays settled = absurd (never (e.due.status_is (λ f. cc) (λ f. cc)))
    where
      never : status.Full ≡ status.Device → ⊥
      never f = cc

  -- that there was no memory
  said_short : (s : Status) → IsEnded ending.NoMemory mid new s → StaysWrong why device old new
      → IsSaid p old new s
  said_short status.Memory e stays = record {
    whole = [];
    last = memory_line;
    says = ((refl, refl), stays);
    said = e.words.memory refl ∙ ap (λ t. t ++ memory_line) said;
  }
  said_short status.Outside e stays = cut (e.words.cut refl)
    where
      part : (count : ℕ) → new.now.said ≡ mid.now.said ++ take count memory_line
          → IsSaid p old new status.Outside
      part count line = inl (record {
        meant = status.Memory;
        whole = [];
        last = memory_line;
        says = ((refl, refl), stays);
        count = count;
        said = line ∙ ap (λ t. t ++ take count memory_line) said;
      })

      cut : IsCut memory_line memory_line mid new → IsSaid p old new status.Outside
      cut (count, inl line) = part count line
      cut (count, inr line) = part count line
  said_short status.Done e stays = absurd (never (e.due.status_is (λ f. cc) (λ f. cc)))
    where
      never : status.Done ≡ status.Memory → ⊥
      never f = cc
  said_short status.Refused e stays = absurd (never (e.due.status_is (λ f. cc) (λ f. cc)))
    where
      never : status.Refused ≡ status.Memory → ⊥
      never f = cc
  said_short status.Script e stays = absurd (never (e.due.status_is (λ f. cc) (λ f. cc)))
    where
      never : status.Script ≡ status.Memory → ⊥
      never f = cc
  said_short status.Full e stays = absurd (never (e.due.status_is (λ f. cc) (λ f. cc)))
    where
      never : status.Full ≡ status.Memory → ⊥
      never f = cc
  said_short status.Device e stays = absurd (never (e.due.status_is (λ f. cc) (λ f. cc)))
    where
      never : status.Device ≡ status.Memory → ⊥
      never f = cc

  -- nothing
  said_failed : (s : Status) → IsEnded ending.Fault mid new s
      → ((blocks : List (List ℕ)) → device_at old.now device ≡ Some blocks
      → OfBlocks device new (ReadAlike blocks)) → IsSaid p old new s
  said_failed s e reads =
      subst (IsSaid p old new) (sym (e.due.fault refl))
      (inr (record {
        told = [];
        breaks = (refl, reads);
        said = e.words.silent refl ∙ said ∙ sym (append-nil old.now.said);
      }))

-- ---- what is promised of it

-- A device that is wrong isn't opened, and what is promised of it is kept.
pub wrong_kept : (g : Given) (device : List ℕ) (old mid new : Content) (e : Unopened) (s : Status)
    → IsTried g device old mid e → SameDevices mid new → IsEnded (unopened_ending e) mid new s
    → EndsThrough (unopened_ending e) mid new
    → (why : DeviceWhy) → IsWrong g device old why
    → IsKept (finds_wrong g why device old) old new s
wrong_kept g device old mid new e s t same ended moments why w =
    let answers = wrong_of g device old e why t.unopened w in
    record {
      said = said answers;
      due = λ d is out. due answers d is out;
      leaves = (
        tried_absent g device old mid new e s t same,
        tried_script g device old mid new e s t same ended moments,
      );
      crashes = tried_crash g device old mid new e s t same ended moments;
    }
  where
    before : mid.now.said ≡ old.now.said
    before = t.attaches.said

    said : Answers e why → IsSaid (finds_wrong g why device old) old new s
    said (inl is) =
        said_failed g device old mid new why before s
        (subst (λ f. IsEnded (unopened_ending f) mid new s) is ended)
        (tried_reads g device old mid new e s t same)
    said (inr (inl is)) =
        said_short g device old mid new why before s
        (subst (λ f. IsEnded (unopened_ending f) mid new s) is ended)
        (tried_stays g device old mid new e s t same (goes_short e is) why w)
    said (inr (inr is)) =
        said_wrong g device old mid new why before s
        (subst (λ f. IsEnded f mid new s) is ended)
        (tried_stays g device old mid new e s t same (goes_on_for e why is) why w)
        (tried_settled g device old mid new e s t same why w is)

    due : Answers e why → (d : Status) → d ≡ status.Device → s ≢ status.Outside
        → (s ≡ d) ⊎ (s ≡ status.Memory)
    due (inl is) d d_is out =
        absurd (out ((subst (λ f. IsEnded (unopened_ending f) mid new s) is ended).due.fault refl))
    due (inr (inl is)) d d_is out =
        inr (elim (due_or_memory ending.NoMemory s
        (subst (λ f. IsEnded (unopened_ending f) mid new s) is ended).due out) [
          | inl same ↦ same
          | inr same ↦ same
        ])
    due (inr (inr is)) d d_is out =
        elim (due_or_memory (ending.Device why) s
        (subst (λ f. IsEnded f mid new s) is ended).due out) [
          | inl same ↦ inl (same ∙ sym d_is)
          | inr same ↦ inr same
        ]
