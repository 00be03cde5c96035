-- What `inspect` promises is kept.
use Rattle.std.proofs.Common.{◌≡◌, ◌∙◌, inl, inr, ℕ, ◌<◌, List, [], ◌++◌, length, take, Some, Result, Ok, Err, refl, sym, ap, subst, arith}
use Rattle.std.specs.Prelude.{◌⊎◌, ◌≢◌, IfErr}
use Rattle.std.proofs.lemmas.Option.{same_Some}
use Rattle.gx_device.specs.Content.{Shelf, Content, Silent, device_at}
use Rattle.gx_device.specs.Crash.{Image, IsImage, LeavesOnly}
use Rattle.gx_ports.specs.declared.kinds.LeafSpec.{LeafSpec}
use Rattle.gx_ports.specs.LeafMaps.{LeafMap}
use Rattle.gx_schema.specs.declared.schema.Schema.{Schema}
use Rattle.gx_types.specs.declared.built.Built.{Built}
use Rattle.gx_schema.specs.Printing.{schema_text}
use Rattle.gx_equation.specs.Printing.{equation_text}
use Rattle.gx_model.specs.States.{State}
use Rattle.gx_states.specs.Internal.{AreInternal}
use Rattle.gx_states.proofs.ToldLemmas.{state_told}
use Rattle.gx_store.specs.Crashes.{IsFirstOf, IsReached, IsReplayed, IsOpeningImage, Opens}
use Rattle.gx_store.specs.Device.{IsSize, ReadAlike, Reopens, IsSettled}
use Rattle.gx_store.specs.Opening.{AreOpened, IsUnopened}
use Rattle.gx_store.specs.Store.{Attaches, OfBlocks}
use Rattle.gx_store.specs.declared.unopened.Unopened.{Unopened}
use Rattle.gx_store.specs.declared.unopened.Unopened.TheVariants as unopened
use Rattle.gx_store.proofs.AlikeLemmas.{alike_back, reopens_alike}
use Rattle.gx_store.proofs.ShelfLemmas.{named_at}
use Rattle.gx_play.specs.declared.ending.DeviceWhy.TheVariants as device_why
use Rattle.gx_play.specs.declared.ending.Ending.{Ending}
use Rattle.gx_play.specs.declared.ending.Ending.TheVariants as ending
use Rattle.gx_play.specs.declared.status.Status.{Status}
use Rattle.gx_play.specs.declared.status.Status.TheVariants as status
use Rattle.gx_play.specs.Endings.{unopened_ending, IsStatusFor, IsEnded, IsTold, TellsThrough, EndsThrough, status_of, device_line, ending_line, memory_line}
use Rattle.gx_play.specs.Say.{SameDevices}
use Rattle.gx_requests.specs.declared.opened.Stored.{Stored}
use Rattle.gx_requests.specs.Checked.{IsStored}
use Rattle.gx_operations.specs.Crashes.{IsLeftOf, CrashesOn, ReadsAsAttached}
use Rattle.gx_operations.specs.Damage.{IsDamageBelow}
use Rattle.gx_operations.specs.Examined.{IsExamined, IsFoundIn, inspect_text}
use Rattle.gx_operations.specs.Given.{Given, under, IsInternalOf, HoldState, IsHeldOn, IsStateless, IsStoredAs}
use Rattle.gx_operations.specs.Inspects.{TellsOf, IsSoundImage, inspects_sound, StayUnsound, IsUnsoundImage, inspects_unsound, InspectsOn}
use Rattle.gx_operations.specs.Promises.{Promise, IsKept, IsSaid}
use Rattle.gx_operations.specs.Wrong.{IsDamageLine}
use Rattle.gx_operations.proofs.CrashLemmas.{reads_now, leaves_weaker, leaves_both, says_leaves, ends_leaves, ends_idle, unopened_idle, unattached_idle, opens_reached, first_reached, opening_reads, opening_unsaid, opens_then, opening_shelf}
use Rattle.gx_operations.proofs.EndedLemmas.{ended_said, ended_due}
use Rattle.gx_operations.proofs.GivenLemmas.{hold_alike, settle_holds, under_given, internal_given, internal_stored}
use Rattle.gx_operations.proofs.UnchangedLemmas.{same_device_at}
use Rattle.gx_operations.proofs.WrongLemmas.{IsTried, tried_reads, opened_right, wrong_kept}

-- ---- a crash

-- what reads as it did when it was attached, while a text is said
says_left : (found : Result (List ℕ) Ending) (middle mid new : Content)
    → TellsThrough found mid new
    → ((image : Image) → IsImage mid.now (record image { said = mid.now.said })
    → IsLeftOf ReadsAsAttached middle image)
    → LeavesOnly (IsLeftOf ReadsAsAttached middle) mid new
says_left (Ok text) middle mid new run each =
    says_leaves (IsLeftOf ReadsAsAttached middle) text mid new run
    (λ image count is said. each image is)
says_left (Err why) middle mid new run each =
    ends_leaves (IsLeftOf ReadsAsAttached middle) why mid new run
    (λ image count is said. each image is) (λ other image count is said. each image is)

-- the device is opened, and then a crash leaves what reads as it did when it was attached
read_crashes : (P : Content → Image → Type 0) (name : List ℕ) (old opened new : Content)
    (o : Opens name old opened)
    → IsReached o.middle new
    → ((image : Image) → ReadsAsAttached o.middle image → P o.middle image)
    → LeavesOnly (IsLeftOf ReadsAsAttached o.middle) opened new → CrashesOn name P old new
read_crashes P name old opened new o reached each run =
    opens_then P name old opened new o reached
    (λ image is. each image (opening_reads o.middle image image.said is))
    (leaves_weaker (IsLeftOf ReadsAsAttached o.middle) (IsLeftOf P o.middle)
    (λ image l. record { is = each image l.is; shelf = l.shelf }) opened new run)

-- what such an image holds, where the device held a state
sound_image : (g : Given) (s : State) (middle : Content) → HoldState g s middle.now.blocks
    → (image : Image) → ReadsAsAttached middle image → IsSoundImage g s middle image
sound_image g s middle held image (inl is) = inl is
sound_image g s middle held image (inr alike) =
    inr (hold_alike g s middle.now.blocks image.blocks alike held)

-- blocks that read as before
stay_unsound : (g : Given) (old new : List (List ℕ)) → ReadAlike old new → StayUnsound g old new
stay_unsound g old new alike = record {
  keeps = λ maps. reopens_alike (schema_text g.schema) (equation_text g.definitions)
      g.typing.specs maps old new alike;
  reads = λ none. alike;
}

unsound_image : (g : Given) (middle : Content) (image : Image) → ReadsAsAttached middle image
    → IsUnsoundImage g middle image
unsound_image g middle image (inl is) = inl is
unsound_image g middle image (inr alike) =
    inr (stay_unsound g middle.now.blocks image.blocks alike)

-- a state that the device of that name holds is held by its blocks
held_by : (g : Given) (device : List ℕ) (s : State) (c : Content) (blocks : List (List ℕ))
    → device_at c.now device ≡ Some blocks → IsHeldOn g device s c → HoldState g s blocks
held_by g device s c blocks there held =
    subst (HoldState g s) (same_Some held.0 blocks (sym held.1 ∙ there)) held.2

-- a device of such a size has a block
some_blocks : (specs : List LeafSpec) (blocks : ℕ) → IsSize specs blocks → 0 < blocks
some_blocks specs blocks is = omega (arith, is.least)

-- what is said of the texts that are stored
pub given_texts : (g : Given) (x : Stored) (of : IsStoredAs g x)
    (P : List ℕ → List ℕ → List LeafSpec → Type 0) (schema equation : List ℕ)
    (specs : List LeafSpec) → schema ≡ x.schema_text → equation ≡ x.equation_text
    → specs ≡ x.built.specs → P schema equation specs → under g P
given_texts g x of P schema equation specs a b c is =
    under_given g x of P
    (subst (λ t. P t x.equation_text x.built.specs) a
    (subst (λ t. P schema t x.built.specs) b (subst (λ k. P schema equation k) c is)))

-- ---- the status

-- no other ending is said to be done
not_done : (why : Ending) (s : Status) → IsStatusFor why s → (status_of why ≡ status.Done → ⊥)
    → s ≡ status.Done → ⊥
not_done why s is never done = never (sym (is.status_is (λ e. cc) (λ e. cc)) ∙ done)

unopened_not_done : (e : Unopened) → status_of (unopened_ending e) ≡ status.Done → ⊥
unopened_not_done unopened.Missing is = cc
unopened_not_done unopened.Exists is = cc
unopened_not_done unopened.Size is = cc
unopened_not_done unopened.NoDatabase is = cc
unopened_not_done (unopened.OtherTexts place) is = cc
unopened_not_done unopened.Fault is = cc
unopened_not_done unopened.NoMemory is = cc

-- ---- a device that isn't opened

-- one that has the size, the magic and the texts isn't opened for want of memory, or since a call
-- failed
stopped_why : (g : Given) (device : List ℕ) (old : Content) (e : Unopened)
    → OfBlocks device old (under g AreOpened) → under g (IsUnopened device) old e
    → (e ≡ unopened.Fault) ⊎ (e ≡ unopened.NoMemory)
stopped_why g device old unopened.Fault had is = inl refl
stopped_why g device old unopened.NoMemory had is = inr refl
stopped_why g device old unopened.Exists had is = absurd is.2
stopped_why g device old unopened.Missing had is =
    absurd (opened_right g device old device_why.Missing had is)
stopped_why g device old unopened.Size had is =
    absurd (opened_right g device old device_why.Size had is)
stopped_why g device old unopened.NoDatabase had is =
    absurd (opened_right g device old device_why.NoDatabase had is)
stopped_why g device old (unopened.OtherTexts place) had is =
    absurd (opened_right g device old (device_why.OtherEquation place) had is)

held_opened : (g : Given) (device : List ℕ) (s : State) (c : Content) → IsHeldOn g device s c
    → OfBlocks device c (under g AreOpened)
held_opened g device s c held = (
  held.0,
  held.1,
  record {
    size = held.2.reopens.size;
    magic = held.2.reopens.magic;
    texts = held.2.reopens.texts;
  },
)

module _ (g : Given) (device : List ℕ) (old mid new : Content) (e : Unopened) (s : Status)
    (t : IsTried g device old mid e) (same : SameDevices mid new)
    (ended : IsEnded (unopened_ending e) mid new s)
    (ends : EndsThrough (unopened_ending e) mid new) where
  -- a promise of which only want of memory is said
  stopped_said : (p : Promise) → p.Says status.Memory [] memory_line new
      → (e ≡ unopened.Fault) ⊎ (e ≡ unopened.NoMemory) → IsSaid p old new s
  stopped_said p memory (inl fault) =
      ended_said p old mid new t.attaches.said memory (unopened_ending e)
      (inl (ap unopened_ending fault)) s ended
  stopped_said p memory (inr none) =
      ended_said p old mid new t.attaches.said memory (unopened_ending e)
      (inr (subst (λ (u : Unopened). p.Says (status_of (unopened_ending u)) []
      (ending_line (unopened_ending u)) new) (sym none) memory)) s ended

  stopped_due : (due : Status) → (e ≡ unopened.Fault) ⊎ (e ≡ unopened.NoMemory)
      → s ≢ status.Outside → (s ≡ due) ⊎ (s ≡ status.Memory)
  stopped_due due (inl fault) =
      ended_due (unopened_ending e) mid new s ended due (inr (inl (ap unopened_ending fault)))
  stopped_due due (inr none) =
      ended_due (unopened_ending e) mid new s ended due (inr (inr (ap unopened_ending none)))

  stopped_crashes : (P : Content → Image → Type 0)
      → ((o : Opens device old mid) (image : Image) → ReadsAsAttached o.middle image
      → P o.middle image) → CrashesOn device P old new
  stopped_crashes P each = elim t.crash [
    | inl none ↦ inl (unattached_idle old mid new none
        (ends_idle (unopened_ending e) (unopened_idle e) mid new ends))
    | inr o ↦ read_crashes P device old mid new o
        (opens_reached device (unopened_ending e) old mid new o ends) (each o)
        (says_left (Err (unopened_ending e)) o.middle mid new ends (λ image is.
        let at = opening_unsaid device old mid o image is in
        record {
          is = opening_reads o.middle image mid.now.said at;
          shelf = opening_shelf o.middle.now (record image { said = mid.now.said }) at;
        }))
  ]

  unheard : new.script ≡ old.script
  unheard = ended.words.script ∙ t.attaches.script

  unopened_sound : (state : State) → IsHeldOn g device state old
      → IsKept (inspects_sound g device state old) old new s
  unopened_sound state held =
      let why = stopped_why g device old e (held_opened g device state old held) t.unopened in
      let reads = tried_reads g device old mid new e s t same held.0 held.1 in
      record {
        said = stopped_said (inspects_sound g device state old) (refl, refl) why;
        due = λ d is. subst (λ (x : Status). s ≢ status.Outside → (s ≡ x) ⊎ (s ≡ status.Memory))
            (sym is) (stopped_due status.Done why);
        leaves = (
          (reads.0, reads.1, hold_alike g state held.0 reads.0 reads.2 held.2),
          unheard,
        );
        crashes = stopped_crashes (IsSoundImage g state) (λ o.
            sound_image g state o.middle (held_by g device state old o.middle.now.blocks o.was
            held));
      }

  unopened_unsound : IsStateless g device old
      → IsKept (inspects_unsound g device old) old new s
  unopened_unsound none =
      let why = stopped_why g device old e none.opened t.unopened in
      record {
        said = stopped_said (inspects_unsound g device old) (refl, refl) why;
        due = λ d is. subst (λ (x : Status). s ≢ status.Outside → (s ≡ x) ⊎ (s ≡ status.Memory))
            (sym is) (stopped_due status.Device why);
        leaves = (
          (λ blocks there.
              let reads = tried_reads g device old mid new e s t same blocks there in
              (reads.0, reads.1, stay_unsound g blocks reads.0 reads.2)),
          unheard,
        );
        crashes = stopped_crashes (IsUnsoundImage g) (λ o. unsound_image g o.middle);
      }

  pub unopened_kept : InspectsOn g device old new s
  unopened_kept = record {
    wrong = wrong_kept g device old mid new e s t same ended ends;
    sound = unopened_sound;
    unsound = unopened_unsound;
    found = λ done. absurd
        (not_done (unopened_ending e) s ended.due (unopened_not_done e) done);
  }

-- ---- a device that was examined

-- why no text is found
by_unfound : (schema : Schema) (built : Built) (maps : List LeafMap) (whole : Type 0)
    (P : Ending → Type 0) (why : Ending) → IsExamined schema built maps whole (Err why)
    → ((block : ℕ) → (whole → (s : State) → ¬ AreInternal schema built maps s)
    → P (ending.Device (device_why.Damaged block)))
    → P ending.NoMemory → P ending.Fault → P why
by_unfound schema built maps whole P (ending.Device (device_why.Damaged block)) is damage memory
    fault = damage block is
by_unfound schema built maps whole P ending.NoMemory is damage memory fault = memory
by_unfound schema built maps whole P ending.Fault is damage memory fault = fault
by_unfound schema built maps whole P (ending.Device device_why.Missing) is d m f = absurd is
by_unfound schema built maps whole P (ending.Device device_why.Exists) is d m f = absurd is
by_unfound schema built maps whole P (ending.Device device_why.Size) is d m f = absurd is
by_unfound schema built maps whole P (ending.Device device_why.NoDatabase) is d m f = absurd is
by_unfound schema built maps whole P (ending.Device (device_why.OtherEquation place)) is d m f =
    absurd is
by_unfound schema built maps whole P ending.Full is d m f = absurd is
by_unfound schema built maps whole P ending.Words is d m f = absurd is
by_unfound schema built maps whole P (ending.Missing name) is d m f = absurd is
by_unfound schema built maps whole P (ending.TooLong name) is d m f = absurd is
by_unfound schema built maps whole P (ending.Schema line why) is d m f = absurd is
by_unfound schema built maps whole P (ending.Equation line why) is d m f = absurd is
by_unfound schema built maps whole P (ending.Type line why) is d m f = absurd is
by_unfound schema built maps whole P ending.TextsTooLong is d m f = absurd is
by_unfound schema built maps whole P (ending.Accepted summary) is d m f = absurd is
by_unfound schema built maps whole P (ending.Line number why) is d m f = absurd is
by_unfound schema built maps whole P (ending.Made blocks pages) is d m f = absurd is

-- What opening the device of that name under these texts gave, and what was then found of it: of what
-- was before, of the machine with the device, `opened`, and of that after it was closed, `mid`.
pub record IsSeen (x : Stored) (device : List ℕ) (old opened mid : Content) (maps : List LeafMap)
    (whole : Type 0) (found : Result (List ℕ) Ending) (schema equation : List ℕ)
    (specs : List LeafSpec) : Type 0 where
  pub attaches : Attaches device old opened
  pub opens : Opens device old opened
  pub first : IsFirstOf opens.middle opened
  pub had : AreOpened schema equation specs opens.middle.now.blocks
  pub alike : ReadAlike opens.middle.now.blocks opened.now.blocks
  pub holds : (others : List LeafMap)
      → Reopens schema equation specs others opens.middle.now.blocks → whole × (others ≡ maps)
  pub reopens : whole → IsSettled schema equation specs maps opened.now.blocks
  pub reads : LeavesOnly (IsReplayed opened.now) opened mid
  pub silent : Silent opened mid
  pub examined : IsExamined x.schema x.built maps whole found
  pub damage : IfErr found (IsDamageBelow (length mid.now.blocks))
  pub settled : whole → IsSettled schema equation specs maps mid.now.blocks

module _ (g : Given) (x : Stored) (of : IsStoredAs g x) (stored : IsStored x) (device : List ℕ)
    (old opened mid : Content) (maps : List LeafMap) (whole : Type 0)
    (found : Result (List ℕ) Ending) (seen : under g (IsSeen x device old opened mid maps whole found))
    (new : Content) (s : Status) (told : IsTold found mid new s)
    (through : TellsThrough found mid new) (same : SameDevices mid new)
    (unheard : new.script ≡ mid.script) where
  abbrev middle : Content
  middle = seen.opens.middle

  said : mid.now.said ≡ old.now.said
  said = seen.silent.said ∙ seen.attaches.said

  script : new.script ≡ old.script
  script = unheard ∙ seen.silent.script ∙ seen.attaches.script

  there : device_at new.now device ≡ Some mid.now.blocks
  there = same_device_at mid.now new.now device same.blocks same.shelf
      ∙ named_at mid.now device (ap (λ (h : Shelf). h.name) seen.silent.shelf ∙ seen.opens.named)

  -- the same is read from the blocks as from those that were attached
  alike_both : (blocks : List (List ℕ)) → ReadAlike opened.now.blocks blocks
      → ReadAlike middle.now.blocks blocks
  alike_both blocks is = record {
    count = is.count ∙ seen.alike.count;
    head = is.head ∙ seen.alike.head;
    pages = is.pages ∙ seen.alike.pages;
  }

  alike : ReadAlike middle.now.blocks mid.now.blocks
  alike = alike_both mid.now.blocks (reads_now (IsReplayed opened.now) opened mid seen.reads).alike

  left : (image : Image) → IsReplayed opened.now image → IsLeftOf ReadsAsAttached middle image
  left image is = record {
    is = inr (alike_both image.blocks is.alike);
    shelf = is.shelf
        ∙ opening_shelf middle.now _
        (reads_now (IsOpeningImage middle.now) middle opened seen.opens.images);
  }

  crashes : (P : Content → Image → Type 0)
      → ((image : Image) → ReadsAsAttached middle image → P middle image)
      → CrashesOn device P old new
  crashes P each =
      let run : LeavesOnly (IsLeftOf ReadsAsAttached middle) opened new =
      leaves_both (IsLeftOf ReadsAsAttached middle) opened mid new
      (leaves_weaker (IsReplayed opened.now) (IsLeftOf ReadsAsAttached middle) left opened mid
      seen.reads)
      (says_left found middle mid new through (λ image is.
      let l = left (record image { said = mid.now.said })
      (seen.reads.now (record image { said = mid.now.said }) is) in
      record { is = l.is; shelf = l.shelf })) in
      read_crashes P device old opened new seen.opens
      (first_reached middle opened new seen.first (IsLeftOf ReadsAsAttached middle) run) each run

  -- ---- what was found

  -- the state of a text was held before
  found_held : (text : List ℕ) (f : IsFoundIn x.schema x.built maps whole text)
      → IsHeldOn g device f.state old
  found_held text f = (
    middle.now.blocks,
    seen.opens.was,
    hold_alike g f.state opened.now.blocks middle.now.blocks
        (alike_back middle.now.blocks opened.now.blocks seen.alike)
        (settle_holds g f.state opened.now.blocks (record {
          maps = maps;
          settled = seen.reopens f.is_whole;
          internal = internal_given g x of maps f.state f.internal;
        })),
  )

  held_before : (r : Result (List ℕ) Ending) → IsExamined x.schema x.built maps whole r
      → IsTold r mid new s → s ≡ status.Done → (state : State) × IsHeldOn g device state old
  held_before (Ok text) f is done = (f.state, found_held text f)
  held_before (Err why) f ended done =
      absurd (not_done why s ended.due
      (by_unfound x.schema x.built maps whole (λ w. status_of w ≡ status.Done → ⊥) why f
      (λ block no e. cc) (λ e. cc) (λ e. cc)) done)

  -- ---- it holds a state

  module _ (state : State) (held : IsHeldOn g device state old) where
    held_middle : HoldState g state middle.now.blocks
    held_middle = held_by g device state old middle.now.blocks seen.opens.was held

    inside : whole × AreInternal x.schema x.built maps state
    inside =
        let at = seen.holds held_middle.maps held_middle.reopens in (
          at.0,
          internal_stored g x of maps state
              (subst (λ (m : List LeafMap). IsInternalOf g m state) at.1 held_middle.internal),
        )

    -- the text tells of that state
    tells_of : (text : List ℕ) → IsFoundIn x.schema x.built maps whole text
        → TellsOf g device state new text
    tells_of text f =
        let is : f.state ≡ state =
        state_told x.schema x.built (length x.built.specs) maps f.state state stored.can_play.0
        f.internal inside.1 in
        record {
          settled = (
            mid.now.blocks,
            there,
            record {
              maps = maps;
              settled = seen.settled f.is_whole;
              internal = internal_given g x of maps state inside.1;
            },
          );
          text_is = f.text_is
              ∙ (λ i. inspect_text (of.schema i) (of.specs i) (of.owners i) maps (is i));
        }

    abbrev sound_promise : Promise
    sound_promise = inspects_sound g device state old

    sound_said : (r : Result (List ℕ) Ending) → IsExamined x.schema x.built maps whole r
        → IsTold r mid new s → IsSaid sound_promise old new s
    sound_said (Ok text) f (inl done) =
        subst (IsSaid sound_promise old new) (sym done.0) (record {
          whole = [];
          last = text;
          says = (refl, tells_of text f);
          said = done.1 ∙ ap (λ (l : List ℕ). l ++ text) said;
        })
    sound_said (Ok text) f (inr cut) =
        subst (IsSaid sound_promise old new) (sym cut.0) (inl (record {
          meant = status.Done;
          whole = [];
          last = text;
          says = (refl, tells_of text f);
          count = cut.1.0;
          said = cut.1.1 ∙ ap (λ (l : List ℕ). l ++ take cut.1.0 text) said;
        }))
    sound_said (Err why) f ended =
        ended_said sound_promise old mid new said (refl, refl) why
        (by_unfound x.schema x.built maps whole (λ w. (w ≡ ending.Fault)
        ⊎ sound_promise.Says (status_of w) [] (ending_line w) new) why f
        (λ block none. absurd (none inside.0 state inside.1)) (inr (refl, refl)) (inl refl)) s ended

    sound_due : (r : Result (List ℕ) Ending) → IsExamined x.schema x.built maps whole r
        → IsTold r mid new s → s ≢ status.Outside → (s ≡ status.Done) ⊎ (s ≡ status.Memory)
    sound_due (Ok text) f (inl done) outside = inl done.0
    sound_due (Ok text) f (inr cut) outside = absurd (outside cut.0)
    sound_due (Err why) f ended outside =
        ended_due why mid new s ended status.Done
        (by_unfound x.schema x.built maps whole (λ w. (status_of w ≡ status.Done)
        ⊎ ((w ≡ ending.Fault) ⊎ (w ≡ ending.NoMemory))) why f
        (λ block none. absurd (none inside.0 state inside.1)) (inr (inr refl)) (inr (inl refl)))
        outside

    examined_sound : IsKept (inspects_sound g device state old) old new s
    examined_sound = record {
      said = sound_said found seen.examined told;
      due = λ d is outside. subst (λ (t : Status). (s ≡ t) ⊎ (s ≡ status.Memory)) (sym is)
          (sound_due found seen.examined told outside);
      leaves = (
        (
          mid.now.blocks,
          there,
          hold_alike g state middle.now.blocks mid.now.blocks alike held_middle,
        ),
        script,
      );
      crashes = crashes (IsSoundImage g state) (sound_image g state middle held_middle);
    }

  -- ---- it holds none

  module _ (none : IsStateless g device old) where
    -- no text is found
    no_text : (text : List ℕ) → IsFoundIn x.schema x.built maps whole text → ⊥
    no_text text f = none.none f.state (found_held text f)

    -- the device has a block
    some : 0 < length middle.now.blocks
    some = some_blocks g.typing.specs (length middle.now.blocks) seen.had.size

    damaged : (r : Result (List ℕ) Ending) (block : ℕ)
        → IfErr r (IsDamageBelow (length mid.now.blocks))
        → r ≡ Err (ending.Device (device_why.Damaged block))
        → IsDamageLine device old (device_line (device_why.Damaged block))
    damaged r block below is =
        let fits : 0 < length mid.now.blocks → block < length mid.now.blocks =
        subst (λ (r : Result (List ℕ) Ending). IfErr r (IsDamageBelow (length mid.now.blocks))) is
        below in
        let many = alike.count in
        let some = some in
        let less = fits (omega (arith, many, some)) in (
          block,
          (middle.now.blocks, seen.opens.was, omega (arith, many, less)),
          refl,
        )

    abbrev unsound_promise : Promise
    unsound_promise = inspects_unsound g device old

    unsound_said : (r : Result (List ℕ) Ending) → IsExamined x.schema x.built maps whole r
        → IfErr r (IsDamageBelow (length mid.now.blocks))
        → IsTold r mid new s → IsSaid unsound_promise old new s
    unsound_said (Ok text) f below done = absurd (no_text text f)
    unsound_said (Err why) f below ended =
        ended_said unsound_promise old mid new said (refl, refl) why
        (by_unfound x.schema x.built maps whole (λ w. ◌≡◌ {A = Result (List ℕ) Ending} (Err why)
        (Err w) → (w ≡ ending.Fault) ⊎ unsound_promise.Says (status_of w) [] (ending_line w) new) why f
        (λ block no is. inr (refl, damaged (Err why) block below is))
        (λ is. inr (refl, refl)) (λ is. inl refl) refl) s ended

    unsound_due : (r : Result (List ℕ) Ending) → IsExamined x.schema x.built maps whole r
        → IsTold r mid new s → s ≢ status.Outside → (s ≡ status.Device) ⊎ (s ≡ status.Memory)
    unsound_due (Ok text) f done outside = absurd (no_text text f)
    unsound_due (Err why) f ended outside =
        ended_due why mid new s ended status.Device
        (by_unfound x.schema x.built maps whole (λ w. (status_of w ≡ status.Device)
        ⊎ ((w ≡ ending.Fault) ⊎ (w ≡ ending.NoMemory))) why f
        (λ block no. inl refl) (inr (inr refl)) (inr (inl refl))) outside

    examined_unsound : IsKept (inspects_unsound g device old) old new s
    examined_unsound = record {
      said = unsound_said found seen.examined seen.damage told;
      due = λ d is outside. subst (λ (t : Status). (s ≡ t) ⊎ (s ≡ status.Memory)) (sym is)
          (unsound_due found seen.examined told outside);
      leaves = (
        (λ blocks at. (
          mid.now.blocks,
          there,
          stay_unsound g blocks mid.now.blocks
              (subst (λ (b : List (List ℕ)). ReadAlike b mid.now.blocks)
              (same_Some middle.now.blocks blocks (sym seen.opens.was ∙ at)) alike),
        )),
        script,
      );
      crashes = crashes (IsUnsoundImage g) (unsound_image g middle);
    }

  pub examined_kept : InspectsOn g device old new s
  examined_kept = record {
    wrong = λ why is. absurd (opened_right g device old why
        (middle.now.blocks, seen.opens.was, seen.had) is);
    sound = examined_sound;
    unsound = examined_unsound;
    found = held_before found seen.examined told;
  }
