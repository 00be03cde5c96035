-- `make`: its promise, from what making leaves of the device, what is said then, and what a crash
-- leaves of both.
use Rattle.std.proofs.Common.{◌≡◌, ◌∙◌, inl, inr, ℕ, zero, suc, List, [], ◌++◌, true, false, take, length, get_or, Option, Some, None, Result, Ok, Err, refl, sym, ap, subst, arith}
use Rattle.std.specs.Prelude.{◌⊎◌, OnOk, IfErr, is_some, replicate}
use Rattle.std.specs.FinMap.{empty}
use Rattle.std.proofs.lemmas.List.{append-nil, append_cancel_left}
use Rattle.gx_device.specs.Content.{Moment, Content, device_at, is_pending}
use Rattle.gx_device.specs.Crash.{Image, IsImage, LeavesOnly}
use Rattle.gx_ports.specs.declared.kinds.LeafSpec.{LeafSpec}
use Rattle.gx_ports.specs.LeafMaps.{LeafMap}
use Rattle.gx_schema.specs.declared.schema.Schema.{Schema}
use Rattle.gx_schema.specs.Printing.{schema_text}
use Rattle.gx_equation.specs.Printing.{equation_text}
use Rattle.gx_layout.specs.Layout.{pages_of}
use Rattle.gx_model.specs.States.{empty_state}
use Rattle.gx_states.proofs.StartLemmas.{start_state}
use Rattle.gx_store.specs.Device.{IsSize}
use Rattle.gx_store.specs.Crashes.{Unattached, Makes, IsNewImage}
use Rattle.gx_store.specs.Making.{IsUnmade, IsMadeBy, LeavesMaking}
use Rattle.gx_store.specs.Store.{Attaches}
use Rattle.gx_store.specs.declared.unopened.Unopened.{Unopened}
use Rattle.gx_store.specs.declared.unopened.Unopened.TheVariants as unopened
use Rattle.gx_play.specs.declared.ending.DeviceWhy.{DeviceWhy}
use Rattle.gx_play.specs.declared.ending.DeviceWhy.TheVariants as device_why
use Rattle.gx_play.specs.declared.ending.Ending.{Ending}
use Rattle.gx_play.specs.declared.ending.Ending.TheVariants as ending
use Rattle.gx_play.specs.declared.status.Status.{Status}
use Rattle.gx_play.specs.declared.status.Status.TheVariants as status
use Rattle.gx_play.specs.Endings.{IsEnded, EndsThrough, ending_line, memory_line, made_line, status_of}
use Rattle.gx_play.specs.Say.{SameDevices}
use Rattle.gx_operations.specs.Making.{IsUnmakable, making_ending}
use Rattle.gx_requests.specs.declared.opened.Stored.{Stored}
use Rattle.gx_requests.specs.Checked.{IsStored}
use Rattle.gx_operations.specs.Given.{Given, under, IsStoredAs, IsInternalOf, HoldState}
use Rattle.gx_operations.specs.Promises.{Promise, IsKept}
use Rattle.gx_operations.specs.Crashes.{IsIdleLine, IsLeftOf, CrashesOn}
use Rattle.gx_operations.specs.Makes.{makes_none, makes_one, IsNew, IsMakeImage, MakesOn}
use Rattle.gx_operations.proofs.GivenLemmas.{under_given, internal_given}
use Rattle.gx_operations.proofs.UnchangedLemmas.{unchanged_by, attached_crashes}
use Rattle.gx_operations.proofs.CrashLemmas.{leaves_weaker, leaves_both, ends_leaves, ends_unchanged, ends_idle, unattached_then, unattached_idle}
use Rattle.gx_operations.proofs.EndedLemmas.{devices_same, ended_due, ended_said}

-- what is said of texts and kinds that were read out of what is stored
pub told_texts : (x : Stored) (schema equation : List ℕ) (specs : List LeafSpec)
    (P : List ℕ → List ℕ → List LeafSpec → Type 0) → schema ≡ x.schema_text
    → equation ≡ x.equation_text → specs ≡ x.built.specs → P schema equation specs
    → P x.schema_text x.equation_text x.built.specs
told_texts x schema equation specs P a b c is =
    subst (λ t. P t x.equation_text x.built.specs) a (subst (λ e. P schema e x.built.specs) b
    (subst (λ k. P schema equation k) c is))

-- no device that may be made can't be
pub not_both : (specs : List LeafSpec) (device : List ℕ) (count : ℕ) (before : Content)
    (why : DeviceWhy) → IsSize specs count → device_at before.now device ≡ None
    → IsUnmakable specs device count before why → ⊥
not_both specs device count before device_why.Exists size free h =
    never (sym (ap (λ (o : Option (List (List ℕ))). is_some o) free) ∙ h.1)
  where
    never : false ≡ true → ⊥
    never e = cc
not_both specs device count before device_why.Size size free h = h size
not_both specs device count before device_why.Missing size free h = h
not_both specs device count before device_why.NoDatabase size free h = h
not_both specs device count before (device_why.OtherEquation place) size free h = h
not_both specs device count before (device_why.Damaged block) size free h = h

-- ---- it isn't made

module _ (specs : List LeafSpec) (device : List ℕ) (count : ℕ) (old mid : Content)
    (why : DeviceWhy) (un : IsUnmakable specs device count old why) where
  -- so nothing changed
  pub unmade_still : (schema equation : List ℕ)
      → Unattached old mid ⊎ Makes device count schema equation specs old mid → Unattached old mid
  unmade_still schema equation (inl still) = still
  unmade_still schema equation (inr made) =
      absurd (not_both specs device count old why made.fits made.free un)

  -- and its ending tells it, but for want of memory or a failed call
  pub unmade_why : (w : Unopened) → IsUnmade device count specs old w
      → (making_ending count (Err w) ≡ ending.Device why)
      ⊎ (making_ending count (Err w) ≡ ending.Fault)
      ⊎ (making_ending count (Err w) ≡ ending.NoMemory)
  unmade_why unopened.Fault is = inr (inl refl)
  unmade_why unopened.NoMemory is = inr (inr refl)
  unmade_why unopened.Exists is = inl (exists why un)
    where
      exists : (v : DeviceWhy) → IsUnmakable specs device count old v
          → ending.Device device_why.Exists ≡ ending.Device v
      exists device_why.Exists h = refl
      exists device_why.Size h = absurd (h is.0)
      exists device_why.Missing h = absurd h
      exists device_why.NoDatabase h = absurd h
      exists (device_why.OtherEquation place) h = absurd h
      exists (device_why.Damaged block) h = absurd h
  unmade_why unopened.Size is = inl (sized why un)
    where
      sized : (v : DeviceWhy) → IsUnmakable specs device count old v
          → ending.Device device_why.Size ≡ ending.Device v
      sized device_why.Exists h = absurd (is h.0)
      sized device_why.Size h = refl
      sized device_why.Missing h = absurd h
      sized device_why.NoDatabase h = absurd h
      sized (device_why.OtherEquation place) h = absurd h
      sized (device_why.Damaged block) h = absurd h
  unmade_why unopened.Missing is = absurd is
  unmade_why unopened.NoDatabase is = absurd is
  unmade_why (unopened.OtherTexts place) is = absurd is

  -- the promise, by the ending
  module _ (new : Content) (s : Status) (e : Ending) (still : Unattached old mid)
      (script : mid.script ≡ old.script) (ended : IsEnded e mid new s)
      (devices : SameDevices mid new) (through : EndsThrough e mid new)
      (is : (e ≡ ending.Device why) ⊎ (e ≡ ending.Fault) ⊎ (e ≡ ending.NoMemory)) where
    abbrev Unmade : Promise
    Unmade = makes_none why device old

    unmade_line : (e ≡ ending.Fault) ⊎ Unmade.Says (status_of e) [] (ending_line e) new
    unmade_line = elim is [
      | inl told ↦ inr
          (subst (λ (w : Ending). Unmade.Says (status_of w) [] (ending_line w) new) (sym told)
          (refl, refl))
      | inr (inl fault) ↦ inl fault
      | inr (inr none) ↦ inr
          (subst (λ (w : Ending). Unmade.Says (status_of w) [] (ending_line w) new) (sym none)
          (refl, refl))
    ]

    unmade_due : (status_of e ≡ status.Device) ⊎ (e ≡ ending.Fault) ⊎ (e ≡ ending.NoMemory)
    unmade_due = elim is [
      | inl told ↦ inl (ap status_of told)
      | inr other ↦ inr other
    ]

    pub unmade_kept : IsKept Unmade old new s
    unmade_kept = record {
      said = ended_said Unmade old mid new
          (ap (λ (m : Moment). m.said) still.now) (refl, refl) e unmade_line s ended;
      due = λ d is outside. ended_due e mid new s ended d
          (subst (λ (t : Status). (status_of e ≡ t) ⊎ (e ≡ ending.Fault) ⊎ (e ≡ ending.NoMemory))
          (sym is) unmade_due) outside;
      leaves = (
        unchanged_by old.now new.now (devices.blocks ∙ ap (λ (m : Moment). m.blocks) still.now)
            (devices.pending ∙ ap (λ (m : Moment). m.pending) still.now)
            (devices.shelf ∙ ap (λ (m : Moment). m.shelf) still.now),
        ended.words.script ∙ script,
      );
      crashes = unattached_then old mid new still (ends_unchanged e mid new through);
    }

-- ---- it is made, or not for want of memory or a failed call

-- no device is both there and not
pub none_there : (blocks : List (List ℕ)) → ◌≡◌ {A = Option (List (List ℕ))} None (Some blocks) → ⊥
none_there blocks wrong = cc

-- a front of the line of want of memory isn't that of a device that was made
pub not_made_line : (n blocks pages : ℕ) → take n memory_line ≡ made_line blocks pages → ⊥
not_made_line zero blocks pages is =
    let first : 0 ≡ 109 = ap (λ (l : List ℕ). get_or l 0 0) is in absurd (omega (arith, first))
not_made_line (suc n) blocks pages is =
    let first : 115 ≡ 109 = ap (λ (l : List ℕ). get_or l 0 0) is in absurd (omega (arith, first))

no_made_line : (n blocks pages : ℕ) → ◌≡◌ {A = List ℕ} (take n []) (made_line blocks pages) → ⊥
no_made_line zero blocks pages is =
    let first : 0 ≡ 109 = ap (λ (l : List ℕ). get_or l 0 0) is in absurd (omega (arith, first))
no_made_line (suc n) blocks pages is =
    let first : 0 ≡ 109 = ap (λ (l : List ℕ). get_or l 0 0) is in absurd (omega (arith, first))

module _ (g : Given) (device : List ℕ) (count : ℕ) (old mid new : Content) where
  abbrev pub IsMadeFor : Type 0
  IsMadeFor = IsMadeBy device count (schema_text g.schema) (equation_text g.definitions)
      g.typing.specs old mid

  abbrev pub Empties : List LeafMap
  Empties = replicate (length g.typing.specs) empty

  -- how it ended
  pub record WasMade (e : Ending) : Type 0 where
    pub ending_is : e ≡ ending.Made count (pages_of count)
    pub made : IsMadeFor

  pub made_ways : (r : Result (Unit {0}) Unopened) → IsSize g.typing.specs count
      → device_at old.now device ≡ None → OnOk r IsMadeFor
      → IfErr r (IsUnmade device count g.typing.specs old)
      → WasMade (making_ending count r) ⊎ (making_ending count r ≡ ending.Fault)
      ⊎ (making_ending count r ≡ ending.NoMemory)
  made_ways (Ok x) size free made un = inl (record { ending_is = refl; made = made })
  made_ways (Err unopened.Fault) size free made un = inr (inl refl)
  made_ways (Err unopened.NoMemory) size free made un = inr (inr refl)
  made_ways (Err unopened.Exists) size free made un =
      absurd (never (sym (ap (λ (o : Option (List (List ℕ))). is_some o) free) ∙ un.1))
    where
      never : false ≡ true → ⊥
      never e = cc
  made_ways (Err unopened.Size) size free made un = absurd (un size)
  made_ways (Err unopened.Missing) size free made un = absurd un
  made_ways (Err unopened.NoDatabase) size free made un = absurd un
  made_ways (Err (unopened.OtherTexts place)) size free made un = absurd un

  module _ (empties : IsInternalOf g Empties (empty_state g.schema)) (e : Ending)
      (devices : SameDevices mid new)
      (ways : WasMade e ⊎ (e ≡ ending.Fault) ⊎ (e ≡ ending.NoMemory)) where
    new_made : IsMadeFor → IsNew g device count new
    new_made made =
        let there = devices_same mid new devices device ∙ made.is.1 in
        record {
          made = (made.is.0, there, made.is.2);
          empty = (
            made.is.0,
            there,
            record { maps = Empties; settled = made.is.2.settled; internal = empties },
          );
          rests = λ n.
              (λ i. is_pending (record mid.now { pending = devices.pending i }) n)
              ∙ made.none_pending n;
        }

    abbrev Made : Promise
    Made = makes_one g device count old

    made_says : (e ≡ ending.Fault) ⊎ Made.Says (status_of e) [] (ending_line e) new
    made_says = elim ways [
      | inl was ↦ inr
          (subst (λ (w : Ending). Made.Says (status_of w) [] (ending_line w) new)
          (sym was.ending_is) (refl, (refl, new_made was.made)))
      | inr (inl fault) ↦ inl fault
      | inr (inr none) ↦ inr
          (subst (λ (w : Ending). Made.Says (status_of w) [] (ending_line w) new)
          (sym none) (refl, refl))
    ]

    made_due : (status_of e ≡ status.Done) ⊎ (e ≡ ending.Fault) ⊎ (e ≡ ending.NoMemory)
    made_due = elim ways [
      | inl was ↦ inl (ap status_of was.ending_is)
      | inr other ↦ inr other
    ]

    -- ---- what a crash leaves

    -- the whole line is said of a device that was made alone
    held_line : (image : Image) (n : ℕ)
        → IsImage mid.now (record image { said = mid.now.said })
        → take n (ending_line e) ≡ made_line count (pages_of count)
        → HoldState g (empty_state g.schema) image.blocks
    held_line image n is line = elim ways [
      | inl was ↦ record {
        maps = Empties;
        reopens = was.made.each (record image { said = mid.now.said }) is;
        internal = empties;
      }
      | inr (inl fault) ↦ absurd (no_made_line n count (pages_of count)
          (sym (ap (λ (w : Ending). take n (ending_line w)) fault) ∙ line))
      | inr (inr none) ↦ absurd (not_made_line n count (pages_of count)
          (sym (ap (λ (w : Ending). take n (ending_line w)) none) ∙ line))
    ]

    module _ (middle : Content) (same : middle.now.said ≡ old.now.said)
        (before : mid.now.said ≡ old.now.said) (many : length middle.now.blocks ≡ count) where
      abbrev Left : Image → Type 0
      Left = IsLeftOf (IsMakeImage g count old) middle

      abbrev New : Image → Type 0
      New = IsNewImage (schema_text g.schema) (equation_text g.definitions) g.typing.specs Empties
          middle.now

      -- while it is made
      made_image : (image : Image) → New image → Left image
      made_image image is = record {
        is = record {
          is = (is.count ∙ many, is.is);
          done = λ said. absurd (no_made_line 0 count (pages_of count)
              (append_cancel_left old.now.said [] (made_line count (pages_of count))
              (append-nil old.now.said ∙ sym (is.said ∙ same) ∙ said)));
        };
        shelf = is.shelf;
      }

      -- while its line is said
      line_image : (image : Image) (text : List ℕ)
          → New (record image { said = mid.now.said }) → image.said ≡ mid.now.said ++ text
          → (text ≡ made_line count (pages_of count)
          → HoldState g (empty_state g.schema) image.blocks) → Left image
      line_image image text is said held = record {
        is = record {
          is = (is.count ∙ many, is.is);
          done = λ all. held (append_cancel_left old.now.said text (made_line count (pages_of count))
              (ap (λ (t : List ℕ). t ++ text) (sym before) ∙ sym said ∙ all));
        };
        shelf = is.shelf;
      }

      make_leaves : LeavesOnly New middle mid → EndsThrough e mid new → LeavesOnly Left middle new
      make_leaves images through =
          leaves_both Left middle mid new
          (leaves_weaker New Left made_image middle mid images)
          (ends_leaves Left e mid new through
          (λ image n is said. line_image image (take n (ending_line e))
          (images.now (record image { said = mid.now.said }) is) said (held_line image n is))
          (λ other image n is said. line_image image (take n memory_line)
          (images.now (record image { said = mid.now.said }) is) said
          (λ line. absurd (not_made_line n count (pages_of count) line))))

    -- ---- the promise

    pub made_kept : (r : Result (Unit {0}) Unopened) (s : Status)
        → device_at old.now device ≡ None
        → LeavesMaking device count (schema_text g.schema) (equation_text g.definitions)
        g.typing.specs old mid r
        → Attaches device old mid → IsEnded e mid new s → EndsThrough e mid new
        → IsKept Made old new s
    made_kept r s free left rest ended through = record {
      said = ended_said Made old mid new rest.said (refl, refl) e made_says
          s ended;
      due = λ d is outside. ended_due e mid new s ended d
          (subst (λ (t : Status). (status_of e ≡ t) ⊎ (e ≡ ending.Fault) ⊎ (e ≡ ending.NoMemory))
          (sym is) made_due) outside;
      leaves = (
        λ blocks there.
            let was = sym (devices_same mid new devices device) ∙ there in
            (left.begun free blocks was, left.left free blocks was),
        ended.words.script ∙ rest.script,
      );
      crashes = elim left.crash [
        | inl still ↦ elim ways [
          | inl was ↦ crash_made was.made.makes
          | inr (inl fault) ↦ idle_crash still (inl (ap ending_line fault))
          | inr (inr none) ↦ idle_crash still (inr (inl (ap ending_line none)))
        ]
        | inr makes ↦ crash_made makes
      ];
    }
      where
        idle_crash : Unattached old mid → IsIdleLine (ending_line e)
            → CrashesOn device (IsMakeImage g count old) old new
        idle_crash still idle =
            inl (unattached_idle old mid new still (ends_idle e idle mid new through))

        crash_made : Makes device count (schema_text g.schema) (equation_text g.definitions)
            g.typing.specs old mid → CrashesOn device (IsMakeImage g count old) old new
        crash_made makes =
            attached_crashes device (IsMakeImage g count old) old makes.middle new makes.attached
            (λ blocks there. absurd (none_there blocks (sym makes.free ∙ there)))
            (inl (inl makes.none_pending))
            (make_leaves makes.middle makes.attached.rest.said rest.said makes.count makes.images
            through)

  -- ---- the request

  pub make_kept : (r : Result (Unit {0}) Unopened) (s : Status)
      → IsInternalOf g Empties (empty_state g.schema) → OnOk r IsMadeFor
      → IfErr r (IsUnmade device count g.typing.specs old)
      → LeavesMaking device count (schema_text g.schema) (equation_text g.definitions)
      g.typing.specs old mid r
      → Attaches device old mid → IsEnded (making_ending count r) mid new s
      → SameDevices mid new → EndsThrough (making_ending count r) mid new
      → MakesOn g device count old new s
  make_kept r s empties made un left rest ended devices through = record {
    unmakable = λ why wrong.
        unmade_kept g.typing.specs device count old mid why wrong new s (making_ending count r)
        (unmade_still g.typing.specs device count old mid why wrong (schema_text g.schema)
        (equation_text g.definitions) left.crash)
        rest.script ended devices through (unmade_ways why wrong r made un);
    makable = λ size free.
        made_kept empties (making_ending count r) devices (made_ways r size free made un) r s free
        left rest ended through;
  }
    where
      unmade_ways : (why : DeviceWhy) → IsUnmakable g.typing.specs device count old why
          → (q : Result (Unit {0}) Unopened) → OnOk q IsMadeFor
          → IfErr q (IsUnmade device count g.typing.specs old)
          → (making_ending count q ≡ ending.Device why)
          ⊎ (making_ending count q ≡ ending.Fault)
          ⊎ (making_ending count q ≡ ending.NoMemory)
      unmade_ways why wrong (Ok x) made un =
          absurd (not_both g.typing.specs device count old why made.makes.fits made.makes.free wrong)
      unmade_ways why wrong (Err w) made un =
          unmade_why g.typing.specs device count old mid why wrong w un

-- the empty state in the nodes that are stored
empties_given : (g : Given) (x : Stored) → IsStoredAs g x → IsStored x
    → IsInternalOf g (replicate (length g.typing.specs) empty) (empty_state g.schema)
empties_given g x of stored =
    subst (λ (ks : List LeafSpec). IsInternalOf g (replicate (length ks) empty)
    (empty_state g.schema)) of.specs
    (subst (λ (k : Schema). IsInternalOf g (replicate (length x.built.specs) empty) (empty_state k))
    of.schema
    (internal_given g x of (replicate (length x.built.specs) empty) (empty_state x.schema)
    (start_state x.schema x.built (length x.built.specs) (length x.built.specs) stored.can_play.0)))

-- the same of texts and kinds of leaves that are read out of what is stored
pub make_told : (g : Given) (x : Stored) → IsStoredAs g x → IsStored x
    → (schema equation : List ℕ) (specs : List LeafSpec) → schema ≡ x.schema_text
    → equation ≡ x.equation_text → specs ≡ x.built.specs → (device : List ℕ) (count : ℕ)
    (old mid new : Content) (r : Result (Unit {0}) Unopened) (e : Ending) (s : Status)
    → OnOk r (IsMadeBy device count schema equation specs old mid)
    → IfErr r (IsUnmade device count specs old)
    → LeavesMaking device count schema equation specs old mid r → Attaches device old mid
    → e ≡ making_ending count r → IsEnded e mid new s → SameDevices mid new
    → EndsThrough e mid new → MakesOn g device count old new s
make_told g x of stored schema equation specs a b c device count old mid new r e s made un left rest
    is ended devices through =
    make_kept g device count old mid new r s (empties_given g x of stored)
    (given (λ t w ks. OnOk r (IsMadeBy device count t w ks old mid)) made)
    (given (λ t w ks. IfErr r (IsUnmade device count ks old)) un)
    (given (λ t w ks. LeavesMaking device count t w ks old mid r) left) rest
    (subst (λ (w : Ending). IsEnded w mid new s) is ended) devices
    (subst (λ (w : Ending). EndsThrough w mid new) is through)
  where
    given : (P : List ℕ → List ℕ → List LeafSpec → Type 0) → P schema equation specs → under g P
    given P holds = under_given g x of P (told_texts x schema equation specs P a b c holds)
