-- `run` and `share`: what is promised of a device that holds a state is kept.
use Rattle.std.proofs.Common.{◌≡◌, ◌∙◌, inl, inr, ℕ, zero, suc, Bool, true, false, List, [], ◌++◌, take, Some, Result, Ok, Err, refl, sym, ap, subst, append-nil, append_assoc}
use Rattle.std.specs.Prelude.{◌⊎◌, ◌≢◌, IfErr}
use Rattle.std.proofs.lemmas.Option.{same_Some}
use Rattle.gx_device.specs.Content.{Shelf, Content, device_at}
use Rattle.gx_device.specs.Crash.{Image, IsImage, EachImage, LeavesOnly}
use Rattle.gx_model.specs.States.{State}
use Rattle.gx_store.specs.Crashes.{IsFirstOf, IsOpeningImage, Opens, Unattached}
use Rattle.gx_store.specs.Device.{ReadAlike}
use Rattle.gx_store.specs.Store.{Attaches, OfBlocks}
use Rattle.gx_store.proofs.ShelfLemmas.{named_at}
use Rattle.gx_play.specs.declared.ending.Ending.{Ending}
use Rattle.gx_play.specs.declared.ending.Ending.TheVariants as ending
use Rattle.gx_play.specs.declared.status.Status.{Status}
use Rattle.gx_play.specs.declared.status.Status.TheVariants as status
use Rattle.gx_play.specs.Endings.{ending_line, memory_line, status_of, IsPlayEnding, is_fault, is_outside, IsEnded, IsFinished, FinishesThrough, EndsThrough}
use Rattle.gx_play.specs.Overs.{IsPlayedOf, IsImageOf}
use Rattle.gx_play.specs.Player.{Play, EndsWith, MayBeSaid, IsDueOf}
use Rattle.gx_play.specs.Say.{SameDevices, IsCut}
use Rattle.gx_operations.specs.Crashes.{CrashesOn, IsLeftOf}
use Rattle.gx_operations.specs.Given.{Given, HoldState, SettleState, IsHeldOn, IsSettledOn}
use Rattle.gx_operations.specs.Promises.{Promise, IsKept, IsSaid, SaysBroken}
use Rattle.gx_operations.specs.Runs.{IsRunImage, runs_from}
use Rattle.gx_operations.proofs.CrashLemmas.{reads_now, leaves_weaker, leaves_both, says_leaves, ends_leaves, opens_then, opens_reached, first_reached, opening_unsaid, unattached_idle, ends_idle_short}
use Rattle.gx_operations.proofs.EndedLemmas.{devices_same}
use Rattle.gx_operations.proofs.GivenLemmas.{hold_alike}
use Rattle.gx_operations.proofs.PlayerLemmas.{IsLawful}
use Rattle.gx_operations.proofs.WrongLemmas.{due_or_memory}
use Rattle.gx_operations.proofs.SaidLemmas.{Answers, answers_of, said_by, line_said, finished_due}

-- ---- a failed call

pub outside_or : (w : Ending) → (w ≡ ending.Fault) ⊎ (is_outside w ≡ false)
outside_or ending.Fault = inl refl
outside_or ending.Words = inr refl
outside_or (ending.Missing name) = inr refl
outside_or (ending.TooLong name) = inr refl
outside_or (ending.Schema line why) = inr refl
outside_or (ending.Equation line why) = inr refl
outside_or (ending.Type line why) = inr refl
outside_or ending.TextsTooLong = inr refl
outside_or (ending.Accepted summary) = inr refl
outside_or (ending.Line number why) = inr refl
outside_or ending.Full = inr refl
outside_or (ending.Device why) = inr refl
outside_or (ending.Made blocks pages) = inr refl
outside_or ending.NoMemory = inr refl

pub no_fault : (w : Ending) → is_outside w ≡ false → w ≢ ending.Fault
no_fault w is same = never (sym (ap is_outside same) ∙ is)
  where
    never : ◌≡◌ {A = Bool} true false → ⊥
    never f = cc

-- a play that ends before its last line isn't done
pub stop_undone : (w : Ending) → IsPlayEnding w → status_of w ≡ status.Done → ⊥
stop_undone (ending.Line number why) is f = cc
stop_undone ending.Fault is f = cc
stop_undone ending.NoMemory is f = cc
stop_undone ending.Full is f = cc
stop_undone (ending.Device wrong) is f = cc
stop_undone ending.Words is f = absurd is
stop_undone (ending.Missing name) is f = absurd is
stop_undone (ending.TooLong name) is f = absurd is
stop_undone (ending.Schema line why) is f = absurd is
stop_undone (ending.Equation line why) is f = absurd is
stop_undone (ending.Type line why) is f = absurd is
stop_undone ending.TextsTooLong is f = absurd is
stop_undone (ending.Accepted summary) is f = absurd is
stop_undone (ending.Made blocks pages) is f = absurd is

-- nothing of nothing
take_none : (n : ℕ) → ◌≡◌ {A = List ℕ} (take n []) []
take_none zero = refl
take_none (suc n) = refl

-- a device that opens, and then something follows, keeps its name
opens_shelf : (name : List ℕ) (old mid : Content) (o : Opens name old mid)
    → mid.now.shelf ≡ o.middle.now.shelf
opens_shelf name old mid o =
    elim (reads_now (IsOpeningImage o.middle.now) o.middle mid o.images) [
      | inl is ↦ is.shelf
      | inr is ↦ is.shelf
    ]

module _ {M : Type 0} (p : Play M) (g : Given) (device : List ℕ) (start : State) (old : Content)
    (held : IsHeldOn g device start old) (law : IsLawful p start) where
  abbrev pub Promised : Promise
  Promised = runs_from g device start p old

  -- what holds the state that is kept behind what was said
  behind_image : (middle : Content) (image : Image) (told : List ℕ) (m : M)
      → MayBeSaid p told m → image.said ≡ old.now.said ++ told
      → HoldState g (p.kept m) image.blocks
      → IsRunImage g p old middle image
  behind_image middle image told m may said holds = inr (told, m, may, said, holds)

  -- blocks that read as those which hold the state hold what is kept at the start of the play
  alike_there : (middle : Content) → device_at old.now device ≡ Some middle.now.blocks
      → (blocks : List (List ℕ)) → ReadAlike middle.now.blocks blocks
      → HoldState g (p.kept law.at) blocks
  alike_there middle was blocks alike =
      subst (λ (k : State). HoldState g k blocks) (sym law.kept)
      (hold_alike g start middle.now.blocks blocks alike
      (subst (HoldState g start) (same_Some held.0 middle.now.blocks (sym held.1 ∙ was)) held.2))

  -- while it is opened
  opening_image : (middle : Content) → device_at old.now device ≡ Some middle.now.blocks
      → middle.now.said ≡ old.now.said → (image : Image) → IsOpeningImage middle.now image
      → IsRunImage g p old middle image
  opening_image middle was before image (inl is) =
      inl (
        record { said = refl; shelf = is.shelf; count = is.count; same = is.same },
        (0, is.said ∙ before ∙ sym (append-nil old.now.said)),
      )
  opening_image middle was before image (inr is) =
      behind_image middle image [] law.at (inl law.front)
      (is.said ∙ before ∙ sym (append-nil old.now.said))
      (alike_there middle was image.blocks is.alike)

  -- the same, while the line is said that there was no memory
  opening_memory : (middle : Content) → device_at old.now device ≡ Some middle.now.blocks
      → (image : Image) (said : List ℕ) (count : ℕ)
      → IsOpeningImage middle.now (record image { said = said })
      → image.said ≡ old.now.said ++ take count memory_line → IsRunImage g p old middle image
  opening_memory middle was image said count (inl is) line =
      inl (
        record { said = refl; shelf = is.shelf; count = is.count; same = is.same },
        (count, line),
      )
  opening_memory middle was image said count (inr is) line =
      behind_image middle image (take count memory_line) law.at
      (inr (record {
        meant = status.Memory;
        answers = [];
        line = memory_line;
        ends = (law.first, refl);
        count = count;
        told_is = refl;
      })) line (alike_there middle was image.blocks is.alike)

  -- ---- it isn't opened

  module _ (mid new : Content) (s : Status) (w : Ending) (same : SameDevices mid new)
      (ended : IsEnded w mid new s) (moments : EndsThrough w mid new)
      (attaches : Attaches device old mid)
      (reads : (blocks : List (List ℕ)) → device_at old.now device ≡ Some blocks
      → OfBlocks device mid (ReadAlike blocks))
      (crash : Unattached old mid ⊎ Opens device old mid) where
    still_held : IsHeldOn g device start new
    still_held =
        let k = reads held.0 held.1 in
        (k.0, devices_same mid new same device ∙ k.1, hold_alike g start held.0 k.0 k.2 held.2)

    -- nothing was said, or a front of the line on memory
    unopened_crash : ((n : ℕ) → (k : ℕ) × (take n (ending_line w) ≡ take k memory_line))
        → CrashesOn device (IsRunImage g p old) old new
    unopened_crash short = elim crash [
      | inl run ↦ inl (unattached_idle old mid new run (ends_idle_short w short mid new moments))
      | inr o ↦
          let left = IsLeftOf (IsRunImage g p old) o.middle in
          let each = λ (image : Image) (count : ℕ)
          (is : IsImage mid.now (record image { said = mid.now.said }))
          (line : image.said ≡ mid.now.said ++ take count memory_line).
          let at = opening_unsaid device old mid o image is in
          let l : left image = record {
            is = opening_memory o.middle o.was image mid.now.said count at
                (line ∙ ap (λ t. t ++ take count memory_line) attaches.said);
            shelf = is.shelf ∙ opens_shelf device old mid o;
          } in
          l in
          opens_then (IsRunImage g p old) device old mid new o
          (opens_reached device w old mid new o moments)
          (opening_image o.middle o.was o.attached.rest.said)
          (ends_leaves left w mid new moments
          (λ image count is line. each image (short count).0 is
          (line ∙ ap (λ t. mid.now.said ++ t) (short count).1))
          (λ other image count is line. each image count is line))
    ]

    -- what is promised, where a call failed
    pub unopened_failed : w ≡ ending.Fault → IsKept Promised old new s
    unopened_failed fault =
        let out = ended.due.fault fault in
        record {
          said = subst (IsSaid Promised old new) (sym out) (inr (record {
            told = [];
            breaks = (
              law.at,
              law.front,
              subst (λ (k : State). IsHeldOn g device k new) (sym law.kept) still_held,
            );
            said = ended.words.silent fault ∙ attaches.said ∙ sym (append-nil old.now.said);
          }));
          due = λ d is other. absurd (other out);
          leaves = λ done. absurd (never (sym done ∙ out));
          crashes = unopened_crash
              (λ n. (0, ap (λ (f : Ending). take n (ending_line f)) fault ∙ take_none n));
        }
      where
        never : status.Done ≡ status.Outside → ⊥
        never f = cc

    -- and for want of memory
    short_said : (t : Status) → IsEnded ending.NoMemory mid new t → IsSaid Promised old new t
    short_said status.Memory e = record {
      whole = [];
      last = memory_line;
      says = inr (refl, (refl, refl), still_held);
      said = e.words.memory refl ∙ ap (λ t. t ++ memory_line) attaches.said;
    }
    short_said status.Outside e = cut (e.words.cut refl)
      where
        part : (count : ℕ) → new.now.said ≡ mid.now.said ++ take count memory_line
            → IsSaid Promised old new status.Outside
        part count line = inl (record {
          meant = status.Memory;
          whole = [];
          last = memory_line;
          says = inr (refl, (refl, refl), still_held);
          count = count;
          said = line ∙ ap (λ t. t ++ take count memory_line) attaches.said;
        })

        cut : IsCut memory_line memory_line mid new → IsSaid Promised old new status.Outside
        cut (count, inl line) = part count line
        cut (count, inr line) = part count line
    short_said status.Done e = absurd (never (e.due.status_is (λ f. cc) (λ f. cc)))
      where
        never : status.Done ≡ status.Memory → ⊥
        never f = cc
    short_said status.Refused e = absurd (never (e.due.status_is (λ f. cc) (λ f. cc)))
      where
        never : status.Refused ≡ status.Memory → ⊥
        never f = cc
    short_said status.Script e = absurd (never (e.due.status_is (λ f. cc) (λ f. cc)))
      where
        never : status.Script ≡ status.Memory → ⊥
        never f = cc
    short_said status.Full e = absurd (never (e.due.status_is (λ f. cc) (λ f. cc)))
      where
        never : status.Full ≡ status.Memory → ⊥
        never f = cc
    short_said status.Device e = absurd (never (e.due.status_is (λ f. cc) (λ f. cc)))
      where
        never : status.Device ≡ status.Memory → ⊥
        never f = cc

    not_done : IsEnded ending.NoMemory mid new s → s ≡ status.Done → ⊥
    not_done e done =
        never (sym done ∙ e.due.status_is (λ out. first (sym done ∙ out)) (λ is. never (sym done ∙ is)))
      where
        never : status.Done ≡ status.Memory → ⊥
        never f = cc

        first : status.Done ≡ status.Outside → ⊥
        first f = cc

    due_short : {d : Status} → (s ≡ status.Memory) ⊎ (s ≡ status.Memory)
        → (s ≡ d) ⊎ (s ≡ status.Memory)
    due_short (inl is) = inr is
    due_short (inr is) = inr is

    pub unopened_short : w ≡ ending.NoMemory → IsKept Promised old new s
    unopened_short short =
        let e : IsEnded ending.NoMemory mid new s =
        subst (λ (f : Ending). IsEnded f mid new s) short ended in
        record {
          said = short_said s e;
          due = λ d is out. due_short (due_or_memory ending.NoMemory s e.due out);
          leaves = λ done. absurd (not_done e done);
          crashes = unopened_crash
              (λ n. (n, ap (λ (f : Ending). take n (ending_line f)) short));
        }

  -- ---- it is opened and played on

  -- what the play leaves, before the line of its end is said
  pub record IsPlayedOn (opened mid : Content) (played : Result (Unit {0}) Ending) : Type 0 where
    pub opens : Opens device old opened
    pub first : IsFirstOf opens.middle opened
    pub attaches : Attaches device old opened
    pub answered : IsPlayedOf p
        (λ k. SettleState g k mid.now.blocks
        × (is_fault played ≡ false → EachImage (λ image. HoldState g k image.blocks) mid.now))
        opened.now.said mid.now.said played
    pub images : LeavesOnly (IsImageOf p (HoldState g) opened.now) opened mid
    pub heard : played ≡ Ok tt → mid.script ≡ []
    pub shelf : mid.now.shelf ≡ opened.now.shelf

  module _ (opened mid new : Content) (played : Result (Unit {0}) Ending) (s : Status)
      (run : IsPlayedOn opened mid played) (same : SameDevices mid new)
      (finished : IsFinished played mid new s) (moments : FinishesThrough played mid new) where
    abbrev Kept : State → Type 0
    Kept k = SettleState g k mid.now.blocks
        × (is_fault played ≡ false → EachImage (λ image. HoldState g k image.blocks) mid.now)

    before : opened.now.said ≡ old.now.said
    before = run.attaches.said

    -- the answers, from the request on
    abbrev As : Result (Unit {0}) Ending → Type 0
    As r = IsPlayedOf p Kept old.now.said mid.now.said r

    played_as : As played
    played_as =
        subst (λ (t : List ℕ). IsPlayedOf p Kept t mid.now.said played) before run.answered

    there : mid.now.shelf.name ≡ Some device
    there = ap (λ (x : Shelf). x.name) run.shelf ∙ run.opens.named

    settled_on : (k : State) → SettleState g k mid.now.blocks → IsSettledOn g device k new
    settled_on k settled =
        (mid.now.blocks, devices_same mid new same device ∙ named_at mid.now device there, settled)

    -- an image while it is played
    play_image : (image : Image) → IsImageOf p (HoldState g) opened.now image
        → IsLeftOf (IsRunImage g p old) run.opens.middle image
    play_image image is = record {
      is = inr (
        is.told,
        is.final,
        inl is.front,
        is.said ∙ ap (λ t. t ++ is.told) before,
        is.holds,
      );
      shelf = is.shelf ∙ opens_shelf device old opened run.opens;
    }

    mid_image : (image : Image) → IsImage mid.now image
        → IsLeftOf (IsRunImage g p old) run.opens.middle image
    mid_image image is = play_image image (run.images.now image is)

    -- an image at the end with nothing more said
    same_image : (image : Image) → IsImage mid.now (record image { said = mid.now.said })
        → image.said ≡ mid.now.said → IsLeftOf (IsRunImage g p old) run.opens.middle image
    same_image image is said = mid_image image (record {
      said = said;
      shelf = is.shelf;
      count = is.count;
      same = is.same;
    })

    -- what stands behind the answers
    abbrev Behind : Ending → Type 0
    Behind w = Answers p start law Kept old.now.said mid.now.said (status_of w) (ending_line w)

    -- after an end that is no failed call
    behind_end : (w : Ending) → As (Err w) → is_outside w ≡ false → Behind w
    behind_end w is calm =
        elim (answers_of p start law Kept old.now.said mid.now.said w is) [
          | inl a ↦ a
          | inr f ↦ absurd (no_fault w calm f.0)
        ]

    -- an image while a line is said behind the answers
    told_image : (image : Image) → IsImage mid.now (record image { said = mid.now.said })
        → is_fault played ≡ false → (w : Ending) (a : Behind w) (meant : Status) (line : List ℕ)
        → EndsWith p meant a.answers a.final line → (count : ℕ)
        → image.said ≡ mid.now.said ++ take count line
        → IsLeftOf (IsRunImage g p old) run.opens.middle image
    told_image image is calm w a meant line ends count said = record {
      is = inr (
        a.answers ++ take count line,
        a.final,
        inr (record {
          meant = meant;
          answers = a.answers;
          line = line;
          ends = ends;
          count = count;
          told_is = refl;
        }),
        said ∙ ap (λ t. t ++ take count line) a.said
            ∙ append_assoc old.now.said a.answers (take count line),
        a.holds.1 calm (record image { said = mid.now.said }) is,
      );
      shelf = is.shelf ∙ run.shelf ∙ opens_shelf device old opened run.opens;
    }

    abbrev Left : Image → Type 0
    Left = IsLeftOf (IsRunImage g p old) run.opens.middle

    finish_images : (r : Result (Unit {0}) Ending) → r ≡ played → As r → FinishesThrough r mid new
        → LeavesOnly Left mid new
    finish_images (Ok x) is out through =
        says_leaves Left [] mid new through
        (λ image count at said. same_image image at
        (said ∙ ap (λ t. mid.now.said ++ t) (take_none count) ∙ append-nil mid.now.said))
    finish_images (Err w) is out through = ends_leaves Left w mid new through
        (λ image count at said. line image count at said (outside_or w))
        (λ other image count at said. memory image count at said other (outside_or w))
      where
        line : (image : Image) (count : ℕ)
            → IsImage mid.now (record image { said = mid.now.said })
            → image.said ≡ mid.now.said ++ take count (ending_line w)
            → (w ≡ ending.Fault) ⊎ (is_outside w ≡ false) → Left image
        line image count at said (inl fault) =
            same_image image at
            (said ∙ ap (λ (f : Ending). mid.now.said ++ take count (ending_line f)) fault
            ∙ ap (λ t. mid.now.said ++ t) (take_none count) ∙ append-nil mid.now.said)
        line image count at said (inr calm) =
            let a = behind_end w out calm in
            told_image image at (ap is_fault (sym is) ∙ calm) w a (status_of w) (ending_line w) a.ends
            count said

        memory : (image : Image) (count : ℕ)
            → IsImage mid.now (record image { said = mid.now.said })
            → image.said ≡ mid.now.said ++ take count memory_line → w ≢ ending.Fault
            → (w ≡ ending.Fault) ⊎ (is_outside w ≡ false) → Left image
        memory image count at said other (inl fault) = absurd (other fault)
        memory image count at said other (inr calm) =
            let a = behind_end w out calm in
            told_image image at (ap is_fault (sym is) ∙ calm) w a status.Memory memory_line a.memory
            count said

    played_crash : CrashesOn device (IsRunImage g p old) old new
    played_crash =
        let leaves = leaves_both Left opened mid new
        (leaves_weaker (IsImageOf p (HoldState g) opened.now) Left play_image opened mid run.images)
        (finish_images played refl played_as moments) in
        opens_then (IsRunImage g p old) device old opened new run.opens
        (first_reached run.opens.middle opened new run.first Left leaves)
        (opening_image run.opens.middle run.opens.was run.opens.attached.rest.said) leaves

    -- ---- what was said

    -- after a failed call, what is kept behind what was said
    broken : new.now.said ≡ mid.now.said → SaysBroken Promised old new
    broken silent =
        let is = reads_now (IsImageOf p (HoldState g) opened.now) opened mid run.images in
        record {
          told = is.told;
          breaks = (
            is.final,
            is.front,
            (
              mid.now.blocks,
              devices_same mid new same device ∙ named_at mid.now device there,
              is.holds,
            ),
          );
          said = silent ∙ is.said ∙ ap (λ t. t ++ is.told) before;
        }

    says : (t : Status) (answers line : List ℕ) (m : M) → EndsWith p t answers m line
        → Kept (p.kept m) → Promised.Says t answers line new
    says t answers line m ends kept = inl (m, ends, settled_on (p.kept m) kept.0)

    play_said : (r : Result (Unit {0}) Ending) → As r → IsFinished r mid new s
        → IsSaid Promised old new s
    play_said (Ok x) out ends =
        said_by Promised old new s (λ other. record {
          whole = out.answers;
          last = [];
          says = says s out.answers [] out.final
              (subst (λ (t : Status). EndsWith p t out.answers out.final []) (sym ends.0)
              (out.stands, refl)) out.holds;
          said = ap (λ (c : Content). c.now.said) ends.1 ∙ out.said
              ∙ ap (λ t. old.now.said ++ t) (sym (append-nil out.answers));
        }) (λ is. absurd (never (sym ends.0 ∙ is)))
      where
        never : status.Done ≡ status.Outside → ⊥
        never f = cc
    play_said (Err w) out ends = by_fault (outside_or w)
      where
        by_fault : (w ≡ ending.Fault) ⊎ (is_outside w ≡ false) → IsSaid Promised old new s
        by_fault (inl fault) =
            said_by Promised old new s (λ other. absurd (other (ends.due.fault fault)))
            (λ is. inr (broken (ends.words.silent fault)))
        by_fault (inr calm) =
            let a = behind_end w out calm in
            line_said Promised w old mid new a.answers a.said
            (says (status_of w) a.answers (ending_line w) a.final a.ends a.holds)
            (says status.Memory a.answers memory_line a.final a.memory a.holds) s ends

    play_due : (d : Status) → IsDueOf p d → s ≢ status.Outside → (s ≡ d) ⊎ (s ≡ status.Memory)
    play_due d is out =
        finished_due p start law Kept Promised old mid new says (λ t due. due) played s played_as
        finished d is out

    play_heard : (r : Result (Unit {0}) Ending) → r ≡ played → IfErr r IsPlayEnding
        → IsFinished r mid new s → s ≡ status.Done → new.script ≡ []
    play_heard (Ok x) is play ends done =
        ap (λ (c : Content). c.script) ends.1 ∙ run.heard (sym is)
    play_heard (Err w) is play ends done =
        absurd (stop_undone w play (sym (ends.due.status_is
        (λ out. never (sym done ∙ out)) (λ short. short_never (sym done ∙ short))) ∙ done))
      where
        never : status.Done ≡ status.Outside → ⊥
        never f = cc

        short_never : status.Done ≡ status.Memory → ⊥
        short_never f = cc

    -- what is promised is kept
    pub run_kept : IfErr played IsPlayEnding → IsKept Promised old new s
    run_kept play = record {
      said = play_said played played_as finished;
      due = play_due;
      leaves = play_heard played refl play finished;
      crashes = played_crash;
    }
