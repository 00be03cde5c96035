-- `run` and `share`: what is promised is kept, whatever the device holds.
use Rattle.std.proofs.Common.{◌≡◌, ◌∙◌, inl, inr, ℕ, ◌<◌, false, List, [], ◌++◌, length, Some, Result, Ok, Err, refl, sym, ap, subst, append-nil, arith}
use Rattle.std.specs.Prelude.{◌⊎◌, IfErr}
use Rattle.gx_device.specs.Content.{Content, device_at}
use Rattle.gx_device.specs.Crash.{Image, EachImage, LeavesOnly}
use Rattle.gx_device.specs.Quiet.{IsPrefix}
use Rattle.gx_ports.specs.declared.kinds.LeafSpec.{LeafSpec}
use Rattle.gx_ports.specs.Heads.{Head}
use Rattle.gx_ports.specs.LeafMaps.{LeafMap, Limits}
use Rattle.gx_schema.specs.declared.schema.Schema.{Schema}
use Rattle.gx_schema.specs.Printing.{schema_text}
use Rattle.gx_equation.specs.Printing.{equation_text}
use Rattle.gx_types.specs.declared.built.Built.{Built}
use Rattle.gx_model.specs.States.{State}
use Rattle.gx_model.specs.Play.{End}
use Rattle.gx_states.specs.Internal.{AreInternal}
use Rattle.gx_store.specs.Crashes.{IsFirstOf, IsOpeningImage, Opens}
use Rattle.gx_store.specs.Device.{IsHeadOf, IsSettled, Reopens, ground_on}
use Rattle.gx_store.specs.Opening.{AreOpened}
use Rattle.gx_store.specs.Store.{Attaches, OfBlocks}
use Rattle.gx_store.specs.declared.unopened.Unopened.{Unopened}
use Rattle.gx_store.specs.declared.unopened.Unopened.TheVariants as unopened
use Rattle.gx_store.proofs.StoredLemmas.{stored_reopens}
use Rattle.gx_states.specs.Built.{IsBuiltOf}
use Rattle.gx_play.specs.declared.ending.DeviceWhy.TheVariants as device_why
use Rattle.gx_play.specs.declared.ending.Ending.{Ending}
use Rattle.gx_play.specs.declared.ending.Ending.TheVariants as ending
use Rattle.gx_play.specs.declared.status.Status.{Status}
use Rattle.gx_play.specs.declared.status.Status.TheVariants as status
use Rattle.gx_play.specs.Endings.{ending_line, status_of, device_line, is_fault, is_outside, unopened_ending, IsPlayEnding, IsEnded, IsFinished, EndsThrough, FinishesThrough}
use Rattle.gx_play.specs.Overs.{IsPlayedOf, IsImageOf}
use Rattle.gx_play.specs.Player.{Play}
use Rattle.gx_play.specs.Readings.{EndsAs}
use Rattle.gx_play.specs.Say.{SameDevices}
use Rattle.gx_operations.specs.Damage.{IsDamageBelow}
use Rattle.gx_operations.specs.Given.{Given, under, HoldState, SettleState, IsHeldOn, limit_of}
use Rattle.gx_operations.specs.Held.{StoreState, StaysOn}
use Rattle.gx_operations.specs.declared.kinds.ScriptKind.{ScriptKind}
use Rattle.gx_operations.specs.Kinds.{RunsAs, Stand, IsEndOfKind, plays_of, over_play}
use Rattle.gx_operations.specs.Promises.{IsKept, IsSaid}
use Rattle.gx_operations.specs.Runs.{runs_unheld, UnheldSays}
use Rattle.gx_operations.specs.Settled.{IsSettledIn}
use Rattle.gx_operations.specs.Wrong.{IsDamageLine}
use Rattle.gx_operations.proofs.CrashLemmas.{reads_now, leaves_weaker}
use Rattle.gx_operations.proofs.GivenLemmas.{internal_of, internal_in}
use Rattle.gx_operations.proofs.PlayerLemmas.{IsFiner, lawful, finer, played_finer}
use Rattle.gx_operations.proofs.RunHeldLemmas.{IsPlayedOn, run_kept, unopened_failed, unopened_short, outside_or, no_fault, stop_undone}
use Rattle.gx_operations.proofs.SaidLemmas.{said_by, line_said}
use Rattle.gx_operations.proofs.WrongLemmas.{IsTried, opened_right, opened_short, wrong_kept}

-- ---- it holds no state

-- how it ended is told by the status
finished_done : (r : Result (Unit {0}) Ending) (mid new : Content) (s : Status)
    → IfErr r IsPlayEnding → IsFinished r mid new s → s ≡ status.Done → r ≡ Ok tt
finished_done (Ok x) mid new s play ends done = refl
finished_done (Err w) mid new s play ends done =
    absurd (stop_undone w play (sym (ends.due.status_is (λ out. outside (sym done ∙ out))
    (λ short. memory (sym done ∙ short))) ∙ done))
  where
    outside : status.Done ≡ status.Outside → ⊥
    outside f = cc

    memory : status.Done ≡ status.Memory → ⊥
    memory f = cc

finished_script : (r : Result (Unit {0}) Ending) (mid new : Content) (s : Status)
    → IsFinished r mid new s → new.script ≡ mid.script
finished_script (Ok x) mid new s ends = ap (λ (c : Content). c.script) ends.1
finished_script (Err w) mid new s ends = ends.words.script

module _ (g : Given) (device : List ℕ) (Ends : End → Type 0) (old mid new : Content) (s : Status)
    (begins : IsPrefix old.now.said mid.now.said) where
  -- the line that comes behind what was said of the script
  behind_says : (w : Ending) → IsPlayEnding w → is_outside w ≡ false
      → ((block : ℕ) → w ≡ ending.Device (device_why.Damaged block)
      → IsDamageLine device old (ending_line w))
      → EndsAs Ends (Err w) → UnheldSays device old Ends (status_of w) begins.0 (ending_line w) new
  behind_says (ending.Line number why) play calm damaged reads = (number, why, reads, refl)
  behind_says ending.Fault play calm damaged reads = absurd (no_fault ending.Fault calm refl)
  behind_says ending.NoMemory play calm damaged reads = refl
  behind_says ending.Full play calm damaged reads = refl
  behind_says (ending.Device (device_why.Damaged block)) play calm damaged reads = damaged block refl
  behind_says (ending.Device device_why.Missing) play calm damaged reads = absurd play
  behind_says (ending.Device device_why.Exists) play calm damaged reads = absurd play
  behind_says (ending.Device device_why.Size) play calm damaged reads = absurd play
  behind_says (ending.Device device_why.NoDatabase) play calm damaged reads = absurd play
  behind_says (ending.Device (device_why.OtherEquation place)) play calm damaged reads = absurd play
  behind_says ending.Words play calm damaged reads = absurd play
  behind_says (ending.Missing name) play calm damaged reads = absurd play
  behind_says (ending.TooLong name) play calm damaged reads = absurd play
  behind_says (ending.Schema line why) play calm damaged reads = absurd play
  behind_says (ending.Equation line why) play calm damaged reads = absurd play
  behind_says (ending.Type line why) play calm damaged reads = absurd play
  behind_says ending.TextsTooLong play calm damaged reads = absurd play
  behind_says (ending.Accepted summary) play calm damaged reads = absurd play
  behind_says (ending.Made blocks pages) play calm damaged reads = absurd play

  unheld_said : (r : Result (Unit {0}) Ending) → IfErr r IsPlayEnding
      → ((block : ℕ) → r ≡ Err (ending.Device (device_why.Damaged block))
      → IsDamageLine device old (device_line (device_why.Damaged block)))
      → EndsAs Ends r → IsFinished r mid new s → IsSaid (runs_unheld device Ends old) old new s
  unheld_said (Ok x) play damaged reads ends =
      subst (IsSaid (runs_unheld device Ends old) old new) (sym ends.0) (record {
        whole = begins.0;
        last = [];
        says = (reads, refl);
        said = ap (λ (c : Content). c.now.said) ends.1 ∙ begins.1
            ∙ ap (λ t. old.now.said ++ t) (sym (append-nil begins.0));
      })
  unheld_said (Err w) play damaged reads ends = by_fault (outside_or w)
    where
      by_fault : (w ≡ ending.Fault) ⊎ (is_outside w ≡ false)
          → IsSaid (runs_unheld device Ends old) old new s
      by_fault (inl fault) =
          said_by (runs_unheld device Ends old) old new s
          (λ other. absurd (other (ends.due.fault fault)))
          (λ is. inr (record {
            told = begins.0;
            breaks = tt;
            said = ends.words.silent fault ∙ begins.1;
          }))
      by_fault (inr calm) =
          line_said (runs_unheld device Ends old) w old mid new begins.0 begins.1
          (behind_says w play calm
          (λ block is. subst (λ f. IsDamageLine device old (ending_line f)) (sym is)
          (damaged block (ap Err is))) reads) refl s ends

  pub unheld_kept : (r : Result (Unit {0}) Ending) → IfErr r IsPlayEnding
      → ((block : ℕ) → r ≡ Err (ending.Device (device_why.Damaged block))
      → IsDamageLine device old (device_line (device_why.Damaged block)))
      → EndsAs Ends r → (r ≡ Ok tt → mid.script ≡ []) → IsFinished r mid new s
      → IsKept (runs_unheld device Ends old) old new s
  unheld_kept r play damaged reads heard ends = record {
    said = unheld_said r play damaged reads ends;
    due = λ d is out. absurd is;
    leaves = λ done. finished_script r mid new s ends
        ∙ heard (finished_done r mid new s play ends done);
    crashes = tt;
  }

-- ---- it isn't opened

-- a device that holds a state has the size, the magic and the texts
held_opened : (g : Given) (device : List ℕ) (old : Content) (start : State)
    → IsHeldOn g device start old → OfBlocks device old (under g AreOpened)
held_opened g device old start held = (
  held.0,
  held.1,
  record {
    size = held.2.reopens.size;
    magic = held.2.reopens.magic;
    texts = held.2.reopens.texts;
  },
)

pub run_unopened : (k : ScriptKind) (g : Given) (device : List ℕ) (old mid new : Content)
    (e : Unopened) (s : Status) → IsTried g device old mid e → SameDevices mid new
    → IsEnded (unopened_ending e) mid new s → EndsThrough (unopened_ending e) mid new
    → RunsAs k g device old new s
run_unopened k g device old mid new e s t same ended moments = record {
  wrong = wrong_kept g device old mid new e s t same ended moments;
  held = λ start held.
      let limit = limit_of g held.0 in
      let p = plays_of k g old.script limit start in
      let law = lawful k g old.script limit start in
      elim (opened_short g device old e t.unopened (held_opened g device old start held)) [
        | inl is ↦ unopened_failed p g device start old held law mid new s (unopened_ending e) same
            ended moments t.attaches t.kept t.crash (ap unopened_ending is)
        | inr is ↦ unopened_short p g device start old held law mid new s (unopened_ending e) same
            ended moments t.attaches t.kept t.crash (ap unopened_ending is)
      ];
  unheld = λ none. unheld (opened_short g device old e t.unopened none.opened);
}
  where
    begins : IsPrefix old.now.said mid.now.said
    begins = ([], t.attaches.said ∙ sym (append-nil old.now.said))

    by : (w : Ending) → unopened_ending e ≡ w → IsPlayEnding w
        → ((block : ℕ) → w ≡ ending.Device (device_why.Damaged block) → ⊥)
        → EndsAs (IsEndOfKind k g.schema old.script) (Err w)
        → IsKept (runs_unheld device (IsEndOfKind k g.schema old.script) old) old new s
    by w is play undamaged reads =
        unheld_kept g device (IsEndOfKind k g.schema old.script) old mid new s begins (Err w) play
        (λ block so. absurd (undamaged block (one_error so))) reads (λ so. absurd (never so))
        (subst (λ f. IsEnded f mid new s) is ended)
      where
        never : ◌≡◌ {A = Result (Unit {0}) Ending} (Err w) (Ok tt) → ⊥
        never f = cc

        one_error : {v : Ending} → ◌≡◌ {A = Result (Unit {0}) Ending} (Err w) (Err v) → w ≡ v
        one_error f = cc

    unheld : (e ≡ unopened.Fault) ⊎ (e ≡ unopened.NoMemory)
        → IsKept (runs_unheld device (IsEndOfKind k g.schema old.script) old) old new s
    unheld (inl is) = by ending.Fault (ap unopened_ending is) tt (λ block f. cc) tt
    unheld (inr is) = by ending.NoMemory (ap unopened_ending is) tt (λ block f. cc) tt

-- ---- it is opened

-- these are the texts of what is given, and the kinds of its leaves
pub record AreOf (g : Given) (schema equation : List ℕ) (specs : List LeafSpec) : Type 0 where
  pub schema_is : schema ≡ schema_text g.schema
  pub equation_is : equation ≡ equation_text g.definitions
  pub specs_are : specs ≡ g.typing.specs

pub under_of : (g : Given) (schema equation : List ℕ) (specs : List LeafSpec)
    → AreOf g schema equation specs → (P : List ℕ → List ℕ → List LeafSpec → Type 0)
    → P schema equation specs → under g P
under_of g schema equation specs of P is =
    subst (λ t. P t (equation_text g.definitions) g.typing.specs) of.schema_is
    (subst (λ t. P schema t g.typing.specs) of.equation_is
    (subst (λ k. P schema equation k) of.specs_are is))

pub of_under : (g : Given) (schema equation : List ℕ) (specs : List LeafSpec)
    → AreOf g schema equation specs → (P : List ℕ → List ℕ → List LeafSpec → Type 0)
    → under g P → P schema equation specs
of_under g schema equation specs of P is =
    subst (λ t. P t equation specs) (sym of.schema_is)
    (subst (λ t. P (schema_text g.schema) t specs) (sym of.equation_is)
    (subst (λ k. P (schema_text g.schema) (equation_text g.definitions) k) (sym of.specs_are) is))

-- What opening the device gave, and how the script was played on it. It speaks of what was before,
-- `old`, of the machine with the device, `opened`, and of that after it was closed, `mid`.
pub record IsRunOn (kind : ScriptKind) (g : Given) (device : List ℕ) (schema : Schema)
    (built : Built) (schema_text equation_text : List ℕ) (specs : List LeafSpec) (head : Head)
    (limit : Limits) (Holds : List LeafMap → Type 0) (old opened mid : Content)
    (played : Result (Unit {0}) Ending) : Type 0 where
  pub schema_is : schema ≡ g.schema
  pub trees : IsBuiltOf g.schema g.definitions built
  pub of : AreOf g schema_text equation_text specs
  pub opens : Opens device old opened
  pub first : IsFirstOf opens.middle opened
  pub attaches : Attaches device old opened
  pub were : AreOpened schema_text equation_text specs opens.middle.now.blocks
  pub ground : head.base ≡ ground_on opens.middle.now.blocks
  pub is_head : IsHeadOf schema_text equation_text specs head
  pub limit_is : (blocks : List (List ℕ)) → device_at old.now device ≡ Some blocks
      → limit ≡ limit_of g blocks
  pub holds : (blocks : List (List ℕ)) (maps : List LeafMap) → device_at old.now device ≡ Some blocks
      → Reopens schema_text equation_text specs maps blocks → Holds maps
  pub answered : (s : State) (maps : List LeafMap) → Holds maps → AreInternal schema built maps s
      → IsPlayedOf (over_play kind schema built (Some limit) s opened.script)
      (λ k. IsSettledIn schema built schema_text equation_text specs mid.now.blocks k
      × (is_fault played ≡ false
      → EachImage (λ image. StoreState schema built head k image.blocks) mid.now))
      opened.now.said mid.now.said played
  pub images : (s : State) (maps : List LeafMap) → Holds maps → AreInternal schema built maps s
      → LeavesOnly (IsImageOf (over_play kind schema built (Some limit) s opened.script)
      (StoreState schema built head) opened.now) opened mid
  pub heard : played ≡ Ok tt → mid.script ≡ []
  pub reads : EndsAs (IsEndOfKind kind g.schema old.script) played
  pub stays : StaysOn opened mid
  pub play : IfErr played IsPlayEnding
  pub damage : IfErr played (IsDamageBelow (length mid.now.blocks))

module _ (kind : ScriptKind) (g : Given) (device : List ℕ) (schema : Schema)
    (built : Built) (schema_text equation_text : List ℕ) (specs : List LeafSpec) (head : Head)
    (limit : Limits) (Holds : List LeafMap → Type 0) (old opened mid : Content)
    (played : Result (Unit {0}) Ending)
    (r : IsRunOn kind g device schema built schema_text equation_text specs head limit Holds old
    opened mid played) where
  -- what the blocks of the store hold is held
  state_held : (s : State) (blocks : List (List ℕ)) → StoreState schema built head s blocks
      → HoldState g s blocks
  state_held s blocks is = record {
    maps = is.maps;
    reopens = under_of g schema_text equation_text specs r.of (λ t e k. Reopens t e k is.maps blocks)
        (stored_reopens schema_text equation_text specs head r.opens.middle.now.blocks blocks is.maps
        (Unit {0}) r.ground tt (record { is = is.is; laid_is = λ whole. is.laid }) r.is_head
        r.were.size);
    internal = internal_of g built is.maps s r.trees
        (subst (λ (x : Schema). AreInternal x built is.maps s) r.schema_is is.internal);
  }

  state_settled : (s : State) (blocks : List (List ℕ))
      → IsSettledIn schema built schema_text equation_text specs blocks s → SettleState g s blocks
  state_settled s blocks is = record {
    maps = is.0;
    settled = under_of g schema_text equation_text specs r.of (λ t e k. IsSettled t e k is.0 blocks)
        is.1;
    internal = internal_of g built is.0 s r.trees
        (subst (λ (x : Schema). AreInternal x built is.0 s) r.schema_is is.2);
  }

  -- where it held a state
  module _ (start : State) (held : IsHeldOn g device start old) where
    abbrev Plays : Play (Stand kind)
    Plays = plays_of kind g old.script (limit_of g held.0) start

    abbrev Over : Schema → Limits → List ℕ → Play (Stand kind)
    Over x l script = over_play kind x built (Some l) start script

    abbrev Kept : State → Type 0
    Kept k = SettleState g k mid.now.blocks
        × (is_fault played ≡ false → EachImage (λ image. HoldState g k image.blocks) mid.now)

    abbrev Stored : State → Type 0
    Stored k = IsSettledIn schema built schema_text equation_text specs mid.now.blocks k
        × (is_fault played ≡ false
        → EachImage (λ image. StoreState schema built head k image.blocks) mid.now)

    fine : IsFiner (Over g.schema (limit_of g held.0) old.script) Plays
    fine = finer kind g built (limit_of g held.0) start old.script r.trees

    holds : Holds held.2.maps
    holds = r.holds held.0 held.2.maps held.1
        (of_under g schema_text equation_text specs r.of (λ t e k. Reopens t e k held.2.maps held.0)
        held.2.reopens)

    internal : AreInternal schema built held.2.maps start
    internal = subst (λ (x : Schema). AreInternal x built held.2.maps start) (sym r.schema_is)
        (internal_in g built held.2.maps start r.trees held.2.internal)

    -- the play over the leaves is that of the request
    same_over : Over schema limit opened.script ≡ Over g.schema (limit_of g held.0) old.script
    same_over = λ i. Over (r.schema_is i) (r.limit_is held.0 held.1 i) (r.attaches.script i)

    answered : IsPlayedOf Plays Kept opened.now.said mid.now.said played
    answered =
        played_finer (Over g.schema (limit_of g held.0) old.script) Plays fine Stored Kept
        (λ k is. (
          state_settled k mid.now.blocks is.0,
          λ calm image at. state_held k image.blocks (is.1 calm image at),
        )) opened.now.said mid.now.said played
        (subst (λ (p : Play (Stand kind)). IsPlayedOf p Stored opened.now.said mid.now.said played)
        same_over (r.answered start held.2.maps holds internal))

    image_held : (image : Image)
        → IsImageOf (Over g.schema (limit_of g held.0) old.script) (StoreState schema built head)
        opened.now image
        → IsImageOf Plays (HoldState g) opened.now image
    image_held image is = record {
      told = is.told;
      final = is.final;
      front = fine.front is.told is.final is.front;
      said = is.said;
      holds = subst (λ (k : State). HoldState g k image.blocks) (fine.kept is.final)
          (state_held _ image.blocks is.holds);
      shelf = is.shelf;
    }

    images : LeavesOnly (IsImageOf Plays (HoldState g) opened.now) opened mid
    images =
        leaves_weaker (IsImageOf (Over g.schema (limit_of g held.0) old.script)
        (StoreState schema built head) opened.now) (IsImageOf Plays (HoldState g) opened.now)
        image_held opened mid
        (subst (λ (p : Play (Stand kind)). LeavesOnly (IsImageOf p (StoreState schema built head)
        opened.now) opened mid) same_over (r.images start held.2.maps holds internal))

    played_on : IsPlayedOn Plays g device start old held
        (lawful kind g old.script (limit_of g held.0) start) opened mid played
    played_on = record {
      opens = r.opens;
      first = r.first;
      attaches = r.attaches;
      answered = answered;
      images = images;
      heard = r.heard;
      shelf = r.stays.shelf;
    }

  -- it was one that is asked for
  right : OfBlocks device old (under g AreOpened)
  right = (
    r.opens.middle.now.blocks,
    r.opens.was,
    under_of g schema_text equation_text specs r.of
        (λ t e k. AreOpened t e k r.opens.middle.now.blocks) r.were,
  )

  -- it has as many blocks as before
  many : length mid.now.blocks ≡ length r.opens.middle.now.blocks
  many = r.stays.count
      ∙ (elim (reads_now (IsOpeningImage r.opens.middle.now) r.opens.middle opened r.opens.images) [
        | inl is ↦ is.count
        | inr is ↦ is.alike.count
      ])

  damage_line : (block : ℕ) → IsDamageBelow (length mid.now.blocks)
      (ending.Device (device_why.Damaged block))
      → IsDamageLine device old (device_line (device_why.Damaged block))
  damage_line block below =
      let some : 0 < length mid.now.blocks = omega (arith, many, r.were.size.least) in
      let fits : block < length r.opens.middle.now.blocks = omega (arith, many, below some) in
      (block, (r.opens.middle.now.blocks, r.opens.was, fits), refl)

  begins : IsPrefix old.now.said mid.now.said
  begins = (r.stays.begins.0, r.stays.begins.1 ∙ ap (λ t. t ++ r.stays.begins.0) r.attaches.said)

  pub run_opened : (new : Content) (s : Status) → SameDevices mid new
      → IsFinished played mid new s → FinishesThrough played mid new
      → RunsAs kind g device old new s
  run_opened new s same finished moments = record {
    wrong = λ why w. absurd (opened_right g device old why right w);
    held = λ start held. run_kept (Plays start held) g device start old held
        (lawful kind g old.script (limit_of g held.0) start) opened mid new played s
        (played_on start held) same finished moments r.play;
    unheld = λ none. unheld_kept g device (IsEndOfKind kind g.schema old.script) old mid new s
        begins played r.play
        (λ block is. damage_line block
        (subst (λ (q : Result (Unit {0}) Ending). IfErr q (IsDamageBelow (length mid.now.blocks))) is
        r.damage)) r.reads r.heard finished;
  }
