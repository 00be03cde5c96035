-- The turn of a session: how it comes out, and what is said of it.
use Rattle.std.proofs.Common.{◌≡◌, ◌⊎◌, inl, inr, ℕ, ◌<◌, List, [], ◌∷◌, ◌++◌, length, take, Bool, true, false, IsTrue, None, Option, Result, Ok, Err, refl, sym, ap, subst, ◌∙◌, arith, append_assoc}
use Rattle.std.specs.Prelude.{◌≢◌, IfOk}
use Rattle.std.proofs.lemmas.Bool.{cases_Bool}
use Rattle.std.proofs.lemmas.List.{append-nil}
use Rattle.gx_laws.specs.Members.{In}
use Rattle.gx_device.specs.declared.device.Failed.{Failed}
use Rattle.gx_device.specs.Content.{Content, Silent}
use Rattle.gx_device.specs.Crash.{Image, EachImage}
use Rattle.gx_device.specs.Quiet.{IsQuiet, QuietSince, IsOldOrNew}
use Rattle.gx_device.proofs.RunLemmas.{started, joined, weakened}
use Rattle.gx_schema.specs.declared.schema.Schema.{Schema}
use Rattle.gx_commands.specs.declared.command.Command.{Command}
use Rattle.gx_commands.specs.declared.command.Command.TheVariants as command
use Rattle.gx_ports.specs.Heads.{Head}
use Rattle.gx_ports.specs.Calm.{StaysKept}
use Rattle.gx_ports.specs.Stops.{is_outside}
use Rattle.gx_ports.specs.QuietLaws.{quiet_weaker}
use Rattle.gx_ports.specs.declared.stop.Stop.{Stop}
use Rattle.gx_ports.specs.declared.stop.Stop.TheVariants as stop
use Rattle.gx_ports.specs.declared.view.View.{Ghosts}
use Rattle.gx_ports.proofs.ImageLemmas.{quiet_images, prefix_both}
use Rattle.gx_types.specs.declared.built.Built.{Built}
use Rattle.gx_model.specs.States.{State}
use Rattle.gx_engine.specs.declared.engine.StepStop.{StepStop}
use Rattle.gx_engine.specs.declared.engine.StepStop.TheVariants.{Now, Stopped}
use Rattle.gx_engine.specs.Crashes.{HoldsState, HoldsFor}
use Rattle.gx_engine.specs.Steps.{built_of as engine_built, IsServed, is_commit, is_fault_now}
use Rattle.gx_engine.proofs.CrashLemmas.{kept_state, talks_states}
use Rattle.gx_sharing.specs.Sharing.{Sharing, Outcome, answered, skipped, ended_by, sessions, outcome_of, after_turn, IsSaid}
use Rattle.gx_sharing.specs.Turns.{Turn}
use Rattle.gx_sharing.specs.Texts.{with_number}
use Rattle.gx_sharing.proofs.Replays.{ended_by_holder}
use Rattle.gx_sessions.specs.declared.sessions.Sessions.{Sessions}
use Rattle.gx_sessions.specs.declared.sessions.Turn.{Turn as TheTurn}
use Rattle.gx_sessions.specs.Standings.{commands_of}
use Rattle.gx_sessions.specs.Shared.{seeing, IsShortFor, LeavesTurn}
use Rattle.gx_sessions.specs.Turns.{engine_of, schema_of, leaves_of, stop_of, AreShared, IsSame, IsTextOf, IsTurned, EndsTurn, turn_of, without_turn}
use Rattle.gx_play.proofs.TextLemmas.{cancel, front_of}
use Rattle.gx_shares.specs.Shares.{said_of, IsNamed, SaysTurn}
use Rattle.gx_shares.specs.Player.{texts_of}
use Rattle.gx_shares.specs.Steps.{without_first, IsTurnStep, IsTurnOf, IsStepped, IsStepCut, IsStepImage, LeavesStep}
use Rattle.gx_shares.proofs.HeardLemmas.{still_shared}

-- ---- the turn

-- an answer with the stop that is the first one
abbrev with_first : Result TheTurn Stop → Result TheTurn StepStop
with_first (Ok t) = Ok t
with_first (Err why) = Err (Now why)

ok_not_err : {A : Type 0} (t : TheTurn) (why : Stop) → ◌≡◌ {A = Result TheTurn Stop} (Ok t) (Err why)
    → A
ok_not_err t why e = absurd cc

pub turn_step : {S : Type 0} (g : Ghosts S) (n : ℕ) (c : Command) (old new : Sessions S)
    (out now : List ℕ) (r : Result TheTurn StepStop) → stop_of old ≡ None
    → ((p : Sharing) → AreShared g p old → IfOk r (λ t. IsTurned g p n c t old new out now))
    → ((p : Sharing) → AreShared g p old → r ≡ Err (Now stop.Full)
    → IsShortFor (schema_of old) (engine_built (engine_of old)) (g.limit (leaves_of old)) p n c)
    → ((p : Sharing) → AreShared g p old → (start : Content) → g.calm (leaves_of old) start
    → LeavesTurn g p (after_turn (schema_of old) p n c (outcome_of (schema_of old) p n c))
    (engine_of old) (engine_of new) (is_fault_now (without_turn r)))
    → EndsTurn g c old new out now r → IsTurnStep g old new n c out now (without_first r)
turn_step g n c old new out now (Ok t) none turned full images ends = record {
  turned = turned;
  full = λ p at e. ok_not_err t stop.Full e;
  images = images;
  schema = ends.schema;
  built = ends.built;
  limit = ends.limit;
  head = ends.head;
  silent = ends.silent;
  quiet = ends.quiet;
  kept = λ e. tt;
  cause = record {
    later = ends.cause.later;
    fault = λ e. ok_not_err t stop.Fault e;
    counted = ends.cause.counted;
    damaged = λ block e. ok_not_err t (stop.Damaged block) e;
  };
  ready = ends.ready;
  going = subst (λ (s : Option Stop). IsServed s (stop_of new) (Ok tt)) none ends.served;
}
turn_step g n c old new out now (Err (Now why)) none turned full images ends = record {
  turned = λ p at. tt;
  full = λ p at e. full p at (ap with_first e);
  images = images;
  schema = ends.schema;
  built = ends.built;
  limit = ends.limit;
  head = ends.head;
  silent = ends.silent;
  quiet = ends.quiet;
  kept = ends.kept;
  cause = record {
    later = ends.cause.later;
    fault = λ e. ends.cause.fault (ap with_first e);
    counted = ends.cause.counted;
    damaged = λ block e. ends.cause.damaged block (ap with_first e);
  };
  ready = ends.ready;
  going = tt;
}
turn_step g n c old new out now (Err (Stopped why)) none turned full images ends =
    absurd (subst (λ (s : Option Stop). IsServed s (stop_of new) (Err (Stopped why))) none
    ends.served)

-- ---- what it says

pub named : (m : ℕ) → In m sessions → m < 10
named m (inl e) = omega (arith, e)
named m (inr (inl e)) = omega (arith, e)
named m (inr (inr (inl e))) = omega (arith, e)
named m (inr (inr (inr (inl e)))) = omega (arith, e)
named m (inr (inr (inr (inr (inl e))))) = omega (arith, e)
named m (inr (inr (inr (inr (inr (inl e)))))) = omega (arith, e)
named m (inr (inr (inr (inr (inr (inr (inl e))))))) = omega (arith, e)
named m (inr (inr (inr (inr (inr (inr (inr (inl e)))))))) = omega (arith, e)
named m (inr (inr (inr (inr (inr (inr (inr (inr none)))))))) = absurd none

-- a session that ends a turn has one digit
is_named : (schema : Schema) (p : Sharing) (n : ℕ) (c : Command) (o : Outcome)
    → outcome_of schema p n c ≡ o → IsNamed (turn_of o)
is_named schema p n c answered is = tt
is_named schema p n c skipped is = tt
is_named schema p n c (ended_by m) is = named m (ended_by_holder schema p n c m is).numbered

-- what it says is the answer, or the line of its outcome
said_so : (schema : Schema) (p : Sharing) (n : ℕ) (c : Command) (o : Outcome) (text : List ℕ)
    → IsTextOf schema p n c o text → IsSaid schema p n c o (said_of (turn_of o) text)
said_so schema p n c answered text is = is
said_so schema p n c skipped text is = refl
said_so schema p n c (ended_by m) text is = refl

fault_not_full : stop.Fault ≡ stop.Full → ⊥
fault_not_full e = cc

fault_not_damaged : (block : ℕ) → stop.Fault ≡ stop.Damaged block → ⊥
fault_not_damaged block e = cc

module _ {S : Type 0} (g : Ghosts S) (p : Sharing) (n : ℕ) (line : List ℕ) (c : Command)
    (old mid new : Sessions S) (t : TheTurn) (now : List ℕ)
    (turned : IsTurned g p n c t old mid [] now) (same : IsSame g mid new)
    (says_kept : (g.content (leaves_of mid)).now.said ≡ (g.content (leaves_of old)).now.said) where
  abbrev o : Outcome
  o = outcome_of (schema_of old) p n c

  abbrev text : List ℕ
  text = said_of (turn_of o) now

  abbrev then : Sharing
  then = after_turn (schema_of old) p n c o

  abbrev Goes : List Turn → Sharing → Type 0
  Goes = IsTurnOf (schema_of old) p n line c

  said_is : IsSaid (schema_of old) p n c o text
  said_is = said_so (schema_of old) p n c o now
      (subst (IsTextOf (schema_of old) p n c o) (sym turned.comes.said) turned.comes.text_is)

  abbrev the_turn : Turn
  the_turn = record { session = n; line = line; command = c; outcome = o; said = text }

  goes : Goes (the_turn ∷ []) then
  goes = (text, said_is, refl, refl)

  after : AreShared g then new
  after = still_shared g then mid new same turned.comes.after

  -- what is said is its text with the number
  numbered : {r : Result (Unit {0}) Failed}
      → (says : SaysTurn g n t now (leaves_of mid) (leaves_of new) r)
      → with_number n says.text ≡ texts_of (the_turn ∷ [])
  numbered says =
      ap (with_number n)
      (says.text_is (subst IsNamed (sym turned.turn_is)
      (is_named (schema_of old) p n c o refl))
      ∙ ap (λ (x : TheTurn). said_of x now) turned.turn_is)
      ∙ sym (append-nil (with_number n text))

  pub turn_said : SaysTurn g n t now (leaves_of mid) (leaves_of new) (Ok tt)
      → IsStepped g Goes old new
  turn_said says = record {
    ts = the_turn ∷ [];
    next = then;
    goes = goes;
    at = after;
    said = λ told. says.says.all told
        ∙ (λ i. says_kept i ++ numbered says i);
  }

  front_said : {r : Result (Unit {0}) Failed} → IsTrue g.tells
      → SaysTurn g n t now (leaves_of mid) (leaves_of new) r
      → (count : ℕ) × ((g.content (leaves_of new)).now.said
      ≡ (g.content (leaves_of old)).now.said ++ take count (texts_of (the_turn ∷ [])))
  front_said told says =
      let f = says.says.front told in
      (f.0, f.1 ∙ (λ i. says_kept i ++ take f.0 (numbered says i)))

  -- it couldn't be said whole
  pub turn_unsaid : (Commit Short : Type 0) (e : Failed) → IsTrue g.tells
      → SaysTurn g n t now (leaves_of mid) (leaves_of new) (Err e)
      → IsStepCut g Goes Commit Short old new stop.Fault
  turn_unsaid Commit Short e told says = record {
    unsaid = λ other. absurd (other refl);
    kept = λ other. absurd (other refl);
    cut = inr (the_turn ∷ [], then, goes, after, front_said told says);
    short = λ full. absurd (fault_not_full full);
    sound = λ block damaged. fault_not_damaged block damaged;
  }

-- the turn that was said, and a front of its text
pub turn_front : {S : Type 0} (g : Ghosts S) (p : Sharing) (n : ℕ) (line : List ℕ) (c : Command)
    (old mid new : Sessions S) (t : TheTurn) (now : List ℕ) (r : Result (Unit {0}) Failed)
    → IsTurned g p n c t old mid [] now → IsSame g mid new
    → (g.content (leaves_of mid)).now.said ≡ (g.content (leaves_of old)).now.said
    → IsTrue g.tells → SaysTurn g n t now (leaves_of mid) (leaves_of new) r
    → (ts : List Turn)
    × IsTurnOf (schema_of old) p n line c ts
    (after_turn (schema_of old) p n c (outcome_of (schema_of old) p n c))
    × ((count : ℕ) × ((g.content (leaves_of new)).now.said
    ≡ (g.content (leaves_of old)).now.said ++ take count (texts_of ts)))
turn_front g p n line c old mid new t now r turned same says_kept told says = (
  the_turn g p n line c old mid new t now turned same says_kept ∷ [],
  goes g p n line c old mid new t now turned same says_kept,
  front_said g p n line c old mid new t now turned same says_kept told says,
)

-- ---- a turn that is given up

-- a stop that isn't a fault is none
no_fault : (why : Stop) → why ≢ stop.Fault → is_outside why ≡ false
no_fault stop.Fault other = absurd (other refl)
no_fault stop.Full other = refl
no_fault stop.NoMemory other = refl
no_fault (stop.Damaged block) other = refl

pub turn_cut : {S : Type 0} (g : Ghosts S) (Goes : List Turn → Sharing → Type 0) (p : Sharing)
    (n : ℕ) (c : Command) (old new : Sessions S) (out now : List ℕ) (why : Stop)
    → AreShared g p old → IsTurnStep g old new n c out now (Err why)
    → IsStepCut g Goes (is_commit c ≡ true)
    (IsShortFor (schema_of old) (engine_built (engine_of old)) (g.limit (leaves_of old)) p n c) old
    new why
turn_cut g Goes p n c old new out now why at step = record {
  unsaid = λ other. step.silent.said;
  kept = λ other. step.kept (no_fault why other);
  cut = inl (
    step.silent.said,
    elim (cases_Bool (is_commit c)) [
      | inl is ↦ inr is
      | inr other ↦ inl (step.quiet other)
    ],
  );
  short = λ full. step.full p at (ap Err full);
  sound = λ block damaged. step.cause.damaged block (ap Err damaged) (p, at);
}

-- ---- what a crash leaves

-- where the kept state changes, the turn says something
changes_or_stays : (schema : Schema) (p : Sharing) (n : ℕ) (c : Command) (o : Outcome)
    → ((text : List ℕ) × IsSaid schema p n c o text) ⊎ ((after_turn schema p n c o).kept ≡ p.kept)
changes_or_stays schema p n command.Commit answered = inl (_, refl)
changes_or_stays schema p n _ answered = inr refl
changes_or_stays schema p n c skipped = inr refl
changes_or_stays schema p n c (ended_by m) = inr refl

module _ {S : Type 0} (g : Ghosts S) (p : Sharing) (n : ℕ) (line : List ℕ) (c : Command)
    (old : Sessions S) where
  abbrev Out : Outcome
  Out = outcome_of (schema_of old) p n c

  abbrev After : Sharing
  After = after_turn (schema_of old) p n c Out

  abbrev Steps : List Turn → Sharing → Type 0
  Steps = IsTurnOf (schema_of old) p n line c

  abbrev Held : State → List (List ℕ) → Type 0
  Held = HoldsFor g (engine_of old)

  turn_image : (image : Image)
      → IsOldOrNew (Held p.kept) (Held After.kept) (g.content (leaves_of old)).now image
      → IsStepImage Held Steps p.kept (g.content (leaves_of old)).now image
  turn_image image i = record {
    is = elim i.is [
      | inl h ↦ inl (h, i.said)
      | inr h ↦ elim (changes_or_stays (schema_of old) p n c Out) [
        | inl x ↦ inr (
          record { session = n; line = line; command = c; outcome = Out; said = x.0 } ∷ [],
          After,
          (x.0, x.1, refl, refl),
          h,
          (0, i.said ∙ sym (append-nil (g.content (leaves_of old)).now.said)),
        )
        | inr same ↦ inl (subst (λ (s : State). Held s image.blocks) same h, i.said)
      ]
    ];
    shelf = i.shelf;
  }

  -- the turn alone, of which nothing is said
  pub turn_leaves : (new : Sessions S) (failed : Bool)
      → LeavesTurn g p After (engine_of old) (engine_of new) failed
      → LeavesStep g Steps p.kept failed old new
  turn_leaves new failed leaves = record {
    images = weakened
        (EachImage (IsOldOrNew (Held p.kept) (Held After.kept) (g.content (leaves_of old)).now))
        (EachImage (IsStepImage Held Steps p.kept (g.content (leaves_of old)).now))
        (λ m each image is. turn_image image (each image is)) (g.content (leaves_of old))
        (g.content (leaves_of new)) leaves.images;
    calm = leaves.calm;
  }

  module _ (means : (l : S) (start : Content) → g.calm l start → StaysKept g l start)
      (goes_on : (l : S) (start : Content) → g.calm l start → g.calm l (g.content l))
      (mid new : Sessions S) (schema_is : schema_of mid ≡ schema_of old)
      (built_is : engine_built (engine_of mid) ≡ engine_built (engine_of old))
      (head_is : g.head (leaves_of mid) ≡ g.head (leaves_of old))
      (silent : Silent (g.content (leaves_of old)) (g.content (leaves_of mid)))
      (after : AreShared g After mid) (same : IsSame g mid new) where
    held_still : (k : State) (blocks : List (List ℕ)) → HoldsFor g (engine_of mid) k blocks
        → Held k blocks
    held_still k blocks h =
        subst (λ (x : Schema). HoldsState g x (engine_built (engine_of old)) (g.head (leaves_of old))
        k blocks) schema_is
        (subst (λ (x : Built). HoldsState g (schema_of mid) x (g.head (leaves_of old)) k blocks)
        built_is
        (subst (λ (x : Head). HoldsState g (schema_of mid) (engine_built (engine_of mid)) x k blocks)
        head_is h))

    quiet_say : g.calm (leaves_of mid) (g.content (leaves_of mid))
        → QuietSince (Held After.kept) (g.content (leaves_of mid)) (g.content (leaves_of new))
    quiet_say calm =
        quiet_weaker (HoldsFor g (engine_of mid) After.kept) (Held After.kept)
        (held_still After.kept) (g.content (leaves_of mid)) (g.content (leaves_of new))
        (talks_states g means goes_on (seeing After after.engine.working) (engine_of mid)
        (engine_of new) after.engine.at same.engine.talks (g.content (leaves_of mid)) calm)

    -- and what it says was said, whole or in part
    pub said_leaves : (ts : List Turn) (count : ℕ) (failed : Bool) → Steps ts After
        → (g.content (leaves_of new)).now.said
        ≡ (g.content (leaves_of old)).now.said ++ take count (texts_of ts)
        → LeavesTurn g p After (engine_of old) (engine_of mid) false
        → LeavesStep g Steps p.kept failed old new
    said_leaves ts count failed goes said leaves = record {
      images = joined (EachImage (IsStepImage Held Steps p.kept (g.content (leaves_of old)).now))
          (g.content (leaves_of old)) (g.content (leaves_of mid)) (g.content (leaves_of new))
          (turn_leaves mid false leaves).images
          (weakened
          (EachImage (IsQuiet (Held After.kept) (g.content (leaves_of mid)).now
          (g.content (leaves_of new)).now.said))
          (EachImage (IsStepImage Held Steps p.kept (g.content (leaves_of old)).now))
          (λ m each image is. say_image image (each image is))
          (g.content (leaves_of mid)) (g.content (leaves_of new))
          (quiet_images (Held After.kept) (g.content (leaves_of mid)) (g.content (leaves_of new))
          (quiet_say (leaves.calm refl))));
      calm = λ none. goes_on (leaves_of new) (g.content (leaves_of mid))
          (same.engine.talks.calm (g.content (leaves_of mid)) (leaves.calm refl));
    }
      where
        say_image : (image : Image)
            → IsQuiet (Held After.kept) (g.content (leaves_of mid)).now
            (g.content (leaves_of new)).now.said image
            → IsStepImage Held Steps p.kept (g.content (leaves_of old)).now image
        say_image image i =
            let m = i.begins.0 in
            let rest = i.goes_on.0 in
            let before = (g.content (leaves_of mid)).now.said in
            let all : before ++ (m ++ rest) ≡ before ++ take count (texts_of ts) =
            sym (append_assoc before m rest) ∙ ap (λ (s : List ℕ). s ++ rest) (sym i.begins.1)
            ∙ sym i.goes_on.1 ∙ said
            ∙ ap (λ (s : List ℕ). s ++ take count (texts_of ts)) (sym silent.said) in
            let tail = cancel before (m ++ rest) (take count (texts_of ts)) all in
            record {
              is = inr (
                ts,
                After,
                goes,
                i.is,
                (
                  length m,
                  i.begins.1
                      ∙ (λ k. silent.said k ++ front_of m rest (texts_of ts) count tail k),
                ),
              );
              shelf = i.shelf ∙ silent.shelf;
            }

-- nothing happened
pub still_leaves : {S : Type 0} (g : Ghosts S)
    → ((l : S) (start : Content) → g.calm l start → StaysKept g l start)
    → ((l : S) (start : Content) → g.calm l start → g.calm l (g.content l))
    → (Goes : List Turn → Sharing → Type 0) (p : Sharing) (s : Sessions S) (failed : Bool)
    → AreShared g p s → (start : Content) → g.calm (leaves_of s) start
    → LeavesStep g Goes p.kept failed s s
still_leaves g means goes_on Goes p s failed at start calm =
    let now = g.content (leaves_of s) in
    let quiet = means (leaves_of s) now (goes_on (leaves_of s) start calm) in
    record {
      images = started (EachImage (IsStepImage (HoldsFor g (engine_of s)) Goes p.kept now.now)) now
          (λ image is.
          let q = quiet.last image is in
          record {
            is = inl (
              kept_state g (seeing p at.engine.working) (engine_of s) at.engine.at image.blocks q.is,
              prefix_both now.now.said image.said q.begins q.goes_on,
            );
            shelf = q.shelf;
          });
      calm = λ none. goes_on (leaves_of s) start calm;
    }

-- ---- as it is written to the room for it

pub turned_in : {S : Type 0} (g : Ghosts S) (p : Sharing) (n : ℕ) (c : Command) (t : TheTurn)
    (old mid : Sessions S) (out now : List ℕ) → out ≡ [] → IsTurned g p n c t old mid out now
    → IsTurned g p n c t old mid [] now
turned_in g p n c t old mid out now is turned =
    subst (λ (o : List ℕ). IsTurned g p n c t old mid o now) is turned

pub says_in : {S : Type 0} (g : Ghosts S) (n : ℕ) (t : TheTurn) (piece now : List ℕ)
    (mid new : S) (r : Result (Unit {0}) Failed) → piece ≡ now → SaysTurn g n t piece mid new r
    → SaysTurn g n t now mid new r
says_in g n t piece now mid new r is says =
    subst (λ (a : List ℕ). SaysTurn g n t a mid new r) is says
