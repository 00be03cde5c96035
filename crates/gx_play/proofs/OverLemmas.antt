-- From the play of lines to the play of a script over leaves, and how a request ends there.
use Rattle.std.proofs.Common.{◌≡◌, ℕ, ◌≤◌, List, ◌++◌, Bool, false, Result, Ok, Err, Option, refl, sym, ap, subst, ◌∙◌, arith, inl, inr}
use Rattle.std.specs.Prelude.{◌⊎◌, ◌≢◌, IfErr, IsErrOf}
use Rattle.gx_device.specs.Faults.{Rose}
use Rattle.gx_ports.specs.LeafMaps.{Limits}
use Rattle.gx_ports.specs.declared.stop.Stop.{Stop}
use Rattle.gx_ports.specs.declared.stop.Stop.TheVariants as stop
use Rattle.gx_ports.specs.declared.view.View.{Ghosts}
use Rattle.gx_schema.specs.declared.schema.Schema.{Schema}
use Rattle.gx_commands.specs.Lines.{script_lines}
use Rattle.gx_types.specs.declared.built.Built.{Built}
use Rattle.gx_model.specs.States.{State}
use Rattle.gx_model.specs.Play.{Playing, End, good, stopped, start_at}
use Rattle.gx_engine.specs.declared.engine.Engine.{Engine}
use Rattle.gx_engine.specs.Steps.{IsAt, schema_of, built_of, leaves_of}
use Rattle.gx_play.specs.declared.ending.DeviceWhy.TheVariants as device_why
use Rattle.gx_play.specs.declared.ending.Ending.{Ending}
use Rattle.gx_play.specs.declared.ending.Ending.TheVariants as ending
use Rattle.gx_play.specs.declared.play.PlayEnd.{PlayEnd}
use Rattle.gx_play.specs.declared.play.PlayEnd.TheVariants as play_end
use Rattle.gx_play.specs.Endings.{ending_of, is_fault, IsPlayEnding}
use Rattle.gx_play.specs.Played.{AreFirst}
use Rattle.gx_play.specs.Plays.{AreSaidUpTo, IsPlayedUp, IsPlayedPart, IsPlayedTo, IsPlayedOut, IsPlayedFirst, IsPlayedFull, IsPlayedFront, IsPlayedAs, IsEndingOf, IsCommitLine, KeepsState, is_play_fault}
use Rattle.gx_play.specs.declared.play.Answers.TheVariants as answers
use Rattle.gx_play.specs.Images.{LeavesPlay}
use Rattle.gx_play.proofs.CrashLemmas.{leaves_on}
use Rattle.gx_play.proofs.PlayLemmas.{kept_at}

-- the play of a script
module _ {S : Type 0} (g : Ghosts S) (start : State) (script before : List ℕ)
    (e f : Engine S)
    (unsaid : (g.content (leaves_of e)).now.said ≡ before) (schema_is : schema_of f ≡ schema_of e)
    (built_is : built_of f ≡ built_of e) where
  abbrev Kept : State → Type 0
  Kept = KeepsState g (schema_of e) (built_of e) (leaves_of f)

  abbrev Spoken : List ℕ
  Spoken = (g.content (leaves_of f)).now.said

  played_out : (end : End) → IsPlayedUp g (start_at start) (script_lines script) e f end
      → IsPlayedOut (schema_of e) start Kept script before Spoken end
  played_out end played = record {
    answers = played.text;
    final = played.final;
    play = played.played;
    said = played.said ∙ ap (λ t. t ++ played.text) unsaid;
    holds = kept_at g played.final e f schema_is built_is played.at;
  }

  -- the same of the first lines
  parts_of_script : (why : Stop)
      → (part : IsPlayedPart g (start_at start) (script_lines script) e f why)
      → (script_lines script).lines ≡ part.ran ++ part.later
  parts_of_script why part = part.parts

  abbrev first_answers : (why : Stop)
      → (part : IsPlayedPart g (start_at start) (script_lines script) e f why)
      → AreFirst (schema_of e) start script part.text
  first_answers why part = record {
    ran = part.ran;
    later = part.later;
    parts = parts_of_script why part;
    final = part.final;
    runs = part.runs;
  }

  first_whole : (why : Stop) → why ≢ stop.Fault
      → IsPlayedPart g (start_at start) (script_lines script) e f why
      → IsPlayedFirst (schema_of e) start Kept script before Spoken
  first_whole why other part = record {
    answers = part.text;
    first = first_answers why part;
    said = part.whole other ∙ ap (λ t. t ++ part.text) unsaid;
    holds = part.kept other;
  }

  first_full : IsPlayedPart g (start_at start) (script_lines script) e f stop.Full
      → IsPlayedFull (schema_of e) (built_of e) (g.limit (leaves_of e)) start Kept script before
      Spoken
  first_full part = record {
    answers = part.text;
    final = part.final;
    full = record {
      ran = part.ran;
      later = part.later;
      parts = parts_of_script stop.Full part;
      runs = part.runs;
      short = part.short refl;
    };
    said = part.whole (λ f. cc) ∙ ap (λ t. t ++ part.text) unsaid;
    holds = part.kept (λ f. cc);
  }

  first_front : IsPlayedPart g (start_at start) (script_lines script) e f stop.Fault
      → IsPlayedFront (schema_of e) start Kept script before Spoken
  first_front part = record {
    answers = part.text;
    first = first_answers stop.Fault part;
    up_to = subst (λ t. AreSaidUpTo (schema_of e) (start_at start) part.ran part.text t Spoken)
        unsaid part.up_to;
    holds = kept_or_commit (part.failed refl);
  }
    where
      kept_or_commit : (IsAt g part.final f
          ⊎ ((Spoken ≡ (g.content (leaves_of e)).now.said ++ part.text)
          × (Kept part.final.kept ⊎ IsCommitLine (schema_of e) part.later)))
          → Kept part.final.kept ⊎ ((Spoken ≡ before ++ part.text)
          × IsCommitLine (schema_of e) part.later)
      kept_or_commit (inl at) = inl (kept_at g part.final e f schema_is built_is at)
      kept_or_commit (inr (said, inl kept)) = inl kept
      kept_or_commit (inr (said, inr commit)) = inr (said ∙ ap (λ t. t ++ part.text) unsaid, commit)

  abbrev As : Result (Unit {0}) Ending → Type 0
  As = IsPlayedAs (schema_of e) (built_of e) (g.limit (leaves_of e)) start Kept script before Spoken

  -- no damage is found there
  pub played_as : (played : Result (Unit {0}) PlayEnd) (result : Result (Unit {0}) Ending)
      → IsEndingOf played result
      → ((block : ℕ) → played ≡ Err (play_end.Stop (stop.Damaged block)) → ⊥)
      → IsPlayedTo g (start_at start) (script_lines script) e f played → As result
  played_as (Ok x) result result_is sound to = subst As (sym result_is) (played_out good to)
  played_as (Err (play_end.Line number why)) result result_is sound to =
      subst As (sym result_is) (played_out (stopped number why) to)
  played_as (Err (play_end.Stop stop.NoMemory)) result result_is sound to =
      subst As (sym result_is) (first_whole stop.NoMemory (λ f. cc) to)
  played_as (Err (play_end.Stop stop.Fault)) result result_is sound to =
      subst As (sym result_is) (first_front to)
  played_as (Err (play_end.Stop stop.Full)) result result_is sound to =
      subst As (sym result_is) (first_full to)
  played_as (Err (play_end.Stop (stop.Damaged block))) result result_is sound to =
      absurd (sound block refl)

-- the same of the leaves that the engine was started on, and that it hands back
pub played_over : {S : Type 0} (g : Ghosts S) (schema : Schema) (built : Built) (start : State)
    (script before : List ℕ) (e f : Engine S) (leaves left : S) (result : Result (Unit {0}) Ending)
    → schema_of e ≡ schema → built_of e ≡ built → g.limit (leaves_of e) ≡ g.limit leaves
    → left ≡ leaves_of f
    → IsPlayedAs (schema_of e) (built_of e) (g.limit (leaves_of e)) start
    (KeepsState g (schema_of e) (built_of e) (leaves_of f)) script before
    (g.content (leaves_of f)).now.said result
    → IsPlayedAs schema built (g.limit leaves) start (KeepsState g schema built left) script before
    (g.content left).now.said result
played_over {S = S} g schema built start script before e f leaves left result schema_is built_is
    limit_is left_is is =
    subst (λ (l : S). IsPlayedAs schema built (g.limit leaves) start (KeepsState g schema built l)
    script before
    (g.content l).now.said result) (sym left_is)
    (subst (λ (k : Schema). IsPlayedAs k built (g.limit leaves) start
    (KeepsState g k built (leaves_of f)) script before (g.content (leaves_of f)).now.said result)
    schema_is
    (subst (λ (b : Built). IsPlayedAs (schema_of e) b (g.limit leaves) start
    (KeepsState g (schema_of e) b (leaves_of f)) script before (g.content (leaves_of f)).now.said
    result) built_is
    (subst (λ (l : Option Limits). IsPlayedAs (schema_of e) (built_of e) l start
    (KeepsState g (schema_of e) (built_of e) (leaves_of f)) script before
    (g.content (leaves_of f)).now.said result) limit_is is)))

-- what is held of a state means another thing of it
pub held_as : (schema : Schema) (built : Built) (limit : Option Limits) (start : State)
    (Holds Other : State → Type 0) (script before now : List ℕ) (result : Result (Unit {0}) Ending)
    → ((s : State) → Holds s → Other s)
    → IsPlayedAs schema built limit start Holds script before now result
    → IsPlayedAs schema built limit start Other script before now result
held_as schema built limit start Holds Other script before now
    (Ok x) other is = record {
      answers = is.answers;
      final = is.final;
      play = is.play;
      said = is.said;
      holds = other is.final.kept is.holds;
    }
held_as schema built limit start Holds Other script before now
    (Err (ending.Line number why)) other is = record {
      answers = is.answers;
      final = is.final;
      play = is.play;
      said = is.said;
      holds = other is.final.kept is.holds;
    }
held_as schema built limit start Holds Other script before now
    (Err ending.NoMemory) other is = record {
      answers = is.answers;
      first = is.first;
      said = is.said;
      holds = other is.first.final.kept is.holds;
    }
held_as schema built limit start Holds Other script before now
    (Err ending.Full) other is = record {
      answers = is.answers;
      final = is.final;
      full = is.full;
      said = is.said;
      holds = other is.final.kept is.holds;
    }
held_as schema built limit start Holds Other script before now
    (Err ending.Fault) other is =
    record { answers = is.answers; first = is.first; up_to = is.up_to; holds = left is.holds }
  where
    left : (Holds is.first.final.kept
        ⊎ ((now ≡ before ++ is.answers) × IsCommitLine schema is.first.later))
        → Other is.first.final.kept
        ⊎ ((now ≡ before ++ is.answers) × IsCommitLine schema is.first.later)
    left (inl held) = inl (other is.first.final.kept held)
    left (inr commit) = inr commit
held_as schema built limit start Holds Other script before now (Err ending.Words) other is = is
held_as schema built limit start Holds Other script before now (Err (ending.Missing name)) other
    is = is
held_as schema built limit start Holds Other script before now (Err (ending.TooLong name)) other
    is = is
held_as schema built limit start Holds Other script before now (Err (ending.Schema line why)) other
    is = is
held_as schema built limit start Holds Other script before now (Err (ending.Equation line why))
    other is = is
held_as schema built limit start Holds Other script before now (Err (ending.Type line why)) other
    is = is
held_as schema built limit start Holds Other script before now (Err ending.TextsTooLong) other is =
    is
held_as schema built limit start Holds Other script before now (Err (ending.Accepted summary)) other
    is = is
held_as schema built limit start Holds Other script before now (Err (ending.Device wrong)) other
    is = is
held_as schema built limit start Holds Other script before now (Err (ending.Made blocks pages))
    other is = is

not_ok : (result : Result (Unit {0}) Ending) (why : Ending) → result ≡ Err why → result ≡ Ok tt → ⊥
not_ok result why is e = never (sym is ∙ e)
  where
    never : ◌≡◌ {A = Result (Unit {0}) Ending} (Err why) (Ok tt) → ⊥
    never f = cc

-- a request that ends well ends the play well
pub ended_well : (played : Result (Unit {0}) PlayEnd) (result : Result (Unit {0}) Ending)
    → IsEndingOf played result → result ≡ Ok tt → played ≡ Ok tt
ended_well (Ok tt) result result_is ok = refl
ended_well (Err end) result result_is ok = absurd (not_ok result (ending_of end) result_is ok)

-- ---- how a play ends for the request

is_play_ending : (end : PlayEnd) → IsPlayEnding (ending_of end)
is_play_ending (play_end.Line number why) = tt
is_play_ending (play_end.Stop stop.Fault) = tt
is_play_ending (play_end.Stop stop.Full) = tt
is_play_ending (play_end.Stop stop.NoMemory) = tt
is_play_ending (play_end.Stop (stop.Damaged block)) = tt

pub play_ending : (played : Result (Unit {0}) PlayEnd) (result : Result (Unit {0}) Ending)
    → IsEndingOf played result → IfErr result IsPlayEnding
play_ending (Ok x) result is =
    subst (λ (r : Result (Unit {0}) Ending). IfErr r IsPlayEnding) (sym is) tt
play_ending (Err end) result is =
    subst (λ (r : Result (Unit {0}) Ending). IfErr r IsPlayEnding) (sym is) (is_play_ending end)

-- the stop that an ending comes from
stop_is : (end : PlayEnd) (why : Ending) (given : Stop) → ending_of end ≡ why
    → why ≡ ending_of (play_end.Stop given) → end ≡ play_end.Stop given
stop_is (play_end.Line number reason) why given is e = absurd (never given (is ∙ e))
  where
    never : (given : Stop) → ending.Line number reason ≡ ending_of (play_end.Stop given) → ⊥
    never stop.Fault f = cc
    never stop.Full f = cc
    never stop.NoMemory f = cc
    never (stop.Damaged block) f = cc
stop_is (play_end.Stop s) why given is e = ap play_end.Stop (same s given (is ∙ e))
  where
    stop_at : Ending → Stop
    stop_at ending.Full = stop.Full
    stop_at ending.Fault = stop.Fault
    stop_at (ending.Device (device_why.Damaged block)) = stop.Damaged block
    stop_at why = stop.NoMemory

    stop_back : (s : Stop) → stop_at (ending_of (play_end.Stop s)) ≡ s
    stop_back stop.Fault = refl
    stop_back stop.Full = refl
    stop_back stop.NoMemory = refl
    stop_back (stop.Damaged block) = refl

    same : (s given : Stop) → ending_of (play_end.Stop s) ≡ ending_of (play_end.Stop given)
        → s ≡ given
    same s given e = sym (stop_back s) ∙ ap stop_at e ∙ stop_back given

abbrev ending_in : Result (Unit {0}) Ending → Ending
ending_in (Err why) = why
ending_in (Ok x) = ending.NoMemory

pub stop_of_ending : (played : Result (Unit {0}) PlayEnd) (result : Result (Unit {0}) Ending)
    (given : Stop)
    → IsEndingOf played result → IsErrOf result (ending_of (play_end.Stop given))
    → played ≡ Err (play_end.Stop given)
stop_of_ending (Ok x) result given is e =
    absurd (not_ok result (ending_of (play_end.Stop given)) e is)
stop_of_ending (Err end) result given is e =
    ap Err (stop_is end (ending_of end) given refl (ap ending_in (sym is ∙ e)))

-- where the request ends with no failed call, the play does
pub goes_on : (played : Result (Unit {0}) PlayEnd) (result : Result (Unit {0}) Ending)
    → IsEndingOf played result → is_fault result ≡ false → is_play_fault played ≡ false
goes_on (Ok x) result is e = refl
goes_on (Err (play_end.Line number why)) result is e = refl
goes_on (Err (play_end.Stop stop.NoMemory)) result is e = refl
goes_on (Err (play_end.Stop stop.Full)) result is e = refl
goes_on (Err (play_end.Stop (stop.Damaged block))) result is e = refl
goes_on (Err (play_end.Stop stop.Fault)) result is e =
    sym (ap (λ (r : Result (Unit {0}) Ending). is_fault r) is) ∙ e

pub rose_before : (start before now end : ℕ) → start ≤ before → now ≡ end → Rose before now
    → Rose start end
rose_before start before now end le is rose = omega (arith, rose)

-- ---- what a crash leaves

-- over the leaves from which the engine was made, and those that it gives back
pub leaves_over : {S : Type 0} (g : Ghosts S) (schema : Schema) (built : Built) (p : Playing)
    (failed other : Bool) (e f : Engine S) (old new : S) → schema_of e ≡ schema
    → built_of e ≡ built → leaves_of e ≡ old → new ≡ leaves_of f
    → (other ≡ false → failed ≡ false)
    → LeavesPlay g (schema_of e) (built_of e) answers.Said p
    (script_lines (g.content (leaves_of e)).script).lines failed (leaves_of e) (leaves_of f)
    → LeavesPlay g schema built answers.Said p (script_lines (g.content old).script).lines other old
    new
leaves_over {S = S} g schema built p failed other e f old new schema_is built_is old_is new_is less
    leaves =
    leaves_on g schema built answers.Said p (script_lines (g.content old).script).lines failed other
    old new less
    (subst (λ (x : Schema). LeavesPlay g x built answers.Said p
    (script_lines (g.content old).script).lines failed old new) schema_is
    (subst (λ (x : Built). LeavesPlay g (schema_of e) x answers.Said p
    (script_lines (g.content old).script).lines failed old new) built_is
    (subst (λ (x : S). LeavesPlay g (schema_of e) (built_of e) answers.Said p
    (script_lines (g.content x).script).lines failed x new) old_is
    (subst (λ (x : S). LeavesPlay g (schema_of e) (built_of e) answers.Said p
    (script_lines (g.content (leaves_of e)).script).lines failed (leaves_of e) x) (sym new_is)
    leaves))))
