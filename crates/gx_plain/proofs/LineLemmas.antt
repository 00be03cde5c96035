-- The loop over the lines of a script.
use Rattle.std.proofs.Common.{◌≡◌, ℕ, ◌+◌, List, [], ◌∷◌, ◌++◌, Result, Ok, Err, Option, Some, None, refl, sym, ap, subst, ◌∙◌}
use Rattle.std.specs.Prelude.{is_some, IfOk}
use Rattle.std.proofs.lemmas.List.{append-nil, append_assoc, length-append}
use Rattle.gx_schema.specs.declared.schema.Schema.{Schema}
use Rattle.gx_commands.specs.declared.command.LineWhy.{LineWhy}
use Rattle.gx_commands.specs.Lines.{Lines, with_line, no_lines, script_lines, stopped as stopped_lines}
use Rattle.gx_model.specs.States.{empty_state}
use Rattle.gx_model.specs.Play.{end_at, end_text, start_at}
use Rattle.gx_model.specs.Languages.{RunsIn, IsEndIn, AreFirstLines, IsPlayTextIn}
use Rattle.gx_model.specs.Paths.{with_paths}
use Rattle.gx_model.proofs.LanguageLemmas.{go_on, one_text_in}
use Rattle.gx_model.proofs.PathLemmas.{definite_with_paths}
use Rattle.gx_plain.specs.Plain.{IsMoment, IsBadLine, IsLineDone, IsPlayedOut, IsSoFar, end_of}
use Rattle.gx_plain.specs.declared.plain.Moment.{Moment}
use Rattle.gx_plain.specs.declared.plain.PlayEnd.{PlayEnd}
use Rattle.gx_plain.specs.declared.plain.PlayEnd.TheVariants as play_end

-- no line was played yet
pub at_start : (schema : Schema) (script said : List ℕ) (m : Moment) (left : Lines) → said ≡ []
    → left ≡ script_lines script → IsMoment m (start_at (empty_state schema))
    → IsSoFar schema script said m left 0
at_start schema script said m left none all at = record {
  ran = [];
  many = refl;
  lines_are = ap (λ (ls : Lines). ls.lines) (sym all);
  stop_is = ap (λ (ls : Lines). ls.stop) (sym all);
  now = start_at (empty_state schema);
  runs = (none, refl);
  at = at;
}

-- one more line was played
pub after_line : (schema : Schema) (script said now_said answer line : List ℕ) (m new : Moment)
    (before left : Lines) (number : ℕ) → before ≡ with_line line left
    → (so : IsSoFar schema script said m before number)
    → IsLineDone schema so.now line answer new → now_said ≡ said ++ answer
    → IsSoFar schema script now_said new left (number + 1)
after_line schema script said now_said answer line m new before left number before_is so played
    said_is = record {
      ran = so.ran ++ line ∷ [];
      many = length-append so.ran (line ∷ []) ∙ ap (λ n. n + 1) so.many;
      lines_are = so.lines_are ∙ ap (λ (ls : Lines). so.ran ++ ls.lines) before_is
          ∙ sym (append_assoc so.ran (line ∷ []) left.lines);
      stop_is = so.stop_is ∙ ap (λ (ls : Lines). ls.stop) before_is;
      now = played.next;
      runs = subst (λ t. RunsIn (with_paths schema) (start_at (empty_state schema))
          (so.ran ++ line ∷ []) t played.next) (ap (λ t. said ++ t) (append-nil answer) ∙ sym said_is)
          (go_on (with_paths schema) (start_at (empty_state schema)) so.now played.next so.ran
          (line ∷ []) said (answer ++ []) so.runs
          (answer, [], played.next, played.step, (refl, refl), refl));
      at = played.at;
    }

-- the play ends, and nothing more was said
ended : (schema : Schema) (script said : List ℕ) (m : Moment) (left : Lines) (number : ℕ)
    (next : Result (Option (List ℕ)) LineWhy) (last : PlayEnd)
    → (so : IsSoFar schema script said m left number)
    → AreFirstLines (script_lines script) so.ran next
    → IsEndIn (with_paths schema) so.now number next (end_of last)
    → IsPlayedOut schema script (said, last)
ended schema script said m left number next last so first ends = (
  so.now,
  record {
    ran = so.ran;
    next = next;
    first = first;
    runs = so.runs;
    ends = subst (λ n. IsEndIn (with_paths schema) so.now n next (end_of last)) (sym so.many) ends;
  },
)

-- no more lines are left
all_ran : (schema : Schema) (script said : List ℕ) (m : Moment) (left : Lines) (number : ℕ)
    (stop : Option LineWhy) → left ≡ record { lines = []; stop = stop }
    → (so : IsSoFar schema script said m left number) → ((script_lines script).lines ≡ so.ran)
    × ((script_lines script).stop ≡ stop)
all_ran schema script said m left number stop left_is so = (
  so.lines_are ∙ ap (λ (ls : Lines). so.ran ++ ls.lines) left_is ∙ append-nil so.ran,
  so.stop_is ∙ ap (λ (ls : Lines). ls.stop) left_is,
)

-- at its end, where no transaction is open or one is
pub at_end : (schema : Schema) (script said : List ℕ) (m : Moment) (left : Lines) (number : ℕ)
    (last : PlayEnd) → left ≡ no_lines → IsSoFar schema script said m left number
    → end_of last ≡ end_at number (is_some m.working) → IsPlayedOut schema script (said, last)
at_end schema script said m left number last left_is so last_is =
    ended schema script said m left number (Ok None) last so
    (all_ran schema script said m left number None left_is so)
    (let at = so.at in last_is ∙ ap (λ w. end_at number (is_some w)) at.working)

-- where the line behind can't be had
pub at_stop : (schema : Schema) (script said : List ℕ) (m : Moment) (left : Lines) (number : ℕ)
    (reason : LineWhy) → left ≡ stopped_lines reason → IsSoFar schema script said m left number
    → IsPlayedOut schema script (said, play_end.Stopped (number + 1) reason)
at_stop schema script said m left number reason left_is so =
    ended schema script said m left number (Err reason) (play_end.Stopped (number + 1) reason) so
    (all_ran schema script said m left number (Some reason) left_is so) refl

-- at a bad line
pub at_bad_line : (schema : Schema) (script said line : List ℕ) (m : Moment) (before left : Lines)
    (number : ℕ) (reason : LineWhy) → before ≡ with_line line left
    → IsSoFar schema script said m before number
    → IsBadLine schema (is_some m.working) line reason
    → IsPlayedOut schema script (said, play_end.Stopped (number + 1) reason)
at_bad_line schema script said line m before left number reason before_is so bad =
    ended schema script said m before number (Ok (Some line)) (play_end.Stopped (number + 1) reason)
    so
    (left.lines, so.lines_are ∙ ap (λ (ls : Lines). so.ran ++ ls.lines) before_is) (
      reason,
      let at = so.at in subst (λ w. IsBadLine schema (is_some w) line reason)
          at.working bad,
      refl,
    )

-- ---- the whole text

pub play_text : {E : Type 0} (r : Result (List ℕ) E) (schema : Schema) (script said : List ℕ)
    (last : PlayEnd) → IsPlayedOut schema script (said, last)
    → IfOk r (λ text. text ≡ said ++ end_text (end_of last))
    → IfOk r (IsPlayTextIn (with_paths schema) (start_at (empty_state schema)) script)
play_text (Err e) schema script said last out is = tt
play_text (Ok text) schema script said last out is =
    record { answers = said; final = out.0; end = end_of last; played = out.1; is = is }

pub only_text : {E : Type 0} (r : Result (List ℕ) E) (schema : Schema) (script text : List ℕ)
    → IfOk r (IsPlayTextIn (with_paths schema) (start_at (empty_state schema)) script)
    → IsPlayTextIn (with_paths schema) (start_at (empty_state schema)) script text
    → IfOk r (λ given. given ≡ text)
only_text (Err e) schema script text h p = tt
only_text (Ok given) schema script text h p =
    one_text_in (with_paths schema) (definite_with_paths schema) (start_at (empty_state schema))
    script given text h p
