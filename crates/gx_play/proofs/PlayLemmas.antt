-- The loop over the lines of a script.
use Rattle.std.proofs.Common.{◌≡◌, ℕ, ◌+◌, List, [], ◌∷◌, ◌++◌, take, Bool, false, IsTrue, Result, Ok, Err, Option, Some, None, refl, sym, ap, subst, ◌∙◌, arith, inl, inr}
use Rattle.std.specs.Prelude.{◌≢◌, ◌⊎◌, IsErrAnd}
use Rattle.std.proofs.lemmas.List.{append-nil, append_assoc, length-append}
use Rattle.gx_schema.specs.declared.schema.Schema.{Schema}
use Rattle.gx_commands.specs.declared.command.Command.TheVariants as command
use Rattle.gx_commands.specs.declared.command.LineWhy.{LineWhy}
use Rattle.gx_commands.specs.Lines.{Lines, with_line, no_lines, stopped as stopped_lines}
use Rattle.gx_script.specs.Grammar.{IsLineOf}
use Rattle.gx_ports.specs.Calls.{Keeps}
use Rattle.gx_ports.specs.declared.view.View.{Ghosts}
use Rattle.gx_types.specs.declared.built.Built.{Built}
use Rattle.gx_ports.specs.declared.stop.Stop.{Stop}
use Rattle.gx_model.specs.Play.{Playing, End, stopped, end_at, is_inside}
use Rattle.gx_model.specs.Languages.{AreFirstLines}
use Rattle.gx_engine.specs.declared.engine.Engine.{Engine}
use Rattle.gx_engine.specs.Moments.{AreInternal}
use Rattle.gx_engine.specs.Steps.{schema_of, built_of, leaves_of, is_open, IsReady, IsAt}
use Rattle.gx_ports.specs.declared.stop.Stop.TheVariants as stop
use Rattle.gx_play.specs.declared.lines.Asked.{Asked}
use Rattle.gx_play.specs.declared.lines.Asked.TheVariants as asked
use Rattle.gx_play.specs.Asked.{IsAsked, IsAnsweredTo, after_asked, is_commit, Runs, IsBadLine, IsEnd}
use Rattle.gx_play.proofs.AskedLemmas.{step_of, run_on}
use Rattle.gx_play.specs.declared.play.PlayEnd.{PlayEnd}
use Rattle.gx_play.specs.declared.play.PlayEnd.TheVariants as play_end
use Rattle.gx_play.specs.Plays.{IsLinePlayed, IsLineCut, IsCommitLine, IsBadAt, IsPlayedUp, IsPlayedPart, IsPlayedTo, IsLineEnd, IsSoFar, IsShortLine, IsGivenUp, KeepsState}
use Rattle.gx_play.specs.Played.{IsShortAt}

-- no line was played yet
pub at_start : {S : Type 0} (g : Ghosts S) (start : Playing) (all : Lines) (e : Engine S)
    → IsAt g start e → IsSoFar g start all all 0 e e
at_start g start all e at = record {
  now = start;
  answers = [];
  at = at;
  said = sym (append-nil _);
  ran = [];
  many = refl;
  lines_are = refl;
  stop_is = refl;
  runs = (refl, refl);
}

-- one line more runs
one_more : (schema : Schema) (start p : Playing) (ran : List (List ℕ)) (answers line : List ℕ)
    (a : Asked) (answer : List ℕ) → Runs schema start ran answers p
    → IsAsked schema (is_inside p) line a → IsAnsweredTo schema p a answer
    → Runs schema start (ran ++ line ∷ []) (answers ++ answer) (after_asked schema p a)
one_more schema start p ran answers line a answer runs means answered =
    subst (λ t. Runs schema start (ran ++ line ∷ []) t (after_asked schema p a))
    (ap (λ t. answers ++ t) (append-nil answer))
    (run_on schema start p (after_asked schema p a) ran (line ∷ []) answers (answer ++ []) runs (
      answer,
      [],
      after_asked schema p a,
      step_of schema p line answer a means answered,
      (refl, refl),
      refl,
    ))

-- the lines of which one more ran
pub parts_more : (all before left : Lines) (ran : List (List ℕ)) (line : List ℕ)
    → all.lines ≡ ran ++ before.lines
    → before ≡ with_line line left → all.lines ≡ (ran ++ line ∷ []) ++ left.lines
parts_more all before left ran line parts before_is =
    parts ∙ ap (λ (ls : Lines). ran ++ ls.lines) before_is
    ∙ sym (append_assoc ran (line ∷ []) left.lines)

-- one more line was played
pub after_line : {S : Type 0} (g : Ghosts S) (start : Playing) (all before left : Lines)
    (number : ℕ)
    (line : List ℕ) (old e new : Engine S) → schema_of e ≡ schema_of old
    → before ≡ with_line line left
    → IsTrue g.tells → (so : IsSoFar g start all before number old e)
    → IsLinePlayed g so.now line e new
    → IsSoFar g start all left (number + 1) old new
after_line g start all before left number line old e new schema_is before_is told so played =
    record {
      now = after_asked (schema_of old) so.now played.asked;
      answers = so.answers ++ played.played.answer;
      at = subst (λ s. IsAt g (after_asked s so.now played.asked) new) schema_is
          played.played.at;
      said = played.played.said told ∙ ap (λ t. t ++ played.played.answer) so.said
          ∙ append_assoc _ so.answers played.played.answer;
      ran = so.ran ++ line ∷ [];
      many = length-append so.ran (line ∷ []) ∙ ap (λ n. n + 1) so.many;
      lines_are = parts_more all before left so.ran line so.lines_are before_is;
      stop_is = so.stop_is ∙ ap (λ (ls : Lines). ls.stop) before_is;
      runs = one_more (schema_of old) start so.now so.ran so.answers line played.asked
          played.played.answer so.runs
          (subst (λ s. IsAsked s (is_inside so.now) line played.asked) schema_is played.means)
          (subst (λ s. IsAnsweredTo s so.now played.asked played.played.answer) schema_is
          played.played.answered);
    }

-- the play ends there
ended : {S : Type 0} (g : Ghosts S) (start : Playing) (all left : Lines) (number : ℕ)
    (next : Result (Option (List ℕ)) LineWhy) (old e : Engine S) (end : End)
    → (so : IsSoFar g start all left number old e) → AreFirstLines all so.ran next
    → IsEnd (schema_of old) so.now number next end → IsPlayedUp g start all old e end
ended g start all left number next old e end so first ends = record {
  text = so.answers;
  final = so.now;
  played = record {
    ran = so.ran;
    next = next;
    first = first;
    runs = so.runs;
    ends = subst
        (λ n. IsEnd (schema_of old) so.now n next end) (sym so.many) ends;
  };
  said = so.said;
  at = so.at;
}

-- no more lines are left
all_ran : {S : Type 0} (g : Ghosts S) (start : Playing) (all left : Lines) (number : ℕ)
    (stop : Option LineWhy)
    (old e : Engine S) → left ≡ record { lines = []; stop = stop }
    → (so : IsSoFar g start all left number old e) → (all.lines ≡ so.ran) × (all.stop ≡ stop)
all_ran g start all left number stop old e left_is so = (
  so.lines_are ∙ ap (λ (ls : Lines). so.ran ++ ls.lines) left_is ∙ append-nil so.ran,
  so.stop_is ∙ ap (λ (ls : Lines). ls.stop) left_is,
)

-- at its end, where no transaction is open or one is
pub at_end : {S : Type 0} (g : Ghosts S) (start : Playing) (all left : Lines) (number : ℕ)
    (old e : Engine S)
    (at : Bool) → IsSoFar g start all left number old e → left ≡ no_lines → is_open e ≡ at
    → IsPlayedUp g start all old e (end_at number at)
at_end g start all left number old e at so left_is open_is =
    ended g start all left number (Ok None) old e (end_at number at) so
    (all_ran g start all left number None old e left_is so)
    (ap (end_at number) (sym open_is ∙ so.at.stands.inside_same))

-- where the line behind can't be had
pub at_stop : {S : Type 0} (g : Ghosts S) (start : Playing) (all left : Lines) (number n : ℕ)
    (reason : LineWhy)
    (old e : Engine S) → IsSoFar g start all left number old e → n ≡ number + 1
    → left ≡ stopped_lines reason
    → IsPlayedUp g start all old e (stopped n reason)
at_stop g start all left number n reason old e so n_is left_is =
    ended g start all left number (Err reason) old e (stopped n reason) so
    (all_ran g start all left number (Some reason) old e left_is so)
    (ap (λ k. stopped k reason) n_is)

-- at a line that means neither a path nor a command that may stand there
at_bad_line : {S : Type 0} (g : Ghosts S) (start : Playing) (all before left : Lines) (number : ℕ)
    (line : List ℕ) (reason : LineWhy) (old e : Engine S) → schema_of e ≡ schema_of old
    → before ≡ with_line line left → IsSoFar g start all before number old e
    → IsBadLine (schema_of e) (is_open e) line reason
    → IsPlayedUp g start all old e (stopped (number + 1) reason)
at_bad_line g start all before left number line reason old e schema_is before_is so bad =
    ended g start all before number (Ok (Some line)) old e (stopped (number + 1) reason) so
    (left.lines, so.lines_are ∙ ap (λ (ls : Lines). so.ran ++ ls.lines) before_is) (
      reason,
      subst (λ s. IsBadLine s (is_inside so.now) line reason) schema_is
          (subst (λ i. IsBadLine (schema_of e) i line reason) so.at.stands.inside_same bad),
      refl,
    )

-- ---- a line that is given up

-- what was last committed stays the last kept state
kept_after : {S : Type 0} (g : Ghosts S) (p : Playing) (old e new : Engine S)
    → schema_of e ≡ schema_of old
    → built_of e ≡ built_of old → IsAt g p e → Keeps g (leaves_of e) (leaves_of new)
    → KeepsState g (schema_of old) (built_of old) (leaves_of new) p.kept
kept_after g p old e new schema_is built_is at keeps = (
  subst (λ (b : Built). AreInternal (schema_of old) b (g.kept (leaves_of new)) p.kept) built_is
      (subst (λ (s : Schema). AreInternal s (built_of e) (g.kept (leaves_of new)) p.kept) schema_is
      (subst (λ maps. AreInternal (schema_of e) (built_of e) maps p.kept)
      (sym keeps.kept) at.stands.kept_is)),
  keeps.kept_whole.0 at.kept_whole_is,
)

-- the same where the play ends
pub kept_at : {S : Type 0} (g : Ghosts S) (p : Playing) (old e : Engine S)
    → schema_of e ≡ schema_of old
    → built_of e ≡ built_of old → IsAt g p e
    → KeepsState g (schema_of old) (built_of old) (leaves_of e) p.kept
kept_at g p old e schema_is built_is at = (
  subst (λ (b : Built). AreInternal (schema_of old) b (g.kept (leaves_of e)) p.kept) built_is
      (subst (λ (s : Schema). AreInternal s (built_of e) (g.kept (leaves_of e)) p.kept) schema_is
      at.stands.kept_is),
  at.kept_whole_is,
)

-- the pages may be too few for the line
short_at : {S : Type 0} (g : Ghosts S) (p : Playing) (before left : Lines) (line : List ℕ)
    (old e : Engine S)
    → schema_of e ≡ schema_of old → built_of e ≡ built_of old
    → g.limit (leaves_of e) ≡ g.limit (leaves_of old)
    → before ≡ with_line line left → IsReady g e → IsAt g p e → IsShortLine g e p line
    → IsShortAt (schema_of old) (built_of old) (g.limit (leaves_of old)) p before.lines
short_at g p before left line old e schema_is built_is limit_is before_is ready at
    (command, means, placed, short) =
    subst (λ (b : Built). IsShortAt (schema_of old) b (g.limit (leaves_of old)) p before.lines)
    built_is
    (subst (λ (s : Schema). IsShortAt s (built_of e) (g.limit (leaves_of old)) p before.lines)
    schema_is
    (subst (λ l. IsShortAt (schema_of e) (built_of e) l p before.lines) limit_is
    (record {
      maps = g.working (leaves_of e);
      many = sym ready.owned.each;
      before = at.stands.working_is;
      short = record {
        line = line;
        later = left.lines;
        lines_are = ap
            (λ (ls : Lines). ls.lines) before_is;
        command = command;
        means = means;
        placed = placed;
        wants = short.0;
        short = short.1;
      };
    })))

-- the answers of the lines before it
pub part_before : {S : Type 0} (g : Ghosts S) (start : Playing) (all before : Lines) (number : ℕ)
    (old e new : Engine S) (why : Stop) → (so : IsSoFar g start all before number old e)
    → (g.content (leaves_of new)).now.said ≡ (g.content (leaves_of e)).now.said
    → (why ≢ stop.Fault → KeepsState g (schema_of old) (built_of old) (leaves_of new) so.now.kept)
    → (why ≡ stop.Fault → KeepsState g (schema_of old) (built_of old) (leaves_of new) so.now.kept
    ⊎ IsCommitLine (schema_of old) before.lines)
    → (why ≡ stop.Full → IsShortAt (schema_of old) (built_of old) (g.limit (leaves_of old)) so.now
    before.lines)
    → IsPlayedPart g start all old new why
part_before g start all before number old e new why so unsaid kept failed short = record {
  ran = so.ran;
  later = before.lines;
  parts = so.lines_are;
  text = so.answers;
  final = so.now;
  runs = so.runs;
  up_to = record {
    first = so.ran;
    last = [];
    one = omega arith;
    ran_are = sym (append-nil so.ran);
    whole = so.answers;
    cut = [];
    text_is = sym (append-nil so.answers);
    middle = so.now;
    runs = so.runs;
    count = 0;
    said = unsaid ∙ so.said
        ∙ ap (λ t. (g.content (leaves_of old)).now.said ++ t) (sym (append-nil so.answers));
  };
  whole = λ _. unsaid ∙ so.said;
  kept = kept;
  failed = λ fault. inr (unsaid ∙ so.said, failed fault);
  short = short;
}

pub fault_not_full : {A : Type 0} → stop.Fault ≡ stop.Full → A
fault_not_full e = absurd (never e)
  where
    never : stop.Fault ≡ stop.Full → ⊥
    never f = cc

-- the same, and a front of its own
part_within : {S : Type 0} (g : Ghosts S) (start : Playing) (all before left : Lines) (number : ℕ)
    (line : List ℕ) (a : Asked) (answer : List ℕ) (n : ℕ) (old e new : Engine S)
    → before ≡ with_line line left → (so : IsSoFar g start all before number old e)
    → IsAsked (schema_of old) (is_inside so.now) line a
    → IsAnsweredTo (schema_of old) so.now a answer
    → IsAt g (after_asked (schema_of old) so.now a) new
    → (g.content (leaves_of new)).now.said ≡ (g.content (leaves_of e)).now.said ++ take n answer
    → IsPlayedPart g start all old new stop.Fault
part_within g start all before left number line a answer n old e new before_is so means answered at
    said = record {
      ran = so.ran ++ line ∷ [];
      later = left.lines;
      parts = parts_more all before left so.ran line so.lines_are before_is;
      text = so.answers ++ answer;
      final = after_asked (schema_of old) so.now a;
      runs = one_more (schema_of old) start so.now so.ran so.answers line a answer so.runs means
          answered;
      up_to = record {
        first = so.ran;
        last = line ∷ [];
        one = omega arith;
        ran_are = refl;
        whole = so.answers;
        cut = answer;
        text_is = refl;
        middle = so.now;
        runs = so.runs;
        count = n;
        said = said ∙ ap (λ t. t ++ take n answer) so.said
            ∙ append_assoc (g.content (leaves_of old)).now.said so.answers (take n answer);
      };
      whole = λ other. absurd (other refl);
      kept = λ other. absurd (other refl);
      failed = λ _. inl at;
      short = fault_not_full;
    }

-- where nothing of its answer was said, it kept what was last committed, or it is a commit
unsaid_keeps : {S : Type 0} (g : Ghosts S) (p : Playing) (before left : Lines) (line : List ℕ)
    (a : Asked) (old e new : Engine S) → schema_of e ≡ schema_of old
    → built_of e ≡ built_of old
    → before ≡ with_line line left → IsAt g p e → IsAsked (schema_of e) (is_inside p) line a
    → (is_commit a ≡ false → Keeps g (leaves_of e) (leaves_of new))
    → KeepsState g (schema_of old) (built_of old) (leaves_of new) p.kept
    ⊎ IsCommitLine (schema_of old) before.lines
unsaid_keeps g p before left line (asked.Command command.Commit) old e new schema_is built_is
    before_is at means keeps =
    inr (
      line,
      left.lines,
      ap (λ (ls : Lines). ls.lines) before_is,
      subst (λ s. IsLineOf s line command.Commit) schema_is means.1,
    )
unsaid_keeps g p before left line _ old e new schema_is built_is before_is at means keeps =
    inl (kept_after g p old e new schema_is built_is at (keeps refl))

-- after a fault a front of its answer may have been said, where it was carried out
pub at_fault : {S : Type 0} (g : Ghosts S) (start : Playing) (all before left : Lines) (number : ℕ)
    (line : List ℕ) (old e new : Engine S) → schema_of e ≡ schema_of old → built_of e ≡ built_of old
    → before ≡ with_line line left → (so : IsSoFar g start all before number old e)
    → IsLineCut g so.now line e new → IsPlayedPart g start all old new stop.Fault
at_fault g start all before left number line old e new schema_is built_is before_is so (inl same) =
    part_before g start all before number old e new stop.Fault so
    (ap (λ (x : Engine _). (g.content (leaves_of x)).now.said) same) (λ other. absurd (other refl))
    (λ _. inl (subst (λ (x : Engine _). KeepsState g (schema_of old) (built_of old)
    (leaves_of x) so.now.kept)
    (sym same) (kept_at g so.now old e schema_is built_is so.at))) fault_not_full
at_fault g start all before left number line old e new schema_is built_is before_is so
    (inr (a, means, inl (unsaid, keeps))) =
    part_before g start all before number old e new stop.Fault so unsaid
    (λ other. absurd (other refl))
    (λ _. unsaid_keeps g so.now before left line a old e new schema_is built_is before_is so.at
    means keeps) fault_not_full
at_fault g start all before left number line old e new schema_is built_is before_is so
    (inr (a, means, inr (at, cut))) =
    part_within g start all before left number line a cut.0 cut.2.0 old e new before_is so
    (subst (λ s. IsAsked s (is_inside so.now) line a) schema_is means)
    (subst (λ s. IsAnsweredTo s so.now a cut.0) schema_is cut.1)
    (subst (λ s. IsAt g (after_asked s so.now a) new) schema_is at) cut.2.1

-- after another stop nothing of it was
at_other : {S : Type 0} (g : Ghosts S) (start : Playing) (all before left : Lines) (number : ℕ)
    (line : List ℕ)
    (why : Stop) (old e new : Engine S) → schema_of e ≡ schema_of old → built_of e ≡ built_of old
    → g.limit (leaves_of e) ≡ g.limit (leaves_of old) → before ≡ with_line line left
    → (so : IsSoFar g start all before number old e) → IsReady g e → why ≢ stop.Fault
    → IsGivenUp g so.now line e new why → IsPlayedPart g start all old new why
at_other g start all before left number line why old e new schema_is built_is limit_is before_is so
    ready other up =
    part_before g start all before number old e new why so (up.unsaid other)
    (λ _. kept_after g so.now old e new schema_is built_is so.at (up.kept other))
    (λ fault. absurd (other fault))
    (λ full. short_at g so.now before left line old e schema_is built_is limit_is before_is ready
    so.at (up.short full))

-- the same of every stop
pub at_cut : {S : Type 0} (g : Ghosts S) (start : Playing) (all before left : Lines) (number : ℕ)
    (line : List ℕ) (why : Stop) (old e new : Engine S) → schema_of e ≡ schema_of old
    → built_of e ≡ built_of old → g.limit (leaves_of e) ≡ g.limit (leaves_of old)
    → before ≡ with_line line left
    → (so : IsSoFar g start all before number old e) → IsReady g e
    → IsGivenUp g so.now line e new why
    → IsPlayedPart g start all old new why
at_cut g start all before left number line stop.Fault old e new schema_is built_is limit_is
    before_is so ready up =
    at_fault g start all before left number line old e new schema_is built_is before_is so up.cut
at_cut g start all before left number line stop.Full old e new schema_is built_is limit_is before_is
    so ready up =
    at_other g start all before left number line stop.Full old e new schema_is built_is limit_is
    before_is so ready (λ f. cc) up
at_cut g start all before left number line stop.NoMemory old e new schema_is built_is limit_is
    before_is so ready up =
    at_other g start all before left number line stop.NoMemory old e new schema_is built_is limit_is
    before_is so ready (λ f. cc) up
at_cut g start all before left number line (stop.Damaged block) old e new schema_is built_is
    limit_is before_is so ready up =
    at_other g start all before left number line (stop.Damaged block) old e new schema_is built_is
    limit_is before_is so ready (λ f. cc) up

-- how the play ends where a line isn't carried out
pub at_line : {S : Type 0} (g : Ghosts S) (start : Playing) (all before left : Lines) (number : ℕ)
    (line : List ℕ) (end : PlayEnd) (result : Result (Unit {0}) PlayEnd) (old e new : Engine S)
    → schema_of e ≡ schema_of old → built_of e ≡ built_of old
    → g.limit (leaves_of e) ≡ g.limit (leaves_of old)
    → before ≡ with_line line left → (so : IsSoFar g start all before number old e) → IsReady g e
    → result ≡ Err end → ((n : ℕ) (reason : LineWhy) → end ≡ play_end.Line n reason
    → IsBadAt (schema_of e) (is_open e) (number + 1) line n reason × (new ≡ e))
    → ((why : Stop) → end ≡ play_end.Stop why → IsGivenUp g so.now line e new why)
    → IsPlayedTo g start all old new result
at_line g start all before left number line (play_end.Line n reason) result old e new schema_is
    built_is
    limit_is before_is so ready result_is bad up =
    let at = bad n reason refl in
    subst (λ r. IsPlayedTo g start all old new r) (sym result_is)
    (subst (λ k. IsPlayedUp g start all old new (stopped k reason)) (sym at.0.0)
    (subst (λ x. IsPlayedUp g start all old x (stopped (number + 1) reason)) (sym at.1)
    (at_bad_line g start all before left number line reason old e schema_is before_is so at.0.1)))
at_line g start all before left number line (play_end.Stop s) result old e new schema_is built_is
    limit_is
    before_is so ready result_is bad up =
    subst (λ r. IsPlayedTo g start all old new r) (sym result_is)
    (at_cut g start all before left number line s old e new schema_is built_is limit_is before_is so
    ready (up s refl))

-- the same for the end that is answered
pub at_line_end : {S : Type 0} (g : Ghosts S) (start : Playing) (all left : Lines) (number : ℕ)
    (end : PlayEnd)
    (result : Result (Unit {0}) PlayEnd) (old e : Engine S) → IsSoFar g start all left number old e
    → result ≡ Err end → IsLineEnd left number end → IsPlayedTo g start all old e result
at_line_end g start all left number (play_end.Line n reason) result old e so result_is is =
    subst (λ r. IsPlayedTo g start all old e r) (sym result_is)
    (at_stop g start all left number n reason old e so is.0 is.1)
at_line_end g start all left number (play_end.Stop stop) result old e so result_is is = absurd is

-- an error that is passed on as it is
pub is_err : {A E : Type 0} (r : Result A E) (end : E) → IsErrAnd r (λ e. e ≡ end) → r ≡ Err end
is_err (Ok x) end is = absurd is
is_err (Err e) end is = ap Err is

-- no line is behind for another reason than its own
pub no_stop : (lines : Lines) (number : ℕ) (r : Result (Unit {0}) PlayEnd) (end : PlayEnd)
    (why : Stop)
    → IsLineEnd lines number end → r ≡ Err end → r ≡ Err (play_end.Stop why) → ⊥
no_stop lines number r (play_end.Line n reason) why is e f = other (sym e ∙ f)
  where
    other : ◌≡◌ {A = Result (Unit {0}) PlayEnd} (Err (play_end.Line n reason))
        (Err (play_end.Stop why)) → ⊥
    other g = cc
no_stop lines number r (play_end.Stop stop) why is e f = is
