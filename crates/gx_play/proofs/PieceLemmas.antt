-- The play of a script that comes in pieces.
use Rattle.std.proofs.Common.{◌≡◌, ℕ, ◌+◌, List, ◌++◌, Bool, IsTrue, Result, Ok, Err, refl, sym, ap, subst, ◌∙◌, inl}
use Rattle.std.specs.Prelude.{OnOk}
use Rattle.gx_device.specs.Content.{Listens}
use Rattle.gx_device.proofs.PrefixLemmas.{prefix_same, prefix_twice}
use Rattle.gx_commands.specs.declared.command.LineWhy.{LineWhy}
use Rattle.gx_commands.specs.Lines.{Lines, with_line, no_lines, script_lines}
use Rattle.gx_reader.specs.declared.reader.LineReader.{LineReader}
use Rattle.gx_reader.specs.Reader.{meant, number_of}
use Rattle.gx_ports.specs.declared.stop.Stop.{Stop}
use Rattle.gx_ports.specs.declared.stop.Stop.TheVariants as stop
use Rattle.gx_ports.specs.declared.view.View.{Ghosts}
use Rattle.gx_model.specs.Play.{Playing, end_at}
use Rattle.gx_engine.specs.declared.engine.Engine.{Engine}
use Rattle.gx_engine.specs.Steps.{IsAt, IsReady, IsSame, schema_of, built_of, leaves_of, is_open}
use Rattle.gx_play.specs.declared.play.Answers.{Answers}
use Rattle.gx_play.specs.declared.play.Answers.TheVariants as answers
use Rattle.gx_play.specs.declared.play.PlayEnd.{PlayEnd}
use Rattle.gx_play.specs.declared.play.PlayEnd.TheVariants as play_end
use Rattle.gx_play.specs.Answering.{are_told, beside, with_answers}
use Rattle.gx_play.specs.Plays.{IsLinePlayed, IsBadAt, IsGivenUp, IsLineEnd, IsPlayedPart, IsPlayedUp, KeepsPlayed, CountsFailed, is_play_fault}
use Rattle.gx_play.specs.Pieces.{GoesOn, IsGoing, IsPlayedOn, KeepsHeard}
use Rattle.gx_play.proofs.PlayLemmas.{at_start, after_line, at_line, at_line_end, at_end, part_before, fault_not_full, kept_at}
use Rattle.gx_play.proofs.AnsweringLemmas.{at_beside, at_alone, none_failed}

-- ---- one line, and the end

pub going_first : {S : Type 0} (g : Ghosts S) (start : Playing) (all : Lines) (e : Engine S)
    → IsAt g start e → IsGoing g start all all 0 e e
going_first g start all e at =
    record { so_far = at_start g start all e at; schema = refl; built = refl; limit = refl }

pub going_line : {S : Type 0} (g : Ghosts S) (start : Playing) (all before left : Lines)
    (number next : ℕ) (line : List ℕ) (old e new : Engine S) → before ≡ with_line line left
    → next ≡ number + 1 → IsTrue g.tells
    → schema_of new ≡ schema_of e → built_of new ≡ built_of e
    → g.limit (leaves_of new) ≡ g.limit (leaves_of e)
    → (going : IsGoing g start all before number old e)
    → IsLinePlayed g going.so_far.now line e new → IsGoing g start all left next old new
going_line g start all before left number next line old e new before_is next_is told schema_is
    built_is limit_is going played =
    subst (λ n. IsGoing g start all left n old new) (sym next_is)
    (record {
      so_far = after_line g start all before left number line old e new going.schema before_is told
          going.so_far played;
      schema = schema_is ∙ going.schema;
      built = built_is ∙ going.built;
      limit = limit_is ∙ going.limit;
    })

-- a line that was carried out leaves an engine that stands for a moment of a play
pub line_goes_on : {S : Type 0} (g : Ghosts S) (to : Answers) (line : List ℕ)
    (result : Result (Unit {0}) PlayEnd) (old new : Engine S) (out now : List ℕ)
    → ((p : Playing) → IsAt g p old → OnOk result
    (IsLinePlayed (beside g to) p line (with_answers old out) (with_answers new now)))
    → OnOk result (GoesOn g old new)
line_goes_on g to line (Ok x) old new out now played =
    λ p at. (_, at_alone g to _ new now (played p at).played.at)
line_goes_on g to line (Err end) old new out now played = tt

-- where a line isn't carried out
pub going_bad : {S : Type 0} (g : Ghosts S) (start : Playing) (all before left behind : Lines)
    (number next many : ℕ) (line : List ℕ) (end : PlayEnd) (result : Result (Unit {0}) PlayEnd)
    (old e new : Engine S) → before ≡ with_line line left → next ≡ number + 1 → IsReady g e
    → (going : IsGoing g start all before number old e) → result ≡ Err end
    → ((n : ℕ) (reason : LineWhy) → end ≡ play_end.Line n reason
    → IsBadAt (schema_of e) (is_open e) next line n reason × (new ≡ e))
    → ((why : Stop) → end ≡ play_end.Stop why → IsGivenUp g going.so_far.now line e new why)
    → IsPlayedOn g start all behind many old new result
going_bad g start all before left behind number next many line end result old e new before_is
    next_is ready going result_is bad up =
    subst (IsPlayedOn g start all behind many old new) (sym result_is)
    (at_line g start all before left number line end (Err end) old e new going.schema going.built
    going.limit before_is going.so_far ready refl
    (λ n reason is. (
      subst (λ k. IsBadAt (schema_of e) (is_open e) k line n reason) next_is (bad n reason is).0,
      (bad n reason is).1,
    )) up)

-- where the next line can't be had
pub going_end : {S : Type 0} (g : Ghosts S) (start : Playing) (all left behind : Lines)
    (number many : ℕ) (end : PlayEnd) (result : Result (Unit {0}) PlayEnd) (old e : Engine S)
    → IsGoing g start all left number old e → result ≡ Err end → IsLineEnd left number end
    → IsPlayedOn g start all behind many old e result
going_end g start all left behind number many end result old e going result_is is =
    subst (IsPlayedOn g start all behind many old e) (sym result_is)
    (at_line_end g start all left number end (Err end) old e going.so_far refl is)

-- where no more lines are left
pub going_out : {S : Type 0} (g : Ghosts S) (start : Playing) (all left : Lines) (number : ℕ)
    (at : Bool) (old e : Engine S) → IsGoing g start all left number old e → left ≡ no_lines
    → is_open e ≡ at → IsPlayedUp g start all old e (end_at number at)
going_out g start all left number at old e going left_is open_is =
    at_end g start all left number old e at going.so_far left_is open_is

-- where the rest of the script can't be heard
pub going_unheard : {S : Type 0} (g : Ghosts S) (start : Playing) (all left : Lines) (number : ℕ)
    (old e : Engine S) → IsGoing g start all left number old e
    → IsPlayedPart g start all old e stop.Fault
going_unheard g start all left number old e going =
    part_before g start all left number old e e stop.Fault going.so_far refl
    (λ other. absurd (other refl))
    (λ _. inl (kept_at g going.so_far.now old e going.schema going.built going.so_far.at))
    fault_not_full

-- ---- a piece

-- what is played of a piece, of which these bytes are left
abbrev pub GoesTo : {S : Type 0} → Ghosts S → List ℕ → LineReader → List ℕ → LineReader → Engine S
    → Engine S → Type 0
GoesTo {S = S} g piece reader left then old new =
    (p : Playing) (all : Lines) (rest : List ℕ) (start : Engine S)
    → IsGoing g p all (meant reader (piece ++ rest)) (number_of reader) start old
    → IsGoing g p all (meant then (left ++ rest)) (number_of then) start new

-- ---- to hear

pub still_at : {S : Type 0} (g : Ghosts S) (p : Playing) (e f : Engine S) → IsSame g e f
    → IsAt g p e → IsAt g p f
still_at g p e f same at = record {
  stands = rw (
    same.schema,
    same.built,
    same.inside,
    same.commits,
    same.talks.working,
    same.talks.kept,
  ) at.stands;
  whole_is = same.talks.whole at.whole_is;
  kept_whole_is = same.talks.kept_whole.0 at.kept_whole_is;
}

-- the play stands where it stood
pub going_heard : {S : Type 0} (g : Ghosts S) (start : Playing) (all left : Lines) (number : ℕ)
    (old : Engine (S × List ℕ)) (e f : Engine S) (out : List ℕ) → IsSame g e f
    → Listens (g.content (leaves_of e)) (g.content (leaves_of f))
    → IsGoing (beside g answers.Said) start all left number old (with_answers e out)
    → IsGoing (beside g answers.Said) start all left number old (with_answers f out)
going_heard g start all left number old e f out same listens going =
    let so = going.so_far in
    record {
      so_far = record {
        now = so.now;
        answers = so.answers;
        at = at_beside g answers.Said so.now f out
            (still_at g so.now e f same (at_alone g answers.Said so.now e out so.at));
        said = ap (λ m. m.said) listens.now ∙ so.said;
        ran = so.ran;
        many = so.many;
        lines_are = so.lines_are;
        stop_is = so.stop_is;
        runs = so.runs;
      };
      schema = same.schema ∙ going.schema;
      built = same.built ∙ going.built;
      limit = same.talks.limit ∙ going.limit;
    }

ready_still : {S : Type 0} (g : Ghosts S) (e f : Engine S) → IsSame g e f → IsReady g e
    → IsReady g f
ready_still g e f same ready = rw (same.schema, same.built, same.talks.working) ready

-- ---- what stays of the engine

pub heard_same : {S : Type 0} (g : Ghosts S) (e : Engine S) → IsReady g e → KeepsHeard g e e
heard_same g e ready = record {
  schema = refl;
  built = refl;
  ready = ready;
  limit = refl;
  head = refl;
  shelf = refl;
  aside = refl;
  begins = λ told. prefix_same _ _ refl;
}

pub heard_then : {S : Type 0} (g : Ghosts S) (a b c : Engine S) → KeepsHeard g a b → IsSame g b c
    → Listens (g.content (leaves_of b)) (g.content (leaves_of c)) → KeepsHeard g a c
heard_then g a b c keeps same listens = record {
  schema = same.schema ∙ keeps.schema;
  built = same.built ∙ keeps.built;
  ready = ready_still g b c same keeps.ready;
  limit = same.talks.limit ∙ keeps.limit;
  head = same.talks.head ∙ keeps.head;
  shelf = ap (λ m. m.shelf) listens.now ∙ keeps.shelf;
  aside = listens.aside ∙ keeps.aside;
  begins = λ told. prefix_twice _ _ _ (keeps.begins told)
      (prefix_same _ _ (ap (λ m. m.said) listens.now));
}

pub played_then : {S : Type 0} (g : Ghosts S) (to : Answers) (a b c : Engine S)
    → KeepsHeard g a b → KeepsPlayed g to b c → KeepsHeard g a c
played_then g to a b c keeps played = record {
  schema = played.schema ∙ keeps.schema;
  built = played.built ∙ keeps.built;
  ready = played.ready;
  limit = played.limit ∙ keeps.limit;
  head = played.head ∙ keeps.head;
  shelf = played.rest.shelf ∙ keeps.shelf;
  aside = played.rest.aside ∙ keeps.aside;
  begins = λ told. prefix_twice _ _ _ (keeps.begins told) (played.begins told);
}

-- ---- a line, by the clauses of its play

pub line_on : {S : Type 0} (g : Ghosts S) (to : Answers) (start : Playing)
    (all before left : Lines) (number next : ℕ) (line : List ℕ)
    (result : Result (Unit {0}) PlayEnd) (old : Engine (S × List ℕ)) (e new : Engine S)
    (out now : List ℕ) → before ≡ with_line line left → next ≡ number + 1
    → IsTrue (are_told g.tells to) → KeepsPlayed g to e new → IsReady g e
    → ((p : Playing) → IsAt g p e → OnOk result (IsLinePlayed (beside g to) p line
    (with_answers e out) (with_answers new now)))
    → ((n : ℕ) (why : LineWhy) → result ≡ Err (play_end.Line n why)
    → IsBadAt (schema_of e) (is_open e) next line n why)
    → ((n : ℕ) (why : LineWhy) → result ≡ Err (play_end.Line n why)
    → with_answers new now ≡ with_answers e out)
    → ((p : Playing) → IsAt g p e → (why : Stop) → result ≡ Err (play_end.Stop why)
    → IsGivenUp (beside g to) p line (with_answers e out) (with_answers new now) why)
    → IsGoing (beside g to) start all before number old (with_answers e out)
    → IsPlayedOn (beside g to) start all left next old (with_answers new now) result
line_on g to start all before left number next line (Ok x) old e new out now before_is next_is told
    keeps ready played bad stays up going =
    going_line (beside g to) start all before left number next line old (with_answers e out)
    (with_answers new now) before_is next_is told keeps.schema keeps.built keeps.limit going
    (played going.so_far.now (at_alone g to going.so_far.now e out going.so_far.at))
line_on g to start all before left number next line (Err end) old e new out now before_is next_is
    told keeps ready played bad stays up going =
    going_bad (beside g to) start all before left left number next next line end (Err end) old
    (with_answers e out) (with_answers new now) before_is next_is ready going refl
    (λ n why is. (bad n why (ap Err is), stays n why (ap Err is)))
    (λ why is. up going.so_far.now (at_alone g to going.so_far.now e out going.so_far.at) why
    (ap Err is))

-- a new reader stands before the first line of a script
pub going_new : {S : Type 0} (g : Ghosts S) (p : Playing) (script : List ℕ) (reader : LineReader)
    (e : Engine S) → ((s : List ℕ) → meant reader s ≡ script_lines s) → number_of reader ≡ 0
    → IsAt g p e → IsGoing g p (script_lines script) (meant reader script) (number_of reader) e e
going_new g p script reader e lines number at =
    subst (λ n. IsGoing g p (script_lines script) (meant reader script) n e e) (sym number)
    (subst (λ ls. IsGoing g p (script_lines script) ls 0 e e) (sym (lines script))
    (going_first g p (script_lines script) e at))

-- a limit that is passed is no failed call
pub line_counts : (lines : Lines) (number : ℕ) (end : PlayEnd)
    (result : Result (Unit {0}) PlayEnd) (before now : ℕ) → IsLineEnd lines number end
    → result ≡ Err end → now ≡ before → CountsFailed before now (is_play_fault result)
line_counts lines number (play_end.Line n why) result before now is result_is same =
    subst (λ (r : Result (Unit {0}) PlayEnd). CountsFailed before now (is_play_fault r))
    (sym result_is) (none_failed before now same)
line_counts lines number (play_end.Stop why) result before now is result_is same = absurd is
