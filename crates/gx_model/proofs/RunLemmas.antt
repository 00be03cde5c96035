-- A line means a command or is bad, in one way; so the play of commands is one.
use Rattle.std.proofs.Common.{◌≡◌, ℕ, Bool, List, ◌++◌, Option, Some, None, Result, Ok, Err, refl, sym, ap, subst, ◌∙◌, inl, inr}
use Rattle.std.specs.Prelude.{is_some}
use Rattle.gx_schema.specs.declared.schema.Schema.{Schema}
use Rattle.gx_commands.specs.declared.command.Command.{Command}
use Rattle.gx_commands.specs.declared.command.LineWhy.{LineWhy}
use Rattle.gx_commands.specs.Commands.{place_reason}
use Rattle.gx_commands.specs.Lines.{Lines}
use Rattle.gx_script.specs.Grammar.{IsLineOf}
use Rattle.gx_script.proofs.ReadingLaws.{one_reading, reading_of_line}
use Rattle.gx_model.specs.States.{State}
use Rattle.gx_model.specs.Play.{Playing, End, is_inside, after_command, IsAnswered, working_after}
use Rattle.gx_model.specs.Runs.{Step, Runs, commands, IsBadLine, IsPlayFrom, IsPlayTextFrom}
use Rattle.gx_model.proofs.AnswerLemmas.{answered_once}
use Rattle.gx_model.proofs.LanguageLemmas.{IsDefinite, AreOne, go_on, one_play, one_text_in}
pub use Rattle.gx_model.proofs.LanguageLemmas.{some_or, none_not_some, head_or, tail_of, no_line, later_of}

pub run_on : (schema : Schema) (p q r : Playing) (first later : List (List ℕ)) (text more : List ℕ)
    → Runs schema p first text q → Runs schema q later more r
    → Runs schema p (first ++ later) (text ++ more) r
run_on schema = go_on (commands schema)

-- ---- a line is good or bad, in one way

abbrev pub command_or : Command → Result Command LineWhy → Command
command_or d (Ok c) = c
command_or d (Err why) = d

abbrev pub why_or : LineWhy → Result Command LineWhy → LineWhy
why_or d (Ok c) = d
why_or d (Err why) = why

pub good_not_bad : (c : Command) (why : LineWhy) → ◌≡◌ {A = Result Command LineWhy} (Ok c) (Err why)
    → ⊥
good_not_bad c why e = cc

pub command_once : (schema : Schema) (line : List ℕ) (c d : Command) → IsLineOf schema line c
    → IsLineOf schema line d → c ≡ d
command_once schema line c d x y =
    ap (command_or c) (one_reading schema line (Ok c) (Ok d) (reading_of_line schema line c x)
    (reading_of_line schema line d y))

-- a line that means a command which may stand there isn't bad
pub line_not_bad : (schema : Schema) (inside : Bool) (line : List ℕ) (c : Command) (why : LineWhy)
    → IsLineOf schema line c → place_reason inside c ≡ None → IsBadLine schema inside line why → ⊥
line_not_bad schema inside line c why means allowed (inl read) =
    good_not_bad c why
    (one_reading schema line (Ok c) (Err why) (reading_of_line schema line c means) read)
line_not_bad schema inside line c why means allowed (inr bad) =
    none_not_some why (sym allowed
    ∙ ap (place_reason inside) (command_once schema line c bad.0 means bad.1) ∙ bad.2)

pub step_not_bad : (schema : Schema) (p : Playing) (line answer : List ℕ) (next : Playing)
    (why : LineWhy) → Step schema p line answer next → IsBadLine schema (is_inside p) line why → ⊥
step_not_bad schema p line answer next why step bad =
    line_not_bad schema (is_inside p) line step.command why step.means step.allowed bad

pub bad_once : (schema : Schema) (inside : Bool) (line : List ℕ) (why other : LineWhy)
    → IsBadLine schema inside line why → IsBadLine schema inside line other → why ≡ other
bad_once schema inside line why other (inl x) (inl y) =
    ap (why_or why) (one_reading schema line (Err why) (Err other) x y)
bad_once schema inside line why other (inl x) (inr y) =
    absurd (good_not_bad y.0 why
    (one_reading schema line (Ok y.0) (Err why) (reading_of_line schema line y.0 y.1) x))
bad_once schema inside line why other (inr x) (inl y) =
    absurd (good_not_bad x.0 other
    (one_reading schema line (Ok x.0) (Err other) (reading_of_line schema line x.0 x.1) y))
bad_once schema inside line why other (inr x) (inr y) =
    ap (some_or why) (sym x.2 ∙ ap (place_reason inside) (command_once schema line x.0 y.0 x.1 y.1)
    ∙ y.2)

pub step_once : (schema : Schema) (p : Playing) (line a b : List ℕ) (q r : Playing)
    → Step schema p line a q → Step schema p line b r → (a ≡ b) × (q ≡ r)
step_once schema p line a b q r x y =
    let same = command_once schema line x.command y.command x.means y.means in (
      answered_once schema p y.command a b (subst (λ c. IsAnswered schema p c a) same x.answered)
          y.answered,
      x.next_is ∙ ap (after_command schema p) same ∙ sym y.next_is,
    )

-- ---- the play of commands is one

pub definite : (schema : Schema) → IsDefinite (commands schema)
definite schema = record {
  goes_once = λ p line a b q r x y. step_once schema p line a b q r x y;
  bad_once = λ p line why other x y. bad_once schema (is_inside p) line why other x y;
  never_both = λ p line a q why x y. step_not_bad schema p line a q why x y;
}

pub play_once : (schema : Schema) (start : Playing) (all : Lines) (a b : List ℕ)
    (final other : Playing) (end close : End)
    → IsPlayFrom schema start all a final end → IsPlayFrom schema start all b other close
    → AreOne a b final other end close
play_once schema = one_play (commands schema) (definite schema)

pub one_text : (schema : Schema) (start : Playing) (script a b : List ℕ)
    → IsPlayTextFrom schema start script a → IsPlayTextFrom schema start script b → a ≡ b
one_text schema = one_text_in (commands schema) (definite schema)

pub some_after : (working : Option State) (s : State)
    → is_some (working_after working s) ≡ is_some working
some_after None s = refl
some_after (Some old) s = refl
