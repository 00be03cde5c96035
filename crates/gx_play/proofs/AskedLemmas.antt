-- What lines ask for, as steps of their play.
use Rattle.std.proofs.Common.{◌≡◌, ◌∙◌, ℕ, Bool, true, false, List, [], ◌∷◌, ◌++◌, length, Option, Some, None, Result, Ok, Err, sym, ap, subst, refl, inl, inr}
use Rattle.std.specs.Prelude.{is_some, codes, if◌then◌else◌}
use Rattle.gx_schema.specs.declared.schema.Schema.{Schema}
use Rattle.gx_commands.specs.declared.command.Command.{Command}
use Rattle.gx_commands.specs.declared.command.LineWhy.{LineWhy}
use Rattle.gx_commands.specs.declared.command.LineWhy.TheVariants as why
use Rattle.gx_commands.specs.declared.path.PathQuery.{PathQuery}
use Rattle.gx_commands.specs.Lines.{Lines}
use Rattle.gx_commands.specs.Words.{Word, Bare, Quoted, begins_comment, is_comment, past_blanks}
use Rattle.gx_commands.specs.Cutting.{first_word, words_from, words_in}
use Rattle.gx_commands.proofs.CuttingLaws.{words_step, words_of_line}
use Rattle.gx_commands.proofs.WordLaws.{first_found, over_blanks}
use Rattle.gx_script.specs.Grammar.{IsLineOf}
use Rattle.gx_script.specs.Names.{is_text, verb_of}
use Rattle.gx_script.specs.Reading.{behind, reading}
use Rattle.gx_script.specs.Paths.{is_path, IsPathReading}
use Rattle.gx_script.proofs.WordMeanings.{same_text}
use Rattle.gx_script.proofs.CommandLaws.{reading_again}
use Rattle.gx_script.proofs.ReadingLaws.{differ}
use Rattle.gx_script.proofs.PathLaws.{one_path_reading, path_line_again}
use Rattle.gx_model.specs.Play.{Playing, End, good, stopped, is_inside}
use Rattle.gx_model.specs.Runs.{Step as CommandStep, Runs as CommandRuns, IsPlayFrom as IsCommandPlay, IsEnd as IsCommandEnd, IsBadLine as IsBadCommandLine}
use Rattle.gx_model.specs.Paths.{PathOr, PathStep, with_paths}
use Rattle.gx_model.proofs.LanguageLemmas.{AreOne, go_on, one_play}
use Rattle.gx_model.proofs.PathLemmas.{definite_with_paths}
use Rattle.gx_model.proofs.RunLemmas.{command_once, line_not_bad, good_not_bad, bad_once as bad_command_once}
use Rattle.gx_play.specs.declared.lines.Asked.{Asked}
use Rattle.gx_play.specs.declared.lines.Asked.TheVariants as asked
use Rattle.gx_play.specs.Asked.{IsAsked, IsAnsweredTo, after_asked, Step, IsBadLine, Runs, IsEnd, IsPlayFrom}

-- what a line asks for is a step
pub step_of : (schema : Schema) (p : Playing) (line answer : List ℕ) (a : Asked)
    → IsAsked schema (is_inside p) line a → IsAnsweredTo schema p a answer
    → Step schema p line answer (after_asked schema p a)
step_of schema p line answer (asked.Command c) (no_path, means, placed) answered =
    let next = after_asked schema p (asked.Command c) in
    let step : CommandStep schema p line answer next = record {
      command = c;
      means = means;
      allowed = placed;
      answered = answered;
      next_is = refl;
    } in
    subst (λ (b : Bool). PathOr b (PathStep schema p line answer next)
    (CommandStep schema p line answer next)) (sym no_path) step
step_of schema p line answer (asked.Path q) (path, means) answered =
    let step : PathStep schema p line answer p =
    record { query = q; means = means; answered = answered; next_is = refl } in
    subst (λ (b : Bool). PathOr b (PathStep schema p line answer p)
    (CommandStep schema p line answer p)) (sym path) step

pub run_on : (schema : Schema) (p q r : Playing) (first later : List (List ℕ)) (text more : List ℕ)
    → Runs schema p first text q → Runs schema q later more r
    → Runs schema p (first ++ later) (text ++ more) r
run_on schema = go_on (with_paths schema)

-- ---- a line asks for one thing, or is bad in one way

abbrev query_or : PathQuery → Result PathQuery LineWhy → PathQuery
query_or d (Ok q) = q
query_or d (Err why) = d

abbrev fault_or : LineWhy → Result PathQuery LineWhy → LineWhy
fault_or d (Ok q) = d
fault_or d (Err why) = why

pub asked_once : (schema : Schema) (inside : Bool) (line : List ℕ) (a b : Asked)
    → IsAsked schema inside line a → IsAsked schema inside line b → a ≡ b
asked_once schema inside line (asked.Command c) (asked.Command d) x y =
    ap (λ (e : Command). asked.Command e) (command_once schema line c d x.1 y.1)
asked_once schema inside line (asked.Command c) (asked.Path r) x y = differ (is_path line) y.0 x.0
asked_once schema inside line (asked.Path q) (asked.Command d) x y = differ (is_path line) x.0 y.0
asked_once schema inside line (asked.Path q) (asked.Path r) x y =
    ap (λ (e : PathQuery). asked.Path e) (ap (query_or q) (one_path_reading schema line (Ok q) (Ok r)
    (path_line_again schema line q x.1) (path_line_again schema line r y.1)))

-- what a bad line is, where it is told whether it is a path
module _ (schema : Schema) (inside : Bool) (line : List ℕ) (why : LineWhy) where
  abbrev IsBadOf : Bool → Type 0
  IsBadOf path =
      PathOr path (IsPathReading schema line (Err why)) (IsBadCommandLine schema inside line why)

  pub asked_not_bad : (a : Asked) → IsAsked schema inside line a → IsBadLine schema inside line why
      → ⊥
  asked_not_bad (asked.Command c) x bad =
      line_not_bad schema inside line c why x.1 x.2 (subst IsBadOf x.0 bad)
  asked_not_bad (asked.Path q) x bad =
      let e = one_path_reading schema line (Ok q) (Err why) (path_line_again schema line q x.1)
      (subst IsBadOf x.0 bad) in
      cc

pub bad_once : (schema : Schema) (inside : Bool) (line : List ℕ) (why other : LineWhy)
    → IsBadLine schema inside line why → IsBadLine schema inside line other → why ≡ other
bad_once schema inside line why other x y = of_kind (is_path line) x y
  where
    of_kind : (path : Bool) → IsBadOf schema inside line why path
        → IsBadOf schema inside line other path → why ≡ other
    of_kind true x y = ap (fault_or why) (one_path_reading schema line (Err why) (Err other) x y)
    of_kind false x y = bad_command_once schema inside line why other x y

-- ---- lines that mean commands

-- the first word of a comment is another one
comment_front : (line : List ℕ) (first : Option (Word × List ℕ)) → first_word line ≡ first
    → is_comment line ≡ true → is_some (behind (codes "path") (words_from words_in first)) ≡ false
comment_front line None is comment = refl
comment_front line (Some (Quoted text, rest)) is comment = refl
comment_front line (Some (Bare text, rest)) is comment =
    of_text (is_text text (codes "path")) refl
  where
    of_text : (same : Bool) → is_text text (codes "path") ≡ same
        → is_some (if is_text text (codes "path") then Some (words_in rest) else None) ≡ false
    of_text false same = rw same refl
    of_text true same =
        let f = first_found line (Bare text, rest) is in
        let past : past_blanks line ≡ past_blanks (text ++ rest) =
        ap past_blanks f.parts ∙ over_blanks f.blanks (text ++ rest) f.are_blanks in
        let none : begins_comment (past_blanks (text ++ rest)) ≡ false =
        subst (λ (t : List ℕ). begins_comment (past_blanks (t ++ rest)) ≡ false)
        (sym (same_text text (codes "path") same)) refl in
        differ (is_comment line) comment (ap begins_comment past ∙ none)

path_reads_nothing : (schema : Schema) (words : List Word)
    → reading schema (Bare (codes "path") ∷ words) ≡ Err why.Word
unfolding reading verb_of
path_reads_nothing schema words = refl

-- words that mean a command don't begin with it
words_front : (schema : Schema) (words : List Word) (c : Command) → reading schema words ≡ Ok c
    → is_some (behind (codes "path") words) ≡ false
words_front schema [] c read = refl
words_front schema (Quoted text ∷ words) c read = refl
words_front schema (Bare text ∷ words) c read =
    of_text (is_text text (codes "path")) refl
  where
    of_text : (same : Bool) → is_text text (codes "path") ≡ same
        → is_some (if is_text text (codes "path") then Some words else None) ≡ false
    of_text true same =
        let e : reading schema (Bare (codes "path") ∷ words) ≡ Ok c =
        subst (λ (t : List ℕ). reading schema (Bare t ∷ words) ≡ Ok c)
        (same_text text (codes "path") same) read in
        absurd (good_not_bad c why.Word (sym e ∙ path_reads_nothing schema words))
    of_text false same = rw same refl

pub no_path : (schema : Schema) (line : List ℕ) (c : Command) → IsLineOf schema line c
    → is_path line ≡ false
no_path schema line c (inl h) =
    ap (λ (ws : List Word). is_some (behind (codes "path") ws))
    (words_step line (first_word line) refl) ∙ comment_front line (first_word line) refl h.0
no_path schema line c (inr h) =
    let words = h.2.0 in
    ap (λ (ws : List Word). is_some (behind (codes "path") ws)) (words_of_line line words h.2.1)
    ∙ words_front schema words c (reading_again schema words c h.2.2)

-- lines have one play from a start
pub play_once : (schema : Schema) (start : Playing) (all : Lines) (a b : List ℕ)
    (final other : Playing) (end close : End)
    → IsPlayFrom schema start all a final end → IsPlayFrom schema start all b other close
    → AreOne a b final other end close
play_once schema = one_play (with_paths schema) (definite_with_paths schema)

-- a play of commands is one of such lines
pub command_runs : (schema : Schema) (p : Playing) (lines : List (List ℕ)) (text : List ℕ)
    (q : Playing) → CommandRuns schema p lines text q → Runs schema p lines text q
command_runs schema p [] text q runs = runs
command_runs schema p (line ∷ lines) text q runs =
    let step = runs.3 in (
      runs.0,
      runs.1,
      runs.2,
      subst (λ (b : Bool). PathOr b (PathStep schema p line runs.0 runs.2)
          (CommandStep schema p line runs.0 runs.2))
          (sym (no_path schema line step.command step.means)) step,
      command_runs schema runs.2 lines runs.1 q runs.4,
      runs.5,
    )

pub command_play : (schema : Schema) (start : Playing) (all : Lines) (answers : List ℕ)
    (final : Playing) → IsCommandPlay schema start all answers final good
    → IsPlayFrom schema start all answers final good
command_play schema start all answers final play = record {
  ran = play.ran;
  next = play.next;
  first = play.first;
  runs = command_runs schema start play.ran answers final play.runs;
  ends = ends_well (length play.ran) play.next play.ends;
}
  where
    never : (number : ℕ) (reason : LineWhy) → good ≡ stopped number reason → ⊥
    never number reason e = cc

    ends_well : (ran : ℕ) (next : Result (Option (List ℕ)) LineWhy)
        → IsCommandEnd schema final ran next good → IsEnd schema final ran next good
    ends_well ran (Ok None) ends = ends
    ends_well ran (Ok (Some line)) ends = absurd (never _ ends.0 ends.2)
    ends_well ran (Err reason) ends = absurd (never _ reason ends)
