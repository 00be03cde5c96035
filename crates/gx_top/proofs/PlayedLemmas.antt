-- Each line is read, and each script has a play.
use Rattle.std.proofs.Common.{◌≡◌, ℕ, zero, suc, ◌+◌, ◌<◌, ◌≤◌, List, [], ◌∷◌, ◌++◌, length, Bool, true, false, Option, Some, None, Result, Ok, Err, refl, sym, ap, subst, ◌∙◌, inl, inr, arith}
use Rattle.std.specs.Prelude.{◌⊎◌}
use Rattle.std.specs.List.{list_all}
use Rattle.std.proofs.lemmas.Bool.{cases_Bool}
use Rattle.gx_schema.specs.declared.schema.Schema.{Schema}
use Rattle.gx_schema.specs.WellFormed.{IsWellFormed}
use Rattle.gx_commands.specs.declared.command.Command.{Command}
use Rattle.gx_commands.specs.declared.command.Command.TheVariants as command
use Rattle.gx_commands.specs.declared.command.LineWhy.{LineWhy}
use Rattle.gx_commands.specs.declared.command.LineWhy.TheVariants as why
use Rattle.gx_commands.specs.Commands.{place_reason}
use Rattle.gx_commands.specs.Cutting.{first_word}
use Rattle.gx_commands.specs.Lines.{Lines}
use Rattle.gx_commands.specs.Words.{Word, is_character, is_comment, past_blanks}
use Rattle.gx_commands.proofs.CuttingLaws.{HasWords, words_after, words_before, no_words, blank_line}
use Rattle.gx_commands.proofs.WordLaws.{first_found, first_shorter}
use Rattle.gx_script.specs.Grammar.{IsLineOf}
use Rattle.gx_script.specs.Reading.{reading, IsReading}
use Rattle.gx_script.proofs.ReadingLaws.{line_found}
use Rattle.gx_script.specs.Paths.{is_path, path_reading, IsPathReading}
use Rattle.gx_script.proofs.PathLaws.{path_line_found}
use Rattle.gx_commands.specs.declared.path.PathQuery.{PathQuery}
use Rattle.gx_model.specs.Play.{Playing, End, stopped, end_at, is_inside, seen_state}
use Rattle.gx_model.specs.Languages.{Language, RunsIn, IsEndIn, IsPlayIn, AreFirstLines}
use Rattle.gx_model.specs.Paths.{PathOr, path_text, with_paths}
use Rattle.gx_model.specs.Runs.{IsBadLine as IsBadCommandLine}
use Rattle.gx_play.specs.declared.lines.Asked.{Asked}
use Rattle.gx_play.specs.declared.lines.Asked.TheVariants as asked
use Rattle.gx_play.specs.Asked.{IsAsked, IsAnsweredTo, IsBadLine, IsPlayFrom, after_asked}
use Rattle.gx_play.proofs.AskedLemmas.{step_of}
use Rattle.gx_top.proofs.AnsweredLemmas.{some_answer}

-- ---- a line is words, or it isn't

abbrev pub AreWordsOrNot : List ℕ → Type 0
AreWordsOrNot line = HasWords line ⊎ (¬ HasWords line)

blank_or : (line bytes : List ℕ) → past_blanks line ≡ bytes → first_word line ≡ None
    → AreWordsOrNot line
blank_or line [] is none = inl ([], blank_line line is)
blank_or line (b ∷ bs) is none =
    inr (no_words line none (λ e. let f : b ∷ bs ≡ [] = sym is ∙ e in absurd cc))

words_from : (line : List ℕ) (first : Option (Word × List ℕ)) → first_word line ≡ first
    → ((rest : List ℕ) → length rest < length line → AreWordsOrNot rest) → AreWordsOrNot line
words_from line None is later = blank_or line (past_blanks line) refl is
words_from line (Some x) is later =
    elim (later x.1 (first_shorter line x.0 x.1 (first_found line x is))) as
    (λ _. AreWordsOrNot line) [
      | inl has ↦ inl (words_before line x is has)
      | inr none ↦ inr (λ has. none (words_after line x is has))
    ]

pub words_within : (n : ℕ) (line : List ℕ) → length line ≤ n → AreWordsOrNot line
words_within zero line le =
    words_from line (first_word line) refl (λ rest less. absurd (omega arith))
words_within (suc n) line le =
    words_from line (first_word line) refl (λ rest less. words_within n rest (omega arith))

-- ---- a line has a reading

abbrev pub HasReading : Schema → List ℕ → Type 0
HasReading schema line = (r : Result Command LineWhy) × IsReading schema line r

pub some_reading : (schema : Schema) (line : List ℕ) → HasReading schema line
some_reading schema line = elim (cases_Bool (is_comment line)) as (λ _. HasReading schema line) [
  | inl comment ↦ (Ok command.Nothing, inl (comment, refl))
  | inr none ↦ elim (cases_Bool (list_all is_character line)) as (λ _. HasReading schema line) [
    | inr strange ↦ (Err why.Character, inr (inl (none, strange, refl)))
    | inl characters ↦ elim (words_within (length line) line (omega arith)) as
        (λ _. HasReading schema line) [
          | inl has ↦ (
            reading schema has.0,
            inr (inr (inr (none, characters, (has.0, has.1, refl)))),
          )
          | inr not_any ↦ (
            Err why.Quote,
            inr (inr (inl (none, characters, (λ words are. not_any (words, are)), refl))),
          )
        ]
  ]
]

-- the same of a path
abbrev HasPathReading : Schema → List ℕ → Type 0
HasPathReading schema line = (r : Result PathQuery LineWhy) × IsPathReading schema line r

some_path_reading : (schema : Schema) (line : List ℕ) → HasPathReading schema line
some_path_reading schema line = elim (cases_Bool (list_all is_character line)) as
    (λ _. HasPathReading schema line) [
      | inr strange ↦ (Err why.Character, inl (strange, refl))
      | inl characters ↦ elim (words_within (length line) line (omega arith)) as
          (λ _. HasPathReading schema line) [
            | inl has ↦ (path_reading schema has.0, inr (inr (characters, (has.0, has.1, refl))))
            | inr not_any ↦ (
              Err why.Quote,
              inr (inl (characters, (λ words are. not_any (words, are)), refl)),
            )
          ]
    ]

-- it asks for what may stand there, or is bad
abbrev pub IsGoodOrBad : Schema → Bool → List ℕ → Type 0
IsGoodOrBad schema inside line =
    ((a : Asked) × IsAsked schema inside line a) ⊎ ((why : LineWhy) × IsBadLine schema inside line why)

module _ (schema : Schema) (inside : Bool) (line : List ℕ) (whole : IsWellFormed schema) where
  -- a line that is told to be a path, or no path
  bad_of : (path : Bool) (why : LineWhy) → is_path line ≡ path
      → PathOr path (IsPathReading schema line (Err why)) (IsBadCommandLine schema inside line why)
      → IsGoodOrBad schema inside line
  bad_of path why is bad =
      inr (
        why,
        subst (λ (b : Bool). PathOr b (IsPathReading schema line (Err why))
            (IsBadCommandLine schema inside line why)) (sym is) bad,
      )

  by_place : is_path line ≡ false → (c : Command) → IsLineOf schema line c → (r : Option LineWhy)
      → place_reason inside c ≡ r → IsGoodOrBad schema inside line
  by_place no_path c means None is = inl (asked.Command c, (no_path, means, is))
  by_place no_path c means (Some why) is = bad_of false why no_path (inr (c, means, is))

  by_reading : is_path line ≡ false → (r : Result Command LineWhy) → IsReading schema line r
      → IsGoodOrBad schema inside line
  by_reading no_path (Ok c) is =
      by_place no_path c (line_found schema line c whole is) (place_reason inside c) refl
  by_reading no_path (Err why) is = bad_of false why no_path (inl is)

  by_path_reading : is_path line ≡ true → (r : Result PathQuery LineWhy)
      → IsPathReading schema line r → IsGoodOrBad schema inside line
  by_path_reading path (Ok q) is = inl (asked.Path q, (path, path_line_found schema line q whole is))
  by_path_reading path (Err why) is = bad_of true why path is

pub good_or_bad : (schema : Schema) (inside : Bool) (line : List ℕ) → IsWellFormed schema
    → IsGoodOrBad schema inside line
good_or_bad schema inside line whole = elim (cases_Bool (is_path line)) as
    (λ _. IsGoodOrBad schema inside line) [
      | inl path ↦
          let r = some_path_reading schema line in
          by_path_reading schema inside line whole path r.0 r.1
      | inr no_path ↦
          let r = some_reading schema line in
          by_reading schema inside line whole no_path r.0 r.1
    ]

-- what is asked for is answered
pub some_text : (schema : Schema) (p : Playing) (a : Asked)
    → (text : List ℕ) × IsAnsweredTo schema p a text
some_text schema p (asked.Command c) = some_answer schema p c
some_text schema p (asked.Path q) = (path_text schema (seen_state p) q, refl)

-- ---- lines have a play

-- one more line was first
first_of_more : (line : List ℕ) (all : Lines) (ran : List (List ℕ))
    (next : Result (Option (List ℕ)) LineWhy) → AreFirstLines all ran next
    → AreFirstLines (record { lines = line ∷ all.lines; stop = all.stop }) (line ∷ ran) next
first_of_more line all ran (Ok (Some other)) is =
    (is.0, ap (λ (ls : List (List ℕ)). line ∷ ls) is.1)
first_of_more line all ran (Ok None) is =
    (ap (λ (ls : List (List ℕ)). line ∷ ls) is.0, is.1)
first_of_more line all ran (Err why) is =
    (ap (λ (ls : List (List ℕ)). line ∷ ls) is.0, is.1)

module _ {M A : Type 0} (l : Language M A) where
  -- a line goes on there, or it is bad
  abbrev pub GoesOrNot : M → List ℕ → Type 0
  GoesOrNot p line = ((answers : List A) × (next : M) × l.Goes p line answers next)
      ⊎ ((why : LineWhy) × l.IsBad p line why)

  -- a play of lines, where so many ran before them
  record HasPlay (p : M) (last : ℕ) (all : Lines) : Type 0 where
    answers : List A
    final : M
    end : End
    ran : List (List ℕ)
    next : Result (Option (List ℕ)) LineWhy
    first : AreFirstLines all ran next
    runs : RunsIn l p ran answers final
    ends : IsEndIn l final (last + length ran) next end

  play_of_more : (p : M) (last : ℕ) (line : List ℕ) (all : Lines) → GoesOrNot p line
      → ((q : M) → HasPlay q (last + 1) all)
      → HasPlay p last (record { lines = line ∷ all.lines; stop = all.stop })
  play_of_more p last line all (inr (why, bad)) later = record {
    answers = [];
    final = p;
    end = stopped (last + length {A = List ℕ} [] + 1) why;
    ran = [];
    next = Ok (Some line);
    first = (all.lines, refl);
    runs = (refl, refl);
    ends = (why, bad, refl);
  }
  play_of_more p last line all (inl (answer, behind, goes)) later =
      let rest = later behind in
      let many : last + 1 + length rest.ran ≡ last + length (line ∷ rest.ran) = omega arith in
      record {
        answers = answer ++ rest.answers;
        final = rest.final;
        end = rest.end;
        ran = line ∷ rest.ran;
        next = rest.next;
        first = first_of_more line all rest.ran rest.next rest.first;
        runs = (answer, rest.answers, behind, goes, rest.runs, refl);
        ends = subst (λ n. IsEndIn l rest.final n rest.next rest.end) many rest.ends;
      }

  play_on : ((p : M) (line : List ℕ) → GoesOrNot p line)
      → (lines : List (List ℕ)) (stop : Option LineWhy) (p : M) (last : ℕ)
      → HasPlay p last (record { lines = lines; stop = stop })
  play_on each [] None p last = record {
    answers = [];
    final = p;
    end = end_at (last + length {A = List ℕ} []) (l.is_open p);
    ran = [];
    next = Ok None;
    first = (refl, refl);
    runs = (refl, refl);
    ends = refl;
  }
  play_on each [] (Some why) p last = record {
    answers = [];
    final = p;
    end = stopped (last + length {A = List ℕ} [] + 1) why;
    ran = [];
    next = Err why;
    first = (refl, refl);
    runs = (refl, refl);
    ends = refl;
  }
  play_on each (line ∷ lines) stop p last =
      play_of_more p last line (record { lines = lines; stop = stop }) (each p line)
      (λ q. play_on each lines stop q (last + 1))

  -- where each line goes on or is bad, all lines have a play
  pub some_play_in : ((p : M) (line : List ℕ) → GoesOrNot p line) → (start : M) (all : Lines)
      → (answers : List A) × (final : M) × (end : End) × IsPlayIn l start all answers final end
  some_play_in each start all =
      let play = play_on each all.lines all.stop start 0 in
      let many : 0 + length play.ran ≡ length play.ran = omega arith in (
        play.answers,
        play.final,
        play.end,
        record {
          ran = play.ran;
          next = play.next;
          first = play.first;
          runs = play.runs;
          ends = subst (λ n. IsEndIn l play.final n play.next play.end) many play.ends;
        },
      )

line_goes : (schema : Schema) → IsWellFormed schema → (p : Playing) (line : List ℕ)
    → GoesOrNot (with_paths schema) p line
line_goes schema whole p line = elim (good_or_bad schema (is_inside p) line whole) as
    (λ _. GoesOrNot (with_paths schema) p line) [
      | inl good ↦
          let answer = some_text schema p good.0 in
          inl (
            answer.0,
            after_asked schema p good.0,
            step_of schema p line answer.0 good.0 good.1 answer.1,
          )
      | inr bad ↦ inr bad
    ]

pub some_play : (schema : Schema) → IsWellFormed schema → (start : Playing) (all : Lines)
    → (answers : List ℕ) × (final : Playing) × (end : End)
    × IsPlayFrom schema start all answers final end
some_play schema whole = some_play_in (with_paths schema) (line_goes schema whole)
