-- Each script of turns has a play.
use Rattle.std.proofs.Common.{◌≡◌, ℕ, List, [], ◌∷◌, length, Option, Some, None, Result, Ok, Err, refl, inl, inr, arith}
use Rattle.std.specs.Prelude.{◌⊎◌}
use Rattle.std.specs.List.{list_all}
use Rattle.std.proofs.lemmas.Bool.{cases_Bool}
use Rattle.gx_schema.specs.declared.schema.Schema.{Schema}
use Rattle.gx_schema.specs.WellFormed.{IsWellFormed}
use Rattle.gx_commands.specs.declared.command.Command.{Command}
use Rattle.gx_commands.specs.declared.command.LineWhy.{LineWhy}
use Rattle.gx_commands.specs.declared.command.LineWhy.TheVariants as why
use Rattle.gx_commands.specs.Commands.{place_reason}
use Rattle.gx_commands.specs.Lines.{script_lines}
use Rattle.gx_commands.specs.Turns.{is_no_turn, has_comment, session_at, turn_or, IsTurn}
use Rattle.gx_commands.specs.Words.{is_character, past_blanks}
use Rattle.gx_script.specs.Grammar.{IsLineOf}
use Rattle.gx_script.specs.Reading.{IsReading}
use Rattle.gx_script.proofs.ReadingLaws.{line_found}
use Rattle.gx_model.specs.Languages.{IsPlayIn}
use Rattle.gx_model.specs.Play.{End}
use Rattle.gx_model.specs.Runs.{IsBadLine}
use Rattle.gx_model.specs.States.{State}
use Rattle.gx_sharing.specs.Sharing.{Sharing, Outcome, answered, skipped, ended_by, is_in, share_start, play_of, outcome_of, after_turn, IsSaid}
use Rattle.gx_sharing.specs.Turns.{Turn}
use Rattle.gx_sharing.specs.Texts.{turns}
use Rattle.gx_shares.proofs.LineLemmas.{turn_number, in_sessions}
use Rattle.gx_top.proofs.AnsweredLemmas.{some_answer}
use Rattle.gx_top.proofs.PlayedLemmas.{GoesOrNot, words_within, some_reading, some_play_in}

-- ---- a line is a turn, or none

abbrev HasTurn : List ℕ → Type 0
HasTurn line = (r : Result (Option (ℕ × List ℕ)) LineWhy) × IsTurn line r

some_turn : (line : List ℕ) → HasTurn line
some_turn line = elim (cases_Bool (is_no_turn line)) as (λ _. HasTurn line) [
  | inl none ↦ (Ok None, inl (none, refl))
  | inr some ↦ elim (cases_Bool (has_comment line)) as (λ _. HasTurn line) [
    | inl comment ↦ (
      turn_or (session_at (past_blanks line)),
      inr (inr (inr (some, inl comment, refl))),
    )
    | inr plain ↦ elim (cases_Bool (list_all is_character line)) as (λ _. HasTurn line) [
      | inr strange ↦ (Err why.Character, inr (inl (some, plain, strange, refl)))
      | inl characters ↦ elim (words_within (length line) line (omega arith)) as
          (λ _. HasTurn line) [
            | inl has ↦ (
              turn_or (session_at (past_blanks line)),
              inr (inr (inr (some, inr (characters, has), refl))),
            )
            | inr not_any ↦ (
              Err why.Quote,
              inr (inr (inl (some, plain, characters, (λ words are. not_any (words, are)), refl))),
            )
          ]
    ]
  ]
]

-- ---- the line of a session

-- it means a command that may stand there, or it is bad
abbrev IsGoodOrBad : Schema → ℕ × List ℕ → Sharing → Type 0
IsGoodOrBad schema x p =
    ((c : Command) × IsLineOf schema x.1 c × (place_reason (is_in (p.session x.0)) c ≡ None))
    ⊎ ((reason : LineWhy) × IsBadLine schema (is_in (p.session x.0)) x.1 reason)

-- what a turn says
some_said : (schema : Schema) (p : Sharing) (n : ℕ) (c : Command) (outcome : Outcome)
    → (text : List ℕ) × IsSaid schema p n c outcome text
some_said schema p n c answered = some_answer schema (play_of schema p n) c
some_said schema p n c skipped = (_, refl)
some_said schema p n c (ended_by m) = (_, refl)

-- its session goes on by the command
pub turn_goes_on : (schema : Schema) (p : Sharing) (line : List ℕ) (x : ℕ × List ℕ)
    → IsTurn line (Ok (Some x)) → (c : Command) → IsLineOf schema x.1 c
    → place_reason (is_in (p.session x.0)) c ≡ None
    → (ts : List Turn)
    × (turns schema).Goes p line ts (after_turn schema p x.0 c (outcome_of schema p x.0 c))
turn_goes_on schema p line x is c means allowed =
    let outcome = outcome_of schema p x.0 c in
    let said = some_said schema p x.0 c outcome in
    let t : Turn = record {
      session = x.0;
      line = x.1;
      command = c;
      outcome = outcome;
      said = said.0;
    } in (
      t ∷ [],
      inr (
        t,
        is,
        refl,
        record {
          numbered = in_sessions x.0 (turn_number line x.0 x.1 is);
          means = means;
          allowed = allowed;
          outcome_is = refl;
          said_is = said.1;
          next_is = refl;
        },
      ),
    )

module _ (schema : Schema) (whole : IsWellFormed schema) (p : Sharing) where
  by_place : (x : ℕ × List ℕ) (c : Command) → IsLineOf schema x.1 c → (r : Option LineWhy)
      → place_reason (is_in (p.session x.0)) c ≡ r → IsGoodOrBad schema x p
  by_place x c means None is = inl (c, means, is)
  by_place x c means (Some reason) is = inr (reason, inr (c, means, is))

  by_reading : (x : ℕ × List ℕ) (r : Result Command LineWhy) → IsReading schema x.1 r
      → IsGoodOrBad schema x p
  by_reading x (Ok c) is =
      by_place x c (line_found schema x.1 c whole is) (place_reason (is_in (p.session x.0)) c) refl
  by_reading x (Err reason) is = inr (reason, inl is)

  of_session : (line : List ℕ) (x : ℕ × List ℕ) → IsTurn line (Ok (Some x))
      → IsGoodOrBad schema x p → GoesOrNot (turns schema) p line
  of_session line x is (inl (c, means, allowed)) =
      let t = turn_goes_on schema p line x is c means allowed in
      inl (t.0, after_turn schema p x.0 c (outcome_of schema p x.0 c), t.1)
  of_session line x is (inr (reason, bad)) = inr (reason, inr (x.0, x.1, is, bad))

  by_turn : (line : List ℕ) (r : Result (Option (ℕ × List ℕ)) LineWhy) → IsTurn line r
      → GoesOrNot (turns schema) p line
  by_turn line (Ok None) is = inl ([], p, inl (is, refl, refl))
  by_turn line (Err reason) is = inr (reason, inl is)
  by_turn line (Ok (Some x)) is =
      let r = some_reading schema x.1 in
      of_session line x is (by_reading x r.0 r.1)

turn_goes : (schema : Schema) → IsWellFormed schema → (p : Sharing) (line : List ℕ)
    → GoesOrNot (turns schema) p line
turn_goes schema whole p line =
    let r = some_turn line in
    by_turn schema whole p line r.0 r.1

pub some_share : (schema : Schema) → IsWellFormed schema → (start : State) (script : List ℕ)
    → (ts : List Turn) × (final : Sharing) × (end : End)
    × IsPlayIn (turns schema) (share_start start) (script_lines script) ts final end
some_share schema whole start script =
    some_play_in (turns schema) (turn_goes schema whole) (share_start start) (script_lines script)
