-- The language of turns, and the text of a shared script.
use Rattle.std.specs.Prelude.{◌≡◌, ◌⊎◌, ℕ, List, [], ◌∷◌, ◌++◌, Bool, Some, None, Ok, Err, codes}
use Rattle.std.specs.List.{flat_map, list_any}
use Rattle.std.specs.Fmt.{decimal}
use Rattle.gx_schema.specs.declared.schema.Schema.{Schema}
use Rattle.gx_commands.specs.declared.command.LineWhy.{LineWhy}
use Rattle.gx_commands.specs.Lines.{parts_of, script_lines}
use Rattle.gx_commands.specs.Turns.{IsTurn}
use Rattle.gx_model.specs.Play.{End, end_text}
use Rattle.gx_model.specs.Languages.{Language, IsPlayIn}
use Rattle.gx_model.specs.Runs.{IsBadLine}
use Rattle.gx_model.specs.States.{State}
use Rattle.gx_sharing.specs.Sharing.{Sharing, sessions, is_in, share_start}
use Rattle.gx_sharing.specs.Turns.{Turn, TurnStep}

-- each line with the session and a space before it
abbrev pub with_number : ℕ → List ℕ → List ℕ
with_number n text =
    flat_map (λ line. decimal n ++ codes " " ++ line ++ codes "\n") (parts_of text).ended

abbrev pub turn_text : Turn → List ℕ
turn_text t = with_number t.session t.said

-- a line that is no turn, or the turn of a session that stands in it
abbrev pub IsLinePlayed : Schema → Sharing → List ℕ → List Turn → Sharing → Type 0
IsLinePlayed schema p line ts next =
    (IsTurn line (Ok None) × (ts ≡ []) × (next ≡ p))
    ⊎ ((t : Turn) × IsTurn line (Ok (Some (t.session, t.line))) × (ts ≡ t ∷ [])
    × TurnStep schema p t next)

-- the line is no turn and should be one, or its session's line is bad where that session is
abbrev pub IsBadTurn : Schema → Sharing → List ℕ → LineWhy → Type 0
IsBadTurn schema p line why =
    IsTurn line (Err why)
    ⊎ ((session : ℕ) × (rest : List ℕ) × IsTurn line (Ok (Some (session, rest)))
    × IsBadLine schema (is_in (p.session session)) rest why)

-- whether a session is inside a transaction, also in one that was ended
abbrev pub is_any_in : Sharing → Bool
is_any_in p = list_any (λ n. is_in (p.session n)) sessions

-- each line is a turn, or none
abbrev pub turns : Schema → Language Sharing Turn
turns schema = record {
  Goes = λ p line ts next. IsLinePlayed schema p line ts next;
  IsBad = λ p line why. IsBadTurn schema p line why;
  is_open = λ p. is_any_in p;
}

-- the whole text of a shared script from a state on
pub record IsShareText (schema : Schema) (start : State) (script text : List ℕ) : Type 0 where
  pub played : List Turn
  pub final : Sharing
  pub end : End
  pub plays : IsPlayIn (turns schema) (share_start start) (script_lines script) played final end
  pub text_is : text ≡ flat_map turn_text played ++ end_text end
