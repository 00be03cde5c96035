-- The first bad word of a line, by what other lines there are.
use Rattle.std.specs.Prelude.{◌≡◌, ℕ, List, [], ◌∷◌, ◌++◌}
use Rattle.std.specs.List.{AllByRecursion}
use Rattle.gx_schema.specs.declared.schema.Schema.{Schema}
use Rattle.gx_commands.specs.declared.command.Command.{Command}
use Rattle.gx_commands.specs.declared.command.LineWhy.TheVariants as why
use Rattle.gx_commands.specs.declared.command.NoCommand.{NoCommand}
use Rattle.gx_commands.specs.declared.command.NoCommand.TheVariants as no_command
use Rattle.gx_commands.specs.Words.{Word, IsLineWord, AreWords}
use Rattle.gx_script.specs.Grammar.{MeansCommand}
use Rattle.gx_script.specs.Shape.{IsShaped}

-- with some words behind them these are a line of the bare grammar
abbrev pub IsFront : List Word → Type 0
IsFront before = (behind : List Word) × AllByRecursion IsLineWord behind
    × IsShaped (before ++ behind)

-- no words that mean a command go on behind these with the first of those that are left; where none
-- is left, these mean none
abbrev pub NoLineGoesOn : Schema → List Word → List Word → Type 0
NoLineGoesOn schema before [] = (c : Command) → MeansCommand schema before c → ⊥
NoLineGoesOn schema before (w ∷ ws) = (behind : List Word) (c : Command)
    → MeansCommand schema (before ++ w ∷ behind) c → ⊥

-- the words go wrong at the first of those that are left behind some line's front, or at their end
pub record IsFirstBad (schema : Schema) (words : List Word) : Type 0 where
  pub before : List Word
  pub here : List Word
  pub parts : words ≡ before ++ here
  pub front : IsFront before
  pub none : NoLineGoesOn schema before here

-- what an error says of a line: two reasons speak of the whole line, and the others of its first
-- bad word
abbrev pub IsBad : Schema → List ℕ → NoCommand → Type 0
IsBad schema line no_command.NoMemory = Unit {0}
IsBad schema line (no_command.Bad why.Character) = Unit {0}
IsBad schema line (no_command.Bad why.Quote) = Unit {0}
IsBad schema line (no_command.Bad reason) =
    (words : List Word) × AreWords line words × IsFirstBad schema words
