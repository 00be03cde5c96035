-- The steps by which a script is explained.
use Rattle.std.specs.Prelude.{◌≡◌, ℕ, ◌+◌, List, [], ◌++◌, length, map, Bool, false, Result, Ok, Err}
use Rattle.gx_device.specs.Content.{Content}
use Rattle.gx_ports.specs.declared.stop.Stop.TheVariants as stop
use Rattle.gx_schema.specs.declared.schema.Schema.{Schema}
use Rattle.gx_schema.specs.Lookups.{file_at}
use Rattle.gx_commands.specs.Lines.{Lines, with_line}
use Rattle.gx_reader.specs.declared.reader.LineReader.{LineReader}
use Rattle.gx_reader.specs.Reader.{meant, number_of}
use Rattle.gx_stack.specs.declared.node.Node.{Node}
use Rattle.gx_stack.specs.Indexed.{is_indexed}
use Rattle.gx_types.specs.declared.any.AnyMapping.{AnyMapping}
use Rattle.gx_types.specs.Any.{any_rule}
use Rattle.gx_types.specs.Nodes.{tree_at}
use Rattle.gx_model.specs.Play.{good, stopped}
use Rattle.gx_explain.specs.declared.explanation.ExplainedLine.{ExplainedLine}
use Rattle.gx_play.specs.declared.play.PlayEnd.{PlayEnd}
use Rattle.gx_play.specs.declared.play.PlayEnd.TheVariants as play_end
use Rattle.gx_play.specs.declared.lines.Asked.{Asked}
use Rattle.gx_play.specs.Asked.{IsAsked, inside_behind}
use Rattle.gx_explain.specs.Explained.{asked_text, AreExplained, IsExplainedTo, AreFirstExplained}
use Rattle.gx_play.specs.Played.{SaysText, SaysFront}
use Rattle.gx_play.specs.Plays.{HasCause}

-- for each field of the file of this number whether it is indexed in the file's node
abbrev pub fields_in : Schema → List (Node AnyMapping) → ℕ → List Bool
fields_in schema nodes file =
    map (λ f. is_indexed any_rule (tree_at nodes file) f.name) (file_at schema file).fields

-- a good line that may stand there: what is said of it, and whether a transaction is open behind it
pub record IsLineExplained (schema : Schema) (indexed : ℕ → List Bool) (inside : Bool) (number : ℕ)
    (line : List ℕ) (x : ExplainedLine) : Type 0 where
  pub asked : Asked
  pub means : IsAsked schema inside line asked
  pub text_is : x.text ≡ asked_text schema indexed number asked
  pub inside_is : x.inside ≡ inside_behind inside asked

-- why it ends: with a stop, because a call of the machine failed or there was no memory
abbrev pub HasEndCause : ℕ → ℕ → PlayEnd → Type 0
HasEndCause before now (play_end.Line number why) = Unit {0}
HasEndCause before now (play_end.Stop why) = HasCause before now why

-- what was said of the lines of a script, where explaining them ends so
abbrev pub SaysPlans : Schema → (ℕ → List Bool) → Lines → Content → Content
    → Result (Unit {0}) PlayEnd → Type 0
SaysPlans schema indexed all old new (Ok x) =
    SaysText (IsExplainedTo schema indexed all good) old new
SaysPlans schema indexed all old new (Err (play_end.Line number why)) =
    SaysText (IsExplainedTo schema indexed all (stopped number why)) old new
SaysPlans schema indexed all old new (Err (play_end.Stop stop.NoMemory)) =
    SaysText (AreFirstExplained schema indexed all) old new
SaysPlans schema indexed all old new (Err (play_end.Stop stop.Fault)) =
    SaysFront (AreFirstExplained schema indexed all) old new
SaysPlans schema indexed all old new (Err (play_end.Stop other)) = ⊥

-- ---- of a script that comes in pieces

-- what was said of the lines that were read so far, when these are left
pub record IsSoFar (schema : Schema) (indexed : ℕ → List Bool) (all left : Lines) (number : ℕ)
    (inside : Bool) (old new : Content) : Type 0 where
  pub ran : List (List ℕ)
  pub many : length ran ≡ number
  pub lines_are : all.lines ≡ ran ++ left.lines
  pub stop_is : all.stop ≡ left.stop
  pub text : List ℕ
  pub explained : AreExplained schema indexed 1 false ran text inside
  pub said : new.now.said ≡ old.now.said ++ text

-- the same, with whether a transaction is open there, or the end of all lines
abbrev pub IsExplainedOn : Schema → (ℕ → List Bool) → Lines → Lines → ℕ → Content → Content
    → Result Bool PlayEnd → Type 0
IsExplainedOn schema indexed all left number old new (Ok inside) =
    IsSoFar schema indexed all left number inside old new
IsExplainedOn schema indexed all left number old new (Err end) =
    SaysPlans schema indexed all old new (Err end)

-- A line is explained behind all that were.
abbrev pub ExplainsLine : Schema → (ℕ → List Bool) → List ℕ → ℕ → Bool → Content → Content
    → Result Bool PlayEnd → Type 0
ExplainsLine schema indexed line number inside old new result =
    (all before left : Lines) (last : ℕ) (start : Content) → number ≡ last + 1
    → before ≡ with_line line left → IsSoFar schema indexed all before last inside start old
    → IsExplainedOn schema indexed all left number start new result

-- the same of the lines that end in a piece, whatever comes behind it
abbrev pub ExplainsPiece : Schema → (ℕ → List Bool) → List ℕ → Bool → LineReader → LineReader
    → Content → Content → Result Bool PlayEnd → Type 0
ExplainsPiece schema indexed piece inside reader then old new result =
    (all : Lines) (rest : List ℕ) (start : Content)
    → IsSoFar schema indexed all (meant reader (piece ++ rest)) (number_of reader) inside start old
    → IsExplainedOn schema indexed all (meant then rest) (number_of then) start new result

-- and of all that is left, where nothing more comes
abbrev pub ExplainsLast : Schema → (ℕ → List Bool) → Bool → LineReader → Content → Content
    → Result (Unit {0}) PlayEnd → Type 0
ExplainsLast schema indexed inside reader old new result =
    (all : Lines) (start : Content)
    → IsSoFar schema indexed all (meant reader []) (number_of reader) inside start old
    → SaysPlans schema indexed all start new result
