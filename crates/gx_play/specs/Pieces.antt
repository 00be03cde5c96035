-- What the play of a script that comes in pieces says, piece by piece.
use Rattle.std.specs.Prelude.{◌≡◌, ℕ, List, [], ◌++◌, IsTrue, Result, Ok, Err}
use Rattle.gx_device.specs.Quiet.{IsPrefix}
use Rattle.gx_commands.specs.Lines.{Lines, no_lines}
use Rattle.gx_reader.specs.declared.reader.LineReader.{LineReader}
use Rattle.gx_reader.specs.Reader.{meant, number_of}
use Rattle.gx_ports.specs.declared.view.View.{Ghosts}
use Rattle.gx_model.specs.Play.{Playing}
use Rattle.gx_engine.specs.declared.engine.Engine.{Engine}
use Rattle.gx_engine.specs.Steps.{IsAt, IsReady, schema_of, built_of, leaves_of}
use Rattle.gx_play.specs.declared.play.PlayEnd.{PlayEnd}
use Rattle.gx_play.specs.Plays.{IsSoFar, IsPlayedTo}

-- ---- the play of a piece

-- where the play of all lines stands, on an engine of the same database, when these are left
pub record IsGoing {S : Type 0} (g : Ghosts S) (start : Playing) (all left : Lines) (number : ℕ)
    (old new : Engine S) : Type 0 where
  pub so_far : IsSoFar g start all left number old new
  pub schema : schema_of new ≡ schema_of old
  pub built : built_of new ≡ built_of old
  pub limit : g.limit (leaves_of new) ≡ g.limit (leaves_of old)

-- the same, or the play of all lines ended
abbrev pub IsPlayedOn : {S : Type 0} → Ghosts S → Playing → Lines → Lines → ℕ → Engine S → Engine S
    → Result (Unit {0}) PlayEnd → Type 0
IsPlayedOn g start all left number old new (Ok x) = IsGoing g start all left number old new
IsPlayedOn g start all left number old new (Err end) = IsPlayedTo g start all old new (Err end)

-- A piece is played on in every play that comes to it, whatever comes behind it.
abbrev pub PlaysPiece : {S : Type 0} → Ghosts S → List ℕ → LineReader → LineReader → Engine S
    → Engine S → Result (Unit {0}) PlayEnd → Type 0
PlaysPiece {S = S} g piece reader then old new result =
    (p : Playing) (all : Lines) (rest : List ℕ) (start : Engine S)
    → IsGoing g p all (meant reader (piece ++ rest)) (number_of reader) start old
    → IsPlayedOn g p all (meant then rest) (number_of then) start new result

-- the same of the line behind the last LF, where nothing more comes
abbrev pub PlaysLast : {S : Type 0} → Ghosts S → LineReader → LineReader → Engine S → Engine S
    → Result (Unit {0}) PlayEnd → Type 0
PlaysLast {S = S} g reader then old new result =
    (p : Playing) (all : Lines) (start : Engine S)
    → IsGoing g p all (meant reader []) (number_of reader) start old
    → IsPlayedOn g p all no_lines (number_of then) start new result

-- and of all that is left
abbrev pub PlaysRest : {S : Type 0} → Ghosts S → LineReader → Engine S → Engine S
    → Result (Unit {0}) PlayEnd → Type 0
PlaysRest {S = S} g reader old new result =
    (p : Playing) (all : Lines) (start : Engine S)
    → IsGoing g p all (meant reader []) (number_of reader) start old
    → IsPlayedTo g p all start new result

-- an engine that stood for a moment of a play stands for one
abbrev pub GoesOn : {S : Type 0} → Ghosts S → Engine S → Engine S → Type 0
GoesOn g old new = (p : Playing) → IsAt g p old → (q : Playing) × IsAt g q new

-- What the play of a script that is heard keeps of an engine. What was said before stays, in front.
pub record KeepsHeard {S : Type 0} (g : Ghosts S) (old new : Engine S) : Type 0 where
  pub schema : schema_of new ≡ schema_of old
  pub built : built_of new ≡ built_of old
  pub ready : IsReady g new
  pub limit : g.limit (leaves_of new) ≡ g.limit (leaves_of old)
  pub head : g.head (leaves_of new) ≡ g.head (leaves_of old)
  pub shelf : (g.content (leaves_of new)).now.shelf ≡ (g.content (leaves_of old)).now.shelf
  pub aside : (g.content (leaves_of new)).aside ≡ (g.content (leaves_of old)).aside
  pub begins : IsTrue g.tells
      → IsPrefix (g.content (leaves_of old)).now.said (g.content (leaves_of new)).now.said
