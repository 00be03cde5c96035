-- The play of a script of turns that comes in pieces: where it stands, and how it ends.
use Rattle.std.specs.Prelude.{◌≡◌, ℕ, ◌+◌, List, [], ◌++◌, length, Bool, false, IsTrue, Result, Ok, Err}
use Rattle.gx_device.specs.Quiet.{IsPrefix}
use Rattle.gx_schema.specs.declared.schema.Schema.{Schema}
use Rattle.gx_commands.specs.Lines.{Lines, with_line, no_lines, script_lines}
use Rattle.gx_reader.specs.declared.reader.LineReader.{LineReader}
use Rattle.gx_reader.specs.Reader.{meant, number_of}
use Rattle.gx_ports.specs.declared.view.View.{Ghosts}
use Rattle.gx_types.specs.declared.built.Built.{Built}
use Rattle.gx_model.specs.States.{State}
use Rattle.gx_model.specs.Languages.{Language, RunsIn}
use Rattle.gx_engine.specs.Steps.{built_of as engine_built}
use Rattle.gx_sharing.specs.Sharing.{Sharing, share_start}
use Rattle.gx_sharing.specs.Turns.{Turn}
use Rattle.gx_sharing.specs.Texts.{turns}
use Rattle.gx_sessions.specs.declared.sessions.Sessions.{Sessions}
use Rattle.gx_sessions.specs.Turns.{engine_of, schema_of, leaves_of, AreShared, IsReady, IsNumber, is_in_at}
use Rattle.gx_play.specs.declared.ending.Ending.{Ending}
use Rattle.gx_play.specs.declared.play.PlayEnd.{PlayEnd}
use Rattle.gx_play.specs.Endings.{ending_of, is_fault}
use Rattle.gx_play.specs.Player.{Play}
use Rattle.gx_play.specs.Overs.{IsPlayedOf, LeavesPlayOf}
use Rattle.gx_play.specs.Plays.{KeepsState}
use Rattle.gx_play.specs.Readings.{EndsAs}
use Rattle.gx_shares.specs.Player.{share_over_play, texts_of}
use Rattle.gx_shares.specs.Ends.{turn_lines, IsShareEnd}

-- the first lines of a script ran in a language, so many, and these are left
pub record RunsTo {M A : Type 0} (l : Language M A) (start : M) (all left : Lines) (number : ℕ)
    (answers : List A) (now : M) : Type 0 where
  pub ran : List (List ℕ)
  pub many : length ran ≡ number
  pub lines_are : all.lines ≡ ran ++ left.lines
  pub stop_is : all.stop ≡ left.stop
  pub runs : RunsIn l start ran answers now

-- ---- a play

-- a script that is played over leaves from a state on: what the play is of, and whether the leaves
-- were calm before it
pub record Over (S : Type 0) : Type 0 where
  pub schema : Schema
  pub built : Built
  pub from : State
  pub script : List ℕ
  pub leaves : S
  pub calm : Bool

abbrev pub play_over : {S : Type 0} → Ghosts S → Over S → Play Sharing
play_over g o = share_over_play o.schema o.built (g.limit o.leaves) o.from o.script

-- where the play stands when these lines are left
pub record IsGoing {S : Type 0} (g : Ghosts S) (o : Over S) (left : Lines) (number : ℕ)
    (s : Sessions S) : Type 0 where
  pub schema_is : schema_of s ≡ o.schema
  pub built_is : engine_built (engine_of s) ≡ o.built
  pub limit_is : g.limit (leaves_of s) ≡ g.limit o.leaves
  pub head_is : g.head (leaves_of s) ≡ g.head o.leaves
  pub ts : List Turn
  pub now : Sharing
  pub runs : RunsTo (turns o.schema) (share_start o.from) (script_lines o.script) left number ts now
  pub at : AreShared g now s
  pub said : (g.content (leaves_of s)).now.said ≡ (g.content o.leaves).now.said ++ texts_of ts
  pub images : IsTrue o.calm
      → LeavesPlayOf g o.schema o.built (play_over g o) false o.leaves (leaves_of s)

-- how it ended
pub record IsOver {S : Type 0} (g : Ghosts S) (o : Over S) (s : Sessions S)
    (result : Result (Unit {0}) Ending) : Type 0 where
  pub played : IsPlayedOf (play_over g o) (KeepsState g o.schema o.built (leaves_of s))
      (g.content o.leaves).now.said (g.content (leaves_of s)).now.said result
  pub images : IsTrue o.calm
      → LeavesPlayOf g o.schema o.built (play_over g o) (is_fault result) o.leaves (leaves_of s)

-- how a request ends where its play does
abbrev pub ended_as : Result (Unit {0}) PlayEnd → Result (Unit {0}) Ending
ended_as (Ok x) = Ok x
ended_as (Err end) = Err (ending_of end)

-- it goes on, or it ended
abbrev pub IsPlayedOn : {S : Type 0} → Ghosts S → Over S → Lines → ℕ → Sessions S
    → Result (Unit {0}) PlayEnd → Type 0
IsPlayedOn g o left number s (Ok x) = IsGoing g o left number s
IsPlayedOn g o left number s (Err end) = IsOver g o s (ended_as (Err end))

-- A line is played on in every play that comes to it, as the one of this number.
abbrev pub PlaysLine : {S : Type 0} → Ghosts S → ℕ → List ℕ → Sessions S → Sessions S
    → Result (Unit {0}) PlayEnd → Type 0
PlaysLine {S = S} g number line old new result =
    (o : Over S) (before left : Lines) (ran : ℕ) → before ≡ with_line line left
    → number ≡ ran + 1 → IsGoing g o before ran old → IsPlayedOn g o left number new result

-- A piece is played on in every play that comes to it, whatever comes behind it.
abbrev pub PlaysPiece : {S : Type 0} → Ghosts S → List ℕ → LineReader → LineReader → Sessions S
    → Sessions S → Result (Unit {0}) PlayEnd → Type 0
PlaysPiece {S = S} g piece reader then old new result =
    (o : Over S) (rest : List ℕ) → IsGoing g o (meant reader (piece ++ rest)) (number_of reader) old
    → IsPlayedOn g o (meant then rest) (number_of then) new result

-- the same of the line behind the last LF, where nothing more comes
abbrev pub PlaysLast : {S : Type 0} → Ghosts S → LineReader → LineReader → Sessions S → Sessions S
    → Result (Unit {0}) PlayEnd → Type 0
PlaysLast {S = S} g reader then old new result =
    (o : Over S) → IsGoing g o (meant reader []) (number_of reader) old
    → IsPlayedOn g o no_lines (number_of then) new result

-- and of all that is left
abbrev pub PlaysRest : {S : Type 0} → Ghosts S → LineReader → Sessions S → Sessions S
    → Result (Unit {0}) PlayEnd → Type 0
PlaysRest {S = S} g reader old new result =
    (o : Over S) → IsGoing g o (meant reader []) (number_of reader) old → IsOver g o new (ended_as result)

-- and of a script that is heard, by how the request ends
abbrev pub PlaysOut : {S : Type 0} → Ghosts S → Sessions S → Sessions S
    → Result (Unit {0}) Ending → Type 0
PlaysOut {S = S} g old new result =
    (o : Over S) → IsGoing g o (script_lines (g.content (leaves_of old)).script) 0 old
    → IsOver g o new result

-- the same by how the play does
abbrev pub PlaysHeard : {S : Type 0} → Ghosts S → Sessions S → Sessions S
    → Result (Unit {0}) PlayEnd → Type 0
PlaysHeard g old new result = PlaysOut g old new (ended_as result)

-- What stays of sessions while a script is heard, whatever they stood for. What was said before
-- stays, in front.
pub record KeepsHeard {S : Type 0} (g : Ghosts S) (old new : Sessions S) : Type 0 where
  pub schema : schema_of new ≡ schema_of old
  pub ready : IsReady g new
  pub head : g.head (leaves_of new) ≡ g.head (leaves_of old)
  pub shelf : (g.content (leaves_of new)).now.shelf ≡ (g.content (leaves_of old)).now.shelf
  pub aside : (g.content (leaves_of new)).aside ≡ (g.content (leaves_of old)).aside
  pub begins : IsTrue g.tells
      → IsPrefix (g.content (leaves_of old)).now.said (g.content (leaves_of new)).now.said

-- ---- the lines alone

-- where they stand when these are left, whatever state they are played from
pub record IsReadTo {S : Type 0} (schema : Schema) (script : List ℕ) (left : Lines) (number : ℕ)
    (s : Sessions S) : Type 0 where
  pub schema_is : schema_of s ≡ schema
  pub answers : List ℕ
  pub within : ℕ → Bool
  pub runs : RunsTo (turn_lines schema) (λ n. false) (script_lines script) left number answers within
  pub stands : (n : ℕ) → IsNumber n → is_in_at s n ≡ within n

-- they are read on, or they end
abbrev pub IsReadOn : {S : Type 0} → Schema → List ℕ → Lines → ℕ → Sessions S
    → Result (Unit {0}) PlayEnd → Type 0
IsReadOn schema script left number s (Ok x) = IsReadTo schema script left number s
IsReadOn schema script left number s (Err end) =
    EndsAs (IsShareEnd schema script) (ended_as (Err end))
