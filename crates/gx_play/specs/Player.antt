-- A play as requests see it: of the lines of a script, or of the turns of several.
use Rattle.std.specs.Prelude.{◌≡◌, ◌⊎◌, ℕ, List, [], ◌++◌, take, Option}
use Rattle.gx_ports.specs.LeafMaps.{Limits}
use Rattle.gx_schema.specs.declared.schema.Schema.{Schema}
use Rattle.gx_commands.specs.declared.command.LineWhy.{LineWhy}
use Rattle.gx_commands.specs.Lines.{script_lines}
use Rattle.gx_equation.specs.Trees.{DefinitionTree}
use Rattle.gx_model.specs.States.{State}
use Rattle.gx_model.specs.Play.{Playing, End, good, stopped, start_at, end_text}
use Rattle.gx_play.specs.declared.status.Status.{Status}
use Rattle.gx_play.specs.declared.status.Status.TheVariants as status
use Rattle.gx_play.specs.Asked.{Runs}
use Rattle.gx_play.specs.Endings.{memory_line, full_line}
use Rattle.gx_play.specs.Played.{IsPlay, AreFirst, MayBeFull}
use Rattle.gx_play.specs.Plays.{AreSaidUpTo, IsCommitLine}

-- M is where a play stands.
pub record Play (M : Type 0) : Type 1 where
  -- the last state that is kept there
  pub kept : M → State
  -- the answers up to this end
  pub Ends : End → List ℕ → M → Type 0
  -- the answers of some first steps
  pub First : List ℕ → M → Type 0
  -- the same, where the pages may be too few for the command of the next step
  pub Full : List ℕ → M → Type 0
  -- the same, where the next step is a commit
  pub Commits : List ℕ → M → Type 0
  -- what is said of some first steps: all their answers, but perhaps an end of the last one's
  pub Front : List ℕ → M → Type 0

-- ---- what is said of a play

-- its answers, and the line behind them, by the status
abbrev pub EndsWith : {M : Type 0} → Play M → Status → List ℕ → M → List ℕ → Type 0
EndsWith p status.Done answers m line = p.Ends good answers m × (line ≡ [])
EndsWith p status.Script answers m line =
    (number : ℕ) × (why : LineWhy) × p.Ends (stopped number why) answers m
    × (line ≡ end_text (stopped number why))
EndsWith p status.Memory answers m line = p.First answers m × (line ≡ memory_line)
EndsWith p status.Full answers m line = p.Full answers m × (line ≡ full_line)
EndsWith p other answers m line = ⊥

-- the same, with a front of the line alone
pub record EndsCut {M : Type 0} (p : Play M) (told : List ℕ) (m : M) : Type 0 where
  pub meant : Status
  pub answers : List ℕ
  pub line : List ℕ
  pub ends : EndsWith p meant answers m line
  pub count : ℕ
  pub told_is : told ≡ answers ++ take count line

-- whatever may have been said of it at some moment, and where it stood: what a failed call leaves,
-- and what a crash does
abbrev pub MayBeSaid : {M : Type 0} → Play M → List ℕ → M → Type 0
MayBeSaid p told m = p.Front told m ⊎ EndsCut p told m

-- the pages suffice at each command
abbrev pub IsRoomy : {M : Type 0} → Play M → Type 0
IsRoomy {M = M} p = (answers : List ℕ) (m : M) → ¬ p.Full answers m

-- the status that is due
abbrev pub IsDueOf : {M : Type 0} → Play M → Status → Type 0
IsDueOf {M = M} p status.Done = IsRoomy p × (answers : List ℕ) × (m : M) × p.Ends good answers m
IsDueOf {M = M} p status.Script =
    IsRoomy p × (number : ℕ) × (why : LineWhy) × (answers : List ℕ) × (m : M)
    × p.Ends (stopped number why) answers m
IsDueOf p other = ⊥

-- ---- a script

-- its first lines, and those that are said of
pub record IsAfterFirst (schema : Schema) (start : State) (script answers : List ℕ)
    (m : Playing) : Type 0 where
  pub first : AreFirst schema start script answers
  pub is : m ≡ first.final

pub record IsSaidFront (schema : Schema) (start : State) (script told : List ℕ)
    (m : Playing) : Type 0 where
  pub ran : List (List ℕ)
  pub later : List (List ℕ)
  pub parts : (script_lines script).lines ≡ ran ++ later
  pub answers : List ℕ
  pub runs : Runs schema (start_at start) ran answers m
  pub up_to : AreSaidUpTo schema (start_at start) ran answers [] told

-- the same, where the next line is a commit
pub record IsBeforeCommit (schema : Schema) (start : State) (script answers : List ℕ)
    (m : Playing) : Type 0 where
  pub first : AreFirst schema start script answers
  pub is : m ≡ first.final
  pub commits : IsCommitLine schema first.later

-- the play of a script's lines from a state on
abbrev pub line_play : Schema → List DefinitionTree → Option Limits → State → List ℕ → Play Playing
line_play schema ds limit start script = record {
  kept = λ m. m.kept;
  Ends = λ end answers m. IsPlay schema start script answers m end;
  First = λ answers m. IsAfterFirst schema start script answers m;
  Full = λ answers m. MayBeFull schema ds limit start script answers m;
  Commits = λ answers m. IsBeforeCommit schema start script answers m;
  Front = λ told m. IsSaidFront schema start script told m;
}
