-- What is said of a schema, a start state and a script, and which state is kept then.
use Rattle.std.specs.Prelude.{◌≡◌, ◌⊎◌, ℕ, ◌+◌, List, ◌∷◌, ◌++◌, length, take, Option, None}
use Rattle.gx_device.specs.Content.{Content}
use Rattle.gx_ports.specs.LeafMaps.{LeafMap, Limits, IsCrowdedBy, entry_count}
use Rattle.gx_schema.specs.declared.schema.Schema.{Schema}
use Rattle.gx_commands.specs.declared.command.Command.{Command}
use Rattle.gx_commands.specs.declared.command.LineWhy.{LineWhy}
use Rattle.gx_commands.specs.Commands.{place_reason}
use Rattle.gx_script.specs.Grammar.{IsLineOf}
use Rattle.gx_commands.specs.Lines.{script_lines}
use Rattle.gx_equation.specs.Trees.{DefinitionTree}
use Rattle.gx_types.specs.declared.built.Built.{Built}
use Rattle.gx_model.specs.States.{State}
use Rattle.gx_model.specs.Play.{Playing, End, stopped, start_at, end_text, seen_state, is_inside, after_command}
use Rattle.gx_states.specs.Terms.{state_size}
use Rattle.gx_engine.specs.Steps.{state_entries}
use Rattle.gx_engine.specs.Moments.{AreInternal}
pub use Rattle.gx_engine.specs.Moments.{MayWantRoom}
use Rattle.gx_play.specs.Asked.{Runs, IsPlayFrom, AreFirstAnswersFrom}
use Rattle.gx_play.specs.Endings.{memory_line, full_line}

-- such a text was said
abbrev pub SaysText : (List ℕ → Type 0) → Content → Content → Type 0
SaysText P old new = (text : List ℕ) × P text × (new.now.said ≡ old.now.said ++ text)

-- a front of such a text was said
abbrev pub SaysFront : (List ℕ → Type 0) → Content → Content → Type 0
SaysFront P old new =
    (text : List ℕ) × P text × ((count : ℕ) × (new.now.said ≡ old.now.said ++ take count text))

-- such a text was said, and the state that goes with it is held
abbrev pub SaysKeeping : (List ℕ → State → Type 0) → (State → Type 0) → Content → Content → Type 0
SaysKeeping P Holds old new =
    (text : List ℕ) × (kept : State) × P text kept × (new.now.said ≡ old.now.said ++ text)
    × Holds kept

-- a front of such a text was said, and the state that goes with it is held
abbrev pub SaysFrontKeeping : (List ℕ → State → Type 0) → (State → Type 0) → Content → Content
    → Type 0
SaysFrontKeeping P Holds old new =
    (text : List ℕ) × (kept : State) × P text kept
    × ((count : ℕ) × (new.now.said ≡ old.now.said ++ take count text)) × Holds kept

-- ---- of a schema, a start state and a script

-- the play of a whole script from a state on: its answers, its last states and its end
abbrev pub IsPlay : Schema → State → List ℕ → List ℕ → Playing → End → Type 0
IsPlay schema start script = IsPlayFrom schema (start_at start) (script_lines script)

-- the answers of the script's first lines from a state on
abbrev pub AreFirst : Schema → State → List ℕ → List ℕ → Type 0
AreFirst schema start script = AreFirstAnswersFrom schema (start_at start) script

-- the answers of the script's play from a state up to this end, then the line of the end, and the
-- last kept state
pub record IsPlayText (schema : Schema) (start : State) (script : List ℕ) (end : End)
    (text : List ℕ) (kept : State) : Type 0 where
  pub answers : List ℕ
  pub final : Playing
  pub play : IsPlay schema start script answers final end
  pub text_is : text ≡ answers ++ end_text end
  pub kept_is : kept ≡ final.kept

-- the same, where the play ends at a line
abbrev pub IsStoppedText : Schema → State → List ℕ → List ℕ → State → Type 0
IsStoppedText schema start script text kept =
    (number : ℕ) × (why : LineWhy) × IsPlayText schema start script (stopped number why) text kept

-- the answers of the script's first lines, then the line that there was no memory, and the state
-- that these lines kept
pub record IsMemoryText (schema : Schema) (start : State) (script text : List ℕ)
    (kept : State) : Type 0 where
  pub answers : List ℕ
  pub first : AreFirst schema start script answers
  pub text_is : text ≡ answers ++ memory_line
  pub kept_is : kept ≡ first.final.kept

-- ---- a full device

-- The first of these lines has a command, which may stand there. It may want room, and the pages
-- may be too few for so many entries and those of the state behind it, as they are counted.
pub record IsShortWith (schema : Schema) (count : State → ℕ) (limit : Option Limits) (p : Playing)
    (entries : ℕ) (lines : List (List ℕ)) : Type 0 where
  pub line : List ℕ
  pub later : List (List ℕ)
  pub lines_are : lines ≡ line ∷ later
  pub command : Command
  pub means : IsLineOf schema line command
  pub placed : place_reason (is_inside p) command ≡ None
  pub wants : MayWantRoom schema p command
  pub short : IsCrowdedBy limit (entries + count (seen_state (after_command schema p command)))

-- the same of the entries of the state before it, in the leaves of the definitions
abbrev pub IsShort : Schema → List DefinitionTree → Option Limits → Playing → List (List ℕ) → Type 0
IsShort schema ds limit p lines =
    IsShortWith schema (state_size schema ds) limit p (state_size schema ds (seen_state p)) lines

-- the same of the entries of the leaves, which stand for that state; there is one for each owner,
-- and no other
pub record IsShortAt (schema : Schema) (built : Built) (limit : Option Limits) (p : Playing)
    (lines : List (List ℕ)) : Type 0 where
  pub maps : List LeafMap
  pub many : length maps ≡ length built.owners
  pub before : AreInternal schema built maps (seen_state p)
  pub short : IsShortWith schema (state_entries built) limit p (entry_count maps) lines

-- The script's first lines run from a state, with these answers, and the pages may be too few for
-- the command of the next one.
pub record MayBeFullAt (schema : Schema) (built : Built) (limit : Option Limits) (start : State)
    (script answers : List ℕ) (final : Playing) : Type 0 where
  pub ran : List (List ℕ)
  pub later : List (List ℕ)
  pub parts : (script_lines script).lines ≡ ran ++ later
  pub runs : Runs schema (start_at start) ran answers final
  pub short : IsShortAt schema built limit final later

-- such a moment of the play, by the entries of the states alone
pub record MayBeFull (schema : Schema) (ds : List DefinitionTree) (limit : Option Limits)
    (start : State) (script answers : List ℕ) (final : Playing) : Type 0 where
  pub ran : List (List ℕ)
  pub later : List (List ℕ)
  pub parts : (script_lines script).lines ≡ ran ++ later
  pub runs : Runs schema (start_at start) ran answers final
  pub short : IsShort schema ds limit final later

-- those answers, then the line of a full device, and the state that these lines kept
pub record IsFullText (schema : Schema) (ds : List DefinitionTree) (limit : Option Limits)
    (start : State) (script text : List ℕ) (kept : State) : Type 0 where
  pub answers : List ℕ
  pub final : Playing
  pub full : MayBeFull schema ds limit start script answers final
  pub text_is : text ≡ answers ++ full_line
  pub kept_is : kept ≡ final.kept

-- one of these, of a play that doesn't end well
abbrev pub IsUnfinishedText : Schema → List DefinitionTree → Option Limits → State → List ℕ → List ℕ
    → State → Type 0
IsUnfinishedText schema ds limit start script text kept =
    IsStoppedText schema start script text kept
    ⊎ IsMemoryText schema start script text kept
    ⊎ IsFullText schema ds limit start script text kept
