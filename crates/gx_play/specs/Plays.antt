-- What the play of a script on an engine says, line by line.
use Rattle.std.specs.Prelude.{◌≡◌, ◌≢◌, ◌⊎◌, ℕ, ◌+◌, ◌≤◌, List, ◌∷◌, ◌++◌, length, take, Bool, true, false, IsTrue, Option, None, IsSome, Result, Ok, Err}
use Rattle.gx_device.specs.Content.{Silent}
use Rattle.gx_device.specs.Quiet.{IsPrefix}
use Rattle.gx_device.specs.Faults.{Rose}
use Rattle.gx_schema.specs.declared.schema.Schema.{Schema}
use Rattle.gx_commands.specs.declared.command.Command.{Command}
use Rattle.gx_commands.specs.declared.command.Command.TheVariants as command
use Rattle.gx_commands.specs.declared.command.LineWhy.{LineWhy}
use Rattle.gx_commands.specs.Commands.{place_reason}
use Rattle.gx_script.specs.Grammar.{IsLineOf}
use Rattle.gx_commands.specs.Lines.{Lines, stopped as stopped_lines}
use Rattle.gx_ports.specs.LeafMaps.{Limits}
use Rattle.gx_ports.specs.Calls.{Keeps}
use Rattle.gx_ports.specs.declared.view.View.{Ghosts}
use Rattle.gx_ports.specs.Stops.{is_outside}
use Rattle.gx_ports.specs.declared.stop.Stop.{Stop}
use Rattle.gx_ports.specs.declared.stop.Stop.TheVariants as stop
use Rattle.gx_model.specs.States.{State}
use Rattle.gx_model.specs.Play.{Playing, End, good, stopped, is_inside, start_at}
use Rattle.gx_types.specs.declared.built.Built.{Built}
pub use Rattle.gx_engine.specs.declared.engine.Engine.{Engine}
use Rattle.gx_engine.specs.Moments.{AreInternal}
pub use Rattle.gx_engine.specs.Steps.{AreFor, IsAt, IsReady, schema_of, built_of, stop_of, leaves_of}
use Rattle.gx_engine.specs.Steps.{IsShortFor}
use Rattle.gx_play.specs.declared.lines.Asked.{Asked}
use Rattle.gx_play.specs.declared.lines.Asked.TheVariants as asked
use Rattle.gx_play.specs.Asked.{IsAsked, IsAnsweredTo, after_asked, is_commit, IsBadLine, Runs, IsPlayFrom}
use Rattle.gx_play.specs.declared.ending.Ending.{Ending}
use Rattle.gx_play.specs.declared.ending.Ending.TheVariants as ending
use Rattle.gx_play.specs.Endings.{ending_of}
use Rattle.gx_play.specs.Played.{IsPlay, AreFirst, IsShortAt, MayBeFullAt}
use Rattle.gx_play.specs.declared.carry.LineEnd.{LineEnd}
use Rattle.gx_play.specs.declared.carry.LineEnd.TheVariants as line_end
use Rattle.gx_play.specs.declared.play.PlayEnd.{PlayEnd}
use Rattle.gx_play.specs.declared.play.PlayEnd.TheVariants as play_end
use Rattle.gx_play.specs.declared.play.Answers.{Answers}
use Rattle.gx_play.specs.declared.play.Answers.TheVariants as answers
use Rattle.gx_play.specs.Say.{OnlySays}

-- what is asked for was carried out and its answer said, and the engine stands for what comes after
-- it
pub record IsAskedPlayed {S : Type 0} (g : Ghosts S) (p : Playing) (a : Asked)
    (old new : Engine S) : Type 0 where
  pub answer : List ℕ
  pub answered : IsAnsweredTo (schema_of old) p a answer
  pub at : IsAt g (after_asked (schema_of old) p a) new
  pub said : IsTrue g.tells
      → (g.content (leaves_of new)).now.said ≡ (g.content (leaves_of old)).now.said ++ answer

-- the same of what a line asks for
pub record IsLinePlayed {S : Type 0} (g : Ghosts S) (p : Playing) (line : List ℕ)
    (old new : Engine S) : Type 0 where
  pub asked : Asked
  pub means : IsAsked (schema_of old) (is_inside p) line asked
  pub played : IsAskedPlayed g p asked old new

-- nothing was said of it, and unless it is a commit what was last committed stays
abbrev pub IsAskedUnsaid : {S : Type 0} → Ghosts S → Asked → Engine S → Engine S → Type 0
IsAskedUnsaid g a old new =
    ((g.content (leaves_of new)).now.said ≡ (g.content (leaves_of old)).now.said)
    × (is_commit a ≡ false → Keeps g (leaves_of old) (leaves_of new))

-- it was carried out, and a front of its answer was said
abbrev pub IsAnswerCut : {S : Type 0} → Ghosts S → Playing → Asked → Engine S → Engine S → Type 0
IsAnswerCut g p a old new =
    IsAt g (after_asked (schema_of old) p a) new
    × ((answer : List ℕ) × IsAnsweredTo (schema_of old) p a answer
    × ((count : ℕ) × ((g.content (leaves_of new)).now.said
    ≡ (g.content (leaves_of old)).now.said ++ take count answer)))

-- It was given up: nothing was said, or a front of its answer behind which it was carried out.
abbrev pub IsAskedCut : {S : Type 0} → Ghosts S → Playing → Asked → Engine S → Engine S → Type 0
IsAskedCut g p a old new = IsAskedUnsaid g a old new ⊎ IsAnswerCut g p a old new

-- the same of what a line asks for; where it wasn't read, nothing happened
abbrev pub IsLineCut : {S : Type 0} → Ghosts S → Playing → List ℕ → Engine S → Engine S → Type 0
IsLineCut g p line old new =
    (new ≡ old) ⊎ ((a : Asked) × IsAsked (schema_of old) (is_inside p) line a
    × IsAskedCut g p a old new)

-- the line of this number is bad
abbrev pub IsBadAt : Schema → Bool → ℕ → List ℕ → ℕ → LineWhy → Type 0
IsBadAt schema inside number line n why = (n ≡ number) × IsBadLine schema inside line why

-- Why a line may be given up where the leaves stood for a moment of the play: a call below failed,
-- there was no memory, or the pages were too few, which leaves without a limit never say.
-- `IsPlayedPart` says for which line they were.
abbrev pub HasPlayCause : Option Limits → ℕ → ℕ → Stop → Type 0
HasPlayCause limit before now stop.NoMemory = Unit {0}
HasPlayCause limit before now stop.Fault = Rose before now
HasPlayCause limit before now stop.Full = IsSome limit
HasPlayCause limit before now (stop.Damaged block) = ⊥

-- why a call is given up that needs no page: a call below failed, or there was no memory
abbrev pub HasCause : ℕ → ℕ → Stop → Type 0
HasCause before now stop.Fault = Rose before now
HasCause before now stop.NoMemory = Unit {0}
HasCause before now other = ⊥

-- whether a call below failed
abbrev pub is_play_fault : {T : Type 0} → Result T PlayEnd → Bool
is_play_fault (Err (play_end.Stop why)) = is_outside why
is_play_fault _ = false

-- the same of one line
abbrev pub is_line_fault : {T : Type 0} → Result T LineEnd → Bool
is_line_fault (Err (line_end.Stop why)) = is_outside why
is_line_fault _ = false

-- What the play of lines keeps of an engine. What was said before stays, in front, and where the
-- answers are kept nothing is said.
pub record KeepsPlayed {S : Type 0} (g : Ghosts S) (to : Answers)
    (old new : Engine S) : Type 0 where
  pub schema : schema_of new ≡ schema_of old
  pub built : built_of new ≡ built_of old
  pub ready : IsReady g new
  pub limit : g.limit (leaves_of new) ≡ g.limit (leaves_of old)
  pub head : g.head (leaves_of new) ≡ g.head (leaves_of old)
  pub rest : OnlySays (g.content (leaves_of old)) (g.content (leaves_of new))
  pub begins : IsTrue g.tells
      → IsPrefix (g.content (leaves_of old)).now.said (g.content (leaves_of new)).now.said
  pub silent : to ≡ answers.Kept → Silent (g.content (leaves_of old)) (g.content (leaves_of new))

-- how failures are counted: the count never falls, it rises where a call below failed, and else it
-- stays
pub record CountsFailed (before now : ℕ) (failed : Bool) : Type 0 where
  pub later : before ≤ now
  pub rose : failed ≡ true → Rose before now
  pub counted : failed ≡ false → now ≡ before

-- ---- the play of lines

-- the pages may be too few for what is asked for, which is no path
abbrev pub IsAskedShort : {S : Type 0} → Ghosts S → Engine S → Playing → Asked → Type 0
IsAskedShort g e p (asked.Command c) = IsShortFor g e p c
IsAskedShort g e p (asked.Path q) = ⊥

-- the pages may be too few for the command of a line, which may stand there
abbrev pub IsShortLine : {S : Type 0} → Ghosts S → Engine S → Playing → List ℕ → Type 0
IsShortLine g e p line =
    (command : Command) × IsLineOf (schema_of e) line command
    × (place_reason (is_inside p) command ≡ None) × IsShortFor g e p command

-- What is asked for was given up: unless a call below failed, nothing was said of it, and what was
-- last committed stays.
pub record IsAskedGivenUp {S : Type 0} (g : Ghosts S) (p : Playing) (a : Asked)
    (old new : Engine S) (why : Stop) : Type 0 where
  pub unsaid : why ≢ stop.Fault
      → (g.content (leaves_of new)).now.said ≡ (g.content (leaves_of old)).now.said
  pub cut : IsAskedCut g p a old new
  pub kept : why ≢ stop.Fault → Keeps g (leaves_of old) (leaves_of new)
  pub short : why ≡ stop.Full → IsAskedShort g old p a

-- A line was given up: unless a call below failed, nothing of it was said, and what was last
-- committed stays.
pub record IsGivenUp {S : Type 0} (g : Ghosts S) (p : Playing) (line : List ℕ) (old new : Engine S)
    (why : Stop) : Type 0 where
  pub unsaid : why ≢ stop.Fault
      → (g.content (leaves_of new)).now.said ≡ (g.content (leaves_of old)).now.said
  pub cut : IsLineCut g p line old new
  pub kept : why ≢ stop.Fault → Keeps g (leaves_of old) (leaves_of new)
  pub short : why ≡ stop.Full → IsShortLine g old p line

-- ---- where a play ends

-- the kept leaves are whole, and hold this state
abbrev pub KeepsState : {S : Type 0} → Ghosts S → Schema → Built → S → State → Type 0
KeepsState g schema built leaves s =
    AreInternal schema built (g.kept leaves) s × g.kept_whole leaves

-- the lines were played from a moment on, up to this end, their answers were said, and the engine
-- stands there
pub record IsPlayedUp {S : Type 0} (g : Ghosts S) (p : Playing) (lines : Lines) (old new : Engine S)
    (end : End) : Type 0 where
  pub text : List ℕ
  pub final : Playing
  pub played : IsPlayFrom (schema_of old) p lines text final end
  pub said : (g.content (leaves_of new)).now.said ≡ (g.content (leaves_of old)).now.said ++ text
  pub at : IsAt g final new

-- the first of these lines is a commit
abbrev pub IsCommitLine : Schema → List (List ℕ) → Type 0
IsCommitLine schema lines =
    (line : List ℕ) × (later : List (List ℕ)) × (lines ≡ line ∷ later)
    × IsLineOf schema line command.Commit

-- The answers of these lines from a moment on were said, but perhaps for an end of the last one's:
-- whole those of the first lines, and a front of the answer of the last.
pub record AreSaidUpTo (schema : Schema) (p : Playing) (ran : List (List ℕ))
    (text before now : List ℕ) : Type 0 where
  pub first : List (List ℕ)
  pub last : List (List ℕ)
  pub one : length last ≤ 1
  pub ran_are : ran ≡ first ++ last
  pub whole : List ℕ
  pub cut : List ℕ
  pub text_is : text ≡ whole ++ cut
  pub middle : Playing
  pub runs : Runs schema p first whole middle
  pub count : ℕ
  pub said : now ≡ before ++ (whole ++ take count cut)

-- The first lines ran from a moment on, and their answers were said, but perhaps for an end of the
-- last one. Unless a call below failed, all of them was, and the last kept state is theirs. After a
-- failed call the engine stands behind them; or all of their answers was said, and the last kept
-- state is theirs unless the next line is a commit.
pub record IsPlayedPart {S : Type 0} (g : Ghosts S) (p : Playing) (lines : Lines)
    (old new : Engine S) (why : Stop) : Type 0 where
  pub ran : List (List ℕ)
  pub later : List (List ℕ)
  pub parts : lines.lines ≡ ran ++ later
  pub text : List ℕ
  pub final : Playing
  pub runs : Runs (schema_of old) p ran text final
  pub up_to : AreSaidUpTo (schema_of old) p ran text (g.content (leaves_of old)).now.said
      (g.content (leaves_of new)).now.said
  pub whole : why ≢ stop.Fault
      → (g.content (leaves_of new)).now.said ≡ (g.content (leaves_of old)).now.said ++ text
  pub kept : why ≢ stop.Fault
      → KeepsState g (schema_of old) (built_of old) (leaves_of new) final.kept
  pub failed : why ≡ stop.Fault
      → IsAt g final new
      ⊎ (((g.content (leaves_of new)).now.said ≡ (g.content (leaves_of old)).now.said ++ text)
      × (KeepsState g (schema_of old) (built_of old) (leaves_of new) final.kept
      ⊎ IsCommitLine (schema_of old) later))
  pub short : why ≡ stop.Full
      → IsShortAt (schema_of old) (built_of old) (g.limit (leaves_of old)) final later

-- the same for the end that a play answers
abbrev pub IsPlayedTo : {S : Type 0} → Ghosts S → Playing → Lines → Engine S → Engine S
    → Result (Unit {0}) PlayEnd → Type 0
IsPlayedTo g p lines old new (Ok x) = IsPlayedUp g p lines old new good
IsPlayedTo g p lines old new (Err (play_end.Line number why)) =
    IsPlayedUp g p lines old new (stopped number why)
IsPlayedTo g p lines old new (Err (play_end.Stop why)) = IsPlayedPart g p lines old new why

-- Where the play of all lines stands when so many ran, and these are left.
pub record IsSoFar {S : Type 0} (g : Ghosts S) (start : Playing) (all left : Lines) (number : ℕ)
    (old new : Engine S) : Type 0 where
  pub now : Playing
  pub answers : List ℕ
  pub at : IsAt g now new
  pub said : (g.content (leaves_of new)).now.said ≡ (g.content (leaves_of old)).now.said ++ answers
  pub ran : List (List ℕ)
  pub many : length ran ≡ number
  pub lines_are : all.lines ≡ ran ++ left.lines
  pub stop_is : all.stop ≡ left.stop
  pub runs : Runs (schema_of old) start ran answers now

-- why there is no next line
abbrev pub IsLineEnd : Lines → ℕ → PlayEnd → Type 0
IsLineEnd lines number (play_end.Line n why) = (n ≡ number + 1) × (lines ≡ stopped_lines why)
IsLineEnd lines number (play_end.Stop stop) = ⊥

-- ---- a script over leaves that hold a state

-- the leaves are whole, hold this state, and nothing of it is still to be committed
pub record IsHolding {S : Type 0} (g : Ghosts S) (schema : Schema) (built : Built) (s : State)
    (leaves : S) : Type 0 where
  pub working_is : AreInternal schema built (g.working leaves) s
  pub kept_same : g.kept leaves ≡ g.working leaves
  pub whole_is : g.whole leaves
  pub kept_whole_is : g.kept_whole leaves

-- What the play of a script keeps of the leaves that it hands back, whatever they held. What was
-- said before stays, in front, and no device is attached.
pub record KeepsOver {S : Type 0} (g : Ghosts S) (old new : S) : Type 0 where
  pub head : g.head new ≡ g.head old
  pub begins : IsTrue g.tells → IsPrefix (g.content old).now.said (g.content new).now.said
  pub shelf : (g.content new).now.shelf ≡ (g.content old).now.shelf
  pub aside : (g.content new).aside ≡ (g.content old).aside

-- The script was played from a state up to this end. What was said before grew by its answers, and
-- its last kept state is held.
pub record IsPlayedOut (schema : Schema) (start : State) (Holds : State → Type 0)
    (script before now : List ℕ) (end : End) : Type 0 where
  pub answers : List ℕ
  pub final : Playing
  pub play : IsPlay schema start script answers final end
  pub said : now ≡ before ++ answers
  pub holds : Holds final.kept

-- the same of its first lines
pub record IsPlayedFirst (schema : Schema) (start : State) (Holds : State → Type 0)
    (script before now : List ℕ) : Type 0 where
  pub answers : List ℕ
  pub first : AreFirst schema start script answers
  pub said : now ≡ before ++ answers
  pub holds : Holds first.final.kept

-- the same, where the pages may be too few for the command of the next line
pub record IsPlayedFull (schema : Schema) (built : Built) (limit : Option Limits) (start : State)
    (Holds : State → Type 0) (script before now : List ℕ) : Type 0 where
  pub answers : List ℕ
  pub final : Playing
  pub full : MayBeFullAt schema built limit start script answers final
  pub said : now ≡ before ++ answers
  pub holds : Holds final.kept

-- The answers of its first lines were said, but perhaps for an end of the last one. The last state
-- that these lines kept is held; or all of their answers was said, and the next line is a commit.
pub record IsPlayedFront (schema : Schema) (start : State) (Holds : State → Type 0)
    (script before now : List ℕ) : Type 0 where
  pub answers : List ℕ
  pub first : AreFirst schema start script answers
  pub up_to : AreSaidUpTo schema (start_at start) first.ran answers before now
  pub holds : Holds first.final.kept ⊎ ((now ≡ before ++ answers) × IsCommitLine schema first.later)

-- how the play of a script ended, before the line of the end is said
abbrev pub IsPlayedAs : Schema → Built → Option Limits → State → (State → Type 0) → List ℕ → List ℕ
    → List ℕ → Result (Unit {0}) Ending → Type 0
IsPlayedAs schema built limit start Holds script before now (Ok x) =
    IsPlayedOut schema start Holds script before now good
IsPlayedAs schema built limit start Holds script before now (Err (ending.Line number why)) =
    IsPlayedOut schema start Holds script before now (stopped number why)
IsPlayedAs schema built limit start Holds script before now (Err ending.NoMemory) =
    IsPlayedFirst schema start Holds script before now
IsPlayedAs schema built limit start Holds script before now (Err ending.Full) =
    IsPlayedFull schema built limit start Holds script before now
IsPlayedAs schema built limit start Holds script before now (Err ending.Fault) =
    IsPlayedFront schema start Holds script before now
IsPlayedAs schema built limit start Holds script before now (Err _) = ⊥

-- what an end of the play means for the request
abbrev pub IsEndingOf : Result (Unit {0}) PlayEnd → Result (Unit {0}) Ending → Type 0
IsEndingOf (Ok x) result = result ≡ Ok tt
IsEndingOf (Err end) result = result ≡ Err (ending_of end)
