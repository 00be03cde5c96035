-- What a crash leaves while lines are played.
use Rattle.std.specs.Prelude.{◌≡◌, ◌⊎◌, ℕ, List, [], ◌++◌, take, Bool, false}
use Rattle.gx_device.specs.Content.{Moment}
use Rattle.gx_device.specs.Crash.{Image, LeavesOnly}
use Rattle.gx_schema.specs.declared.schema.Schema.{Schema}
use Rattle.gx_commands.specs.Lines.{Lines}
use Rattle.gx_reader.specs.declared.reader.LineReader.{LineReader}
use Rattle.gx_reader.specs.Reader.{meant, number_of}
use Rattle.gx_ports.specs.declared.view.View.{Ghosts}
use Rattle.gx_types.specs.declared.built.Built.{Built}
use Rattle.gx_model.specs.States.{State}
use Rattle.gx_model.specs.Play.{Playing}
use Rattle.gx_engine.specs.declared.engine.Engine.{Engine}
use Rattle.gx_engine.specs.Steps.{schema_of, built_of, leaves_of}
use Rattle.gx_engine.specs.Crashes.{HoldsState}
use Rattle.gx_play.specs.declared.play.Answers.{Answers}
use Rattle.gx_play.specs.declared.play.Answers.TheVariants as answers
use Rattle.gx_play.specs.declared.lines.Asked.{Asked}
use Rattle.gx_play.specs.Asked.{Step, Runs, IsAnsweredTo, after_asked}
use Rattle.gx_play.specs.Answering.{beside, with_answers}
use Rattle.gx_play.specs.Plays.{AreSaidUpTo}
use Rattle.gx_play.specs.Pieces.{IsGoing}

-- ---- a line

-- a front of an answer was said; of one that is kept nothing was
abbrev pub IsSaidOf : Answers → List ℕ → List ℕ → List ℕ → Type 0
IsSaidOf answers.Said answer before now = (count : ℕ) × (now ≡ before ++ take count answer)
IsSaidOf answers.Kept answer before now = now ≡ before

-- While what is asked for is carried out and its answer said: the blocks hold the state that was
-- kept before it, and nothing of its answer was said; or the one that is kept after it, and a front
-- of its answer was said.
pub record IsAskedImage (schema : Schema) (Holds : State → List (List ℕ) → Type 0)
    (to : Answers) (p : Playing) (asked : Asked) (start : Moment) (image : Image) : Type 0 where
  pub is : (Holds p.kept image.blocks × (image.said ≡ start.said))
      ⊎ ((answer : List ℕ) × IsAnsweredTo schema p asked answer
      × Holds (after_asked schema p asked).kept image.blocks
      × IsSaidOf to answer start.said image.said)
  pub shelf : image.shelf ≡ start.shelf

-- While a line is carried out and its answer said: the blocks hold the state that was kept before
-- it, and nothing of its answer was said; or the one that is kept after it, and a front of its
-- answer was said.
pub record IsLineImage (schema : Schema) (Holds : State → List (List ℕ) → Type 0) (to : Answers)
    (p : Playing) (line : List ℕ) (start : Moment) (image : Image) : Type 0 where
  pub is : (Holds p.kept image.blocks × (image.said ≡ start.said))
      ⊎ ((answer : List ℕ) × (next : Playing) × Step schema p line answer next
      × Holds next.kept image.blocks × IsSaidOf to answer start.said image.said)
  pub shelf : image.shelf ≡ start.shelf

-- What a crash leaves from before what is asked for until after it. Unless a call below failed it
-- is calm afterwards.
pub record LeavesAsked {S : Type 0} (g : Ghosts S) (schema : Schema) (built : Built)
    (to : Answers) (p : Playing) (asked : Asked) (failed : Bool) (old new : S) : Type 0 where
  pub images : LeavesOnly (IsAskedImage schema (HoldsState g schema built (g.head old)) to p
      asked (g.content old).now) (g.content old) (g.content new)
  pub calm : failed ≡ false → g.calm new (g.content new)

-- What a crash leaves from before a line until after it. Unless a call below failed it is calm
-- afterwards.
pub record LeavesLine {S : Type 0} (g : Ghosts S) (schema : Schema) (built : Built) (to : Answers)
    (p : Playing) (line : List ℕ) (failed : Bool) (old new : S) : Type 0 where
  pub images : LeavesOnly (IsLineImage schema (HoldsState g schema built (g.head old)) to p line
      (g.content old).now) (g.content old) (g.content new)
  pub calm : failed ≡ false → g.calm new (g.content new)

-- ---- lines

-- the answers of these lines were said, but perhaps for an end of the last one's; where they are
-- kept nothing was said
abbrev pub AreSaidOf : Answers → Schema → Playing → List (List ℕ) → List ℕ → List ℕ → List ℕ
    → Type 0
AreSaidOf answers.Said schema p ran text before now = AreSaidUpTo schema p ran text before now
AreSaidOf answers.Kept schema p ran text before now = now ≡ before

-- While lines are played: the first of them ran, the blocks hold the state that is kept behind
-- these, and their answers were said, but perhaps for an end of the last one's.
pub record IsPlayImage (schema : Schema) (Holds : State → List (List ℕ) → Type 0) (to : Answers)
    (p : Playing) (lines : List (List ℕ)) (start : Moment) (image : Image) : Type 0 where
  pub ran : List (List ℕ)
  pub later : List (List ℕ)
  pub parts : lines ≡ ran ++ later
  pub text : List ℕ
  pub final : Playing
  pub runs : Runs schema p ran text final
  pub up_to : AreSaidOf to schema p ran text start.said image.said
  pub holds : Holds final.kept image.blocks
  pub shelf : image.shelf ≡ start.shelf

-- What a crash leaves from before lines until the play of them ends. Unless a call below failed it
-- is calm afterwards.
pub record LeavesPlay {S : Type 0} (g : Ghosts S) (schema : Schema) (built : Built) (to : Answers)
    (p : Playing) (lines : List (List ℕ)) (failed : Bool) (old new : S) : Type 0 where
  pub images : LeavesOnly (IsPlayImage schema (HoldsState g schema built (g.head old)) to p lines
      (g.content old).now) (g.content old) (g.content new)
  pub calm : failed ≡ false → g.calm new (g.content new)

-- ---- a piece of a script

-- In every play that comes to a piece, and of which a crash left its images so far, it leaves them
-- up to where the piece ends.
abbrev pub LeavesPiece : {S : Type 0} → Ghosts S → Answers → List ℕ → LineReader → Engine S
    → Engine S → List ℕ → Bool → Type 0
LeavesPiece {S = S} g to piece reader old new out failed =
    (p : Playing) (all : Lines) (rest : List ℕ) (start : Engine S) (kept : List ℕ)
    → IsGoing (beside g to) p all (meant reader (piece ++ rest)) (number_of reader)
    (with_answers start kept) (with_answers old out)
    → g.head (leaves_of old) ≡ g.head (leaves_of start)
    → LeavesPlay g (schema_of start) (built_of start) to p all.lines false (leaves_of start)
    (leaves_of old)
    → LeavesPlay g (schema_of start) (built_of start) to p all.lines failed (leaves_of start)
    (leaves_of new)

-- the same of all that is left, where nothing more comes
abbrev pub LeavesRest : {S : Type 0} → Ghosts S → Answers → LineReader → Engine S → Engine S
    → List ℕ → Bool → Type 0
LeavesRest {S = S} g to reader old new out failed =
    (p : Playing) (all : Lines) (start : Engine S) (kept : List ℕ)
    → IsGoing (beside g to) p all (meant reader []) (number_of reader) (with_answers start kept)
    (with_answers old out)
    → g.head (leaves_of old) ≡ g.head (leaves_of start)
    → LeavesPlay g (schema_of start) (built_of start) to p all.lines false (leaves_of start)
    (leaves_of old)
    → LeavesPlay g (schema_of start) (built_of start) to p all.lines failed (leaves_of start)
    (leaves_of new)
