-- What a play over leaves says and leaves, whatever it is a play of.
use Rattle.std.specs.Prelude.{◌≡◌, ◌⊎◌, ℕ, List, ◌++◌, Bool, false, Result, Ok, Err}
use Rattle.gx_device.specs.Content.{Moment}
use Rattle.gx_device.specs.Crash.{Image, LeavesOnly}
use Rattle.gx_schema.specs.declared.schema.Schema.{Schema}
use Rattle.gx_ports.specs.declared.view.View.{Ghosts}
use Rattle.gx_types.specs.declared.built.Built.{Built}
use Rattle.gx_model.specs.States.{State}
use Rattle.gx_model.specs.Play.{good, stopped}
use Rattle.gx_engine.specs.Crashes.{HoldsState}
use Rattle.gx_play.specs.declared.ending.Ending.{Ending}
use Rattle.gx_play.specs.declared.ending.Ending.TheVariants as ending
use Rattle.gx_play.specs.Player.{Play}

-- Answers were said behind what was said before, up to a moment where the play stands so, and the
-- state that is kept there is held.
pub record SaysUpTo {M : Type 0} (p : Play M) (Stands : List ℕ → M → Type 0)
    (Holds : State → Type 0) (before now : List ℕ) : Type 0 where
  pub answers : List ℕ
  pub final : M
  pub stands : Stands answers final
  pub said : now ≡ before ++ answers
  pub holds : Holds (p.kept final)

-- A front of the answers was said. The state that is kept behind them is held; or all of them were
-- said, and the next step is a commit.
pub record SaysFrontOf {M : Type 0} (p : Play M) (Holds : State → Type 0)
    (before now : List ℕ) : Type 0 where
  pub told : List ℕ
  pub final : M
  pub front : p.Front told final
  pub said : now ≡ before ++ told
  pub holds : Holds (p.kept final) ⊎ p.Commits told final

-- how a play ended, before the line of the end is said
abbrev pub IsPlayedOf : {M : Type 0} → Play M → (State → Type 0) → List ℕ → List ℕ
    → Result (Unit {0}) Ending → Type 0
IsPlayedOf p Holds before now (Ok x) = SaysUpTo p (p.Ends good) Holds before now
IsPlayedOf p Holds before now (Err (ending.Line number why)) =
    SaysUpTo p (p.Ends (stopped number why)) Holds before now
IsPlayedOf p Holds before now (Err ending.NoMemory) = SaysUpTo p p.First Holds before now
IsPlayedOf p Holds before now (Err ending.Full) = SaysUpTo p p.Full Holds before now
IsPlayedOf p Holds before now (Err ending.Fault) = SaysFrontOf p Holds before now
IsPlayedOf p Holds before now (Err _) = ⊥

-- While a play goes on: a front of its answers was said, and the blocks hold the state that is kept
-- behind them.
pub record IsImageOf {M : Type 0} (p : Play M) (Holds : State → List (List ℕ) → Type 0)
    (start : Moment) (image : Image) : Type 0 where
  pub told : List ℕ
  pub final : M
  pub front : p.Front told final
  pub said : image.said ≡ start.said ++ told
  pub holds : Holds (p.kept final) image.blocks
  pub shelf : image.shelf ≡ start.shelf

-- What a crash leaves from before a play until it ends. Unless a call below failed it is calm
-- afterwards.
pub record LeavesPlayOf {S M : Type 0} (g : Ghosts S) (schema : Schema) (built : Built)
    (p : Play M) (failed : Bool) (old new : S) : Type 0 where
  pub images : LeavesOnly (IsImageOf p (HoldsState g schema built (g.head old))
      (g.content old).now) (g.content old) (g.content new)
  pub calm : failed ≡ false → g.calm new (g.content new)
