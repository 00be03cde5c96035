-- What a crash leaves while a command is carried out, in states.
use Rattle.std.specs.Prelude.{◌≡◌, ℕ, List, Bool, false}
use Rattle.gx_device.specs.Crash.{LeavesOnly}
use Rattle.gx_device.specs.Quiet.{IsOldOrNew}
use Rattle.gx_schema.specs.declared.schema.Schema.{Schema}
use Rattle.gx_commands.specs.declared.command.Command.{Command}
use Rattle.gx_ports.specs.declared.view.View.{Ghosts}
use Rattle.gx_ports.specs.Heads.{Head}
use Rattle.gx_ports.specs.LeafMaps.{LeafMap}
use Rattle.gx_types.specs.declared.built.Built.{Built}
use Rattle.gx_model.specs.States.{State}
use Rattle.gx_model.specs.Play.{Playing, after_command}
use Rattle.gx_engine.specs.declared.engine.Engine.{Engine}
use Rattle.gx_engine.specs.Moments.{AreInternal}
use Rattle.gx_engine.specs.Steps.{schema_of, built_of, leaves_of}

-- blocks under this head hold a state of the schema, as it is built, and the stored form of each
-- leaf is whole in them
pub record HoldsState {S : Type 0} (g : Ghosts S) (schema : Schema) (built : Built) (head : Head)
    (s : State) (blocks : List (List ℕ)) : Type 0 where
  pub maps : List LeafMap
  pub internal : AreInternal schema built maps s
  pub is : g.stands head maps blocks
  pub laid : g.laid head blocks

-- the same for the leaves of an engine
abbrev pub HoldsFor : {S : Type 0} → Ghosts S → Engine S → State → List (List ℕ) → Type 0
HoldsFor g e = HoldsState g (schema_of e) (built_of e) (g.head (leaves_of e))

-- What a crash within a command leaves, where it was calm before: the state that was kept, or the
-- one that is kept after it, which differ for a commit alone. Unless a call below failed it is calm
-- afterwards.
pub record LeavesStates {S : Type 0} (g : Ghosts S) (p : Playing) (c : Command)
    (old new : Engine S) (failed : Bool) : Type 0 where
  pub images : LeavesOnly (IsOldOrNew (HoldsFor g old p.kept)
      (HoldsFor g old (after_command (schema_of old) p c).kept) (g.content (leaves_of old)).now)
      (g.content (leaves_of old)) (g.content (leaves_of new))
  pub calm : failed ≡ false → g.calm (leaves_of new) (g.content (leaves_of new))
