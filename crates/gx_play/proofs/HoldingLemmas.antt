-- Leaves that hold a state, and the engine that starts on them.
use Rattle.std.proofs.Common.{◌≡◌, sym, subst}
use Rattle.gx_schema.specs.declared.schema.Schema.{Schema}
use Rattle.gx_ports.specs.declared.view.View.{Ghosts}
use Rattle.gx_types.specs.declared.built.Built.{Built}
use Rattle.gx_model.specs.States.{State}
use Rattle.gx_model.specs.Play.{start_at}
use Rattle.gx_engine.specs.declared.engine.Engine.{Engine}
use Rattle.gx_engine.specs.Steps.{StandsFor, IsAt, leaves_of}
use Rattle.gx_play.specs.Plays.{IsHolding}

-- the engine stands for the start of a play
pub at_first : {S : Type 0} (g : Ghosts S) (schema : Schema) (built : Built) (s : State)
    (leaves : S)
    (e : Engine S) → IsHolding g schema built s leaves → leaves_of e ≡ leaves
    → StandsFor g e (start_at s) → IsAt g (start_at s) e
at_first g schema built s leaves e h leaves_are stands = record {
  stands = stands;
  whole_is = subst g.whole (sym leaves_are) h.whole_is;
  kept_whole_is = subst g.kept_whole (sym leaves_are) h.kept_whole_is;
}
