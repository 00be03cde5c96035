-- Laws of calls of an engine that read, one after the other.
use Rattle.std.proofs.Common.{◌≡◌, ℕ, length, Option, Some, None, Result, Ok, Err, refl, sym, subst, ◌∙◌, arith}
use Rattle.std.specs.Prelude.{OnOk, IsSome}
use Rattle.std.proofs.lemmas.Bool.{true≢false}
use Rattle.gx_device.specs.Faults.{Rose}
use Rattle.gx_schema.specs.WellFormed.{IsWellFormed}
use Rattle.gx_ports.specs.declared.stop.Stop.{Stop}
use Rattle.gx_ports.specs.declared.view.View.{Ghosts}
use Rattle.gx_ports.proofs.CallLemmas.{keeps_itself, keeps_joined, reads_itself, reads_joined}
use Rattle.gx_model.specs.States.{State}
use Rattle.gx_engine.specs.declared.engine.Engine.{Engine}
use Rattle.gx_engine.specs.declared.engine.StepStop.{StepStop}
use Rattle.gx_engine.specs.Steps.{schema_of, leaves_of, stop_of, IsServed}
use Rattle.gx_engine.specs.Parts.{EndsReading}
use Rattle.gx_engine.proofs.PartLemmas.{still_at, ends_itself, ends_joined}
use Rattle.gx_walks.specs.Readers.{Costs}
use Rattle.gx_walks.specs.Engines.{CanWalk, Shows, costs_of, costs_in}

-- a call that answers Ok finds no stop, and leaves none
served_ok : (before after : Option Stop) → IsServed before after (Ok tt)
    → (before ≡ None) × (after ≡ None)
served_ok None after h = (refl, h)
served_ok (Some s) after h = absurd cc

module _ {S : Type 0} (g : Ghosts S) where
  pub shows_still : (a b : Engine S) (s : State) → EndsReading g a b (Ok tt) → Shows g a s
      → Shows g b s
  shows_still a b s ends shows = (shows.0, still_at g a b tt shows.0 ends shows.1, shows.2)

  pub costs_still : (a b : Engine S) (s : State) (c : Costs) → EndsReading g a b (Ok tt)
      → c ≡ costs_in g a s → c ≡ costs_in g b s
  costs_still a b s c ends is = is ∙ sym (λ i. costs_of (ends.keeps.schema i) (ends.keeps.built i)
      (length (ends.keeps.reads.working i)) s)

  pub schema_still : (a b : Engine S) (r : Result (Unit {0}) StepStop) → EndsReading g a b r
      → schema_of b ≡ schema_of a
  schema_still a b r ends = ends.keeps.schema

  pub walks_still : (a b : Engine S) (r : Result (Unit {0}) StepStop) → EndsReading g a b r
      → CanWalk g a → CanWalk g b
  walks_still a b r ends can = record {
    ready = ends.ready;
    well_formed = subst IsWellFormed (sym ends.keeps.schema) can.well_formed;
  }

  -- after an Ok, no call is as good as one
  pub at_rest : (a b : Engine S) → EndsReading g a b (Ok tt) → EndsReading g b b (Ok tt)
  at_rest a b ends =
      ends_itself g b ends.ready (served_ok (stop_of a) (stop_of b) ends.served).1

  -- a call that answers Ok, and then another
  pub in_turn : (a b c : Engine S) (r : Result (Unit {0}) StepStop)
      → EndsReading g a b (Ok tt) → EndsReading g b c r → EndsReading g a c r
  in_turn a b c r x y = ends_joined g a b c r x y
