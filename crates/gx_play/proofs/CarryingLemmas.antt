-- Carrying out a command, or a path.
use Rattle.std.proofs.Common.{◌≡◌, ℕ, List, ◌++◌, false, None, Result, Ok, Err, refl, sym, ap, subst, ◌∙◌}
use Rattle.std.specs.Prelude.{Option, OnOk, OnErr}
use Rattle.gx_device.specs.Content.{Content}
use Rattle.gx_schema.specs.declared.schema.Schema.{Schema}
use Rattle.gx_commands.specs.declared.command.Command.{Command}
use Rattle.gx_commands.specs.declared.command.Command.TheVariants as command
use Rattle.gx_commands.specs.declared.path.PathQuery.{PathQuery}
use Rattle.gx_ports.specs.Calm.{StaysKept}
use Rattle.gx_ports.specs.LeafMaps.{LeafMap}
use Rattle.gx_ports.specs.declared.stop.Stop.{Stop}
use Rattle.gx_ports.specs.declared.stop.Stop.TheVariants as stop
use Rattle.gx_ports.specs.declared.view.View.{Ghosts}
use Rattle.gx_types.specs.declared.built.Built.{Built}
use Rattle.gx_model.specs.Play.{Playing, seen_state, after_command}
use Rattle.gx_model.specs.Paths.{path_text}
use Rattle.gx_engine.specs.declared.engine.Engine.{Engine}
use Rattle.gx_engine.specs.declared.engine.StepStop.{StepStop}
use Rattle.gx_engine.specs.declared.engine.StepStop.TheVariants.{Now, Stopped}
use Rattle.gx_engine.specs.Moments.{Stands, AreInternal}
use Rattle.gx_engine.specs.Steps.{IsAt, IsServed, IsShortFor, CarriesOut, EndsStep, is_fault_now, schema_of, built_of, leaves_of, stop_of, is_open, commits_of}
use Rattle.gx_engine.specs.Crashes.{LeavesStates}
use Rattle.gx_engine.specs.Parts.{EndsReading, KeepsPlay}
use Rattle.gx_engine.proofs.CrashLemmas.{keeps_states}
use Rattle.gx_play.specs.declared.lines.Asked.TheVariants as asked
use Rattle.gx_play.specs.Carrying.{IsAskedStep, without_first}

-- an answer with the stop that is the first one
abbrev with_first : Result (Unit {0}) Stop → Result (Unit {0}) StepStop
with_first (Ok x) = Ok x
with_first (Err why) = Err (Now why)

ok_not_err : {A : Type 0} (why : Stop) → ◌≡◌ {A = Result (Unit {0}) Stop} (Ok tt) (Err why) → A
ok_not_err why e = absurd cc

module _ {S : Type 0} (g : Ghosts S) where
  -- the engine stands for what comes after the command
  stands_after : (p : Playing) (c : Command) (old new : Engine S) (out now : List ℕ)
      → schema_of new ≡ schema_of old → built_of new ≡ built_of old
      → CarriesOut g p c old new out now → g.whole (leaves_of new) → g.kept_whole (leaves_of new)
      → IsAt g (after_command (schema_of old) p c) new
  stands_after p c old new out now schema_is built_is carried whole kept_whole = record {
    stands = subst (λ (x : Schema). Stands x (built_of new) (is_open new) (commits_of new)
        (g.working (leaves_of new)) (g.kept (leaves_of new)) (after_command (schema_of old) p c))
        (sym schema_is)
        (subst (λ (x : Built). Stands (schema_of old) x (is_open new) (commits_of new)
        (g.working (leaves_of new)) (g.kept (leaves_of new)) (after_command (schema_of old) p c))
        (sym built_is) carried.stands);
    whole_is = whole;
    kept_whole_is = kept_whole;
  }

  -- what a step of the engine does
  module _ (c : Command) (old new : Engine S) (out now : List ℕ) (none : stop_of old ≡ None) where
    pub command_step : (r : Result (Unit {0}) StepStop)
        → ((p : Playing) → IsAt g p old → OnOk r (CarriesOut g p c old new out now))
        → ((p : Playing) → IsAt g p old → r ≡ Err (Now stop.Full) → IsShortFor g old p c)
        → ((p : Playing) → IsAt g p old → (start : Content) → g.calm (leaves_of old) start
        → LeavesStates g p c old new (is_fault_now r))
        → EndsStep g old new c out now r
        → IsAskedStep g old new (asked.Command c) out now (without_first r)
    command_step (Ok x) carried full images ends =
        let keeps = ends.keeps in
        record {
          carried = λ p at.
              let did = carried p at in
              record {
                answer = did.answer;
                said = did.said;
                answered = did.answered;
                at = stands_after p c old new out now keeps.schema keeps.built did
                    (keeps.whole at.whole_is at.kept_whole_is)
                    (keeps.kept_whole at.whole_is at.kept_whole_is);
              };
          full = λ p at e. ok_not_err stop.Full e;
          images = λ p at start calm.
              let left = images p at start calm in
              record { images = left.images; calm = left.calm };
          unsaid = tt;
          rest = record {
            schema = keeps.schema;
            built = keeps.built;
            inside = keeps.inside;
            limit = keeps.limit;
            head = keeps.head;
            silent = keeps.silent;
            keeps = keeps.keeps;
            ready = ends.ready;
          };
          kept = λ e. tt;
          going = subst (λ (s : Option Stop). IsServed s (stop_of new) (Ok x)) none ends.served;
          cause = record {
            later = ends.cause.later;
            fault = λ e. ok_not_err stop.Fault e;
            counted = ends.cause.counted;
            damaged = λ block e. ok_not_err (stop.Damaged block) e;
          };
        }
    command_step (Err (Now why)) carried full images ends =
        let keeps = ends.keeps in
        record {
          carried = λ p at. tt;
          full = λ p at e. full p at (ap with_first e);
          images = λ p at start calm.
              let left = images p at start calm in
              record { images = left.images; calm = left.calm };
          unsaid = ends.unsaid;
          rest = record {
            schema = keeps.schema;
            built = keeps.built;
            inside = tt;
            limit = keeps.limit;
            head = keeps.head;
            silent = keeps.silent;
            keeps = keeps.keeps;
            ready = ends.ready;
          };
          kept = ends.kept;
          going = tt;
          cause = record {
            later = ends.cause.later;
            fault = λ e. ends.cause.fault (ap with_first e);
            counted = ends.cause.counted;
            damaged = λ block e. ends.cause.damaged block (ap with_first e);
          };
        }
    command_step (Err (Stopped why)) carried full images ends =
        absurd (subst (λ (s : Option Stop). IsServed s (stop_of new) (Err (Stopped why))) none
        ends.served)

  -- the engine stands where it stood
  still_at : (p : Playing) (old new : Engine S) (x : Unit {0}) → KeepsPlay g old new (Ok x)
      → IsAt g p old → IsAt g p new
  still_at p old new x keeps at = record {
    stands = record {
      inside_same = keeps.inside ∙ at.stands.inside_same;
      commits_same = keeps.commits ∙ at.stands.commits_same;
      working_is = moved (seen_state p) (g.working (leaves_of old)) (g.working (leaves_of new))
          keeps.reads.working at.stands.working_is;
      kept_is = moved p.kept (g.kept (leaves_of old)) (g.kept (leaves_of new)) keeps.keeps.kept
          at.stands.kept_is;
    };
    whole_is = keeps.whole at.whole_is;
    kept_whole_is = keeps.keeps.kept_whole.0 at.kept_whole_is;
  }
    where
      moved : (s : _) (before after : List LeafMap) → after ≡ before
          → AreInternal (schema_of old) (built_of old) before s
          → AreInternal (schema_of new) (built_of new) after s
      moved s before after same is =
          subst (λ (m : List LeafMap). AreInternal (schema_of new) (built_of new) m s) (sym same)
          (subst (λ (x : Schema). AreInternal x (built_of new) before s) (sym keeps.schema)
          (subst (λ (x : Built). AreInternal (schema_of old) x before s) (sym keeps.built) is))

  -- what the walk of a path does
  module _ (means : (l : S) (start : Content) → g.calm l start → StaysKept g l start)
      (goes_on : (l : S) (start : Content) → g.calm l start → g.calm l (g.content l))
      (q : PathQuery) (old new : Engine S) (out now : List ℕ) (none : stop_of old ≡ None) where
    pub path_step : (r : Result (Unit {0}) StepStop)
        → ((p : Playing) → IsAt g p old
        → OnOk r (now ≡ out ++ path_text (schema_of old) (seen_state p) q))
        → OnErr r (now ≡ out) → EndsReading g old new r
        → IsAskedStep g old new (asked.Path q) out now (without_first r)
    path_step (Ok x) text unsaid ends =
        let keeps = ends.keeps in
        record {
          carried = λ p at. record {
            answer = path_text (schema_of old) (seen_state p) q;
            said = text p at;
            answered = refl;
            at = still_at p old new x keeps at;
          };
          full = λ p at e. ok_not_err stop.Full e;
          images = λ p at start calm.
              let left = keeps_states g means goes_on p command.Begin old new false at keeps.keeps
              start calm in
              record { images = left.images; calm = left.calm };
          unsaid = tt;
          rest = record {
            schema = keeps.schema;
            built = keeps.built;
            inside = keeps.inside;
            limit = keeps.keeps.limit;
            head = keeps.keeps.head;
            silent = keeps.keeps.silent;
            keeps = λ e. keeps.keeps;
            ready = ends.ready;
          };
          kept = λ e. tt;
          going = subst (λ (s : Option Stop). IsServed s (stop_of new) (Ok x)) none ends.served;
          cause = record {
            later = ends.cause.later;
            fault = λ e. ok_not_err stop.Fault e;
            counted = ends.cause.counted;
            damaged = λ block e. ok_not_err (stop.Damaged block) e;
          };
        }
    path_step (Err (Now why)) text unsaid ends =
        let keeps = ends.keeps in
        record {
          carried = λ p at. tt;
          full = λ p at e. ends.not_full (ap with_first e);
          images = λ p at start calm.
              let left = keeps_states g means goes_on p command.Begin old new
              (is_fault_now (Err (Now why))) at keeps.keeps start calm in
              record { images = left.images; calm = left.calm };
          unsaid = unsaid;
          rest = record {
            schema = keeps.schema;
            built = keeps.built;
            inside = tt;
            limit = keeps.keeps.limit;
            head = keeps.keeps.head;
            silent = keeps.keeps.silent;
            keeps = λ e. keeps.keeps;
            ready = ends.ready;
          };
          kept = λ e. keeps.keeps;
          going = tt;
          cause = record {
            later = ends.cause.later;
            fault = λ e. ends.cause.fault (ap with_first e);
            counted = ends.cause.counted;
            damaged = λ block e. ends.cause.damaged block (ap with_first e);
          };
        }
    path_step (Err (Stopped why)) text unsaid ends =
        absurd (subst (λ (s : Option Stop). IsServed s (stop_of new) (Err (Stopped why))) none
        ends.served)
