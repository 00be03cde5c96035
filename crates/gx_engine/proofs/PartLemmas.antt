-- What an engine stands for after calls that read records, and how such calls end in turn.
use Rattle.std.proofs.Common.{◌≡◌, List, Option, Some, None, Ok, refl, sym, subst, ◌∙◌, arith}
use Rattle.std.specs.Prelude.{Result, Err, IsSome, OnOk}
use Rattle.gx_ports.specs.declared.stop.Stop.{Stop}
use Rattle.gx_ports.proofs.CallLemmas.{keeps_itself, keeps_joined, reads_itself, reads_joined}
use Rattle.gx_schema.specs.declared.schema.Schema.{Schema}
use Rattle.gx_ports.specs.declared.view.View.{Ghosts}
use Rattle.gx_ports.specs.LeafMaps.{LeafMap}
use Rattle.gx_types.specs.declared.built.Built.{Built}
use Rattle.gx_model.specs.States.{State}
use Rattle.gx_model.specs.Play.{Playing, seen_state}
use Rattle.gx_states.specs.Internal.{AreInternal}
use Rattle.gx_engine.specs.declared.engine.Engine.{Engine}
use Rattle.gx_engine.specs.declared.engine.StepStop.{StepStop}
use Rattle.gx_engine.specs.declared.engine.StepStop.TheVariants.{Now, Stopped}
use Rattle.gx_engine.specs.Steps.{schema_of, built_of, leaves_of, stop_of, IsReady, IsAt, IsServed, HasStepCause, is_fault_now}
use Rattle.gx_engine.specs.Parts.{KeepsPlay, EndsReading}

none_some : IsSome {T = Stop} None → ⊥
none_some some = absurd cc

not_stopped : (s : Stop) → ◌≡◌ {A = Result (Unit {0}) StepStop} (Ok tt) (Err (Stopped s)) → ⊥
not_stopped s is = absurd cc

module _ {S : Type 0} (g : Ghosts S) where
  -- after an Ok the engine stands for what it did
  pub still_at : (old new : Engine S) (x : Unit {0}) (p : Playing) → EndsReading g old new (Ok x)
      → IsAt g p old → IsAt g p new
  still_at old new x p is at = record {
    stands = record {
      inside_same = is.keeps.inside ∙ at.stands.inside_same;
      commits_same = is.keeps.commits ∙ at.stands.commits_same;
      working_is = held (seen_state p) (sym is.keeps.reads.working) at.stands.working_is;
      kept_is = held p.kept (sym is.keeps.reads.kept) at.stands.kept_is;
    };
    whole_is = is.keeps.whole at.whole_is;
    kept_whole_is = is.keeps.reads.kept_whole.0 at.kept_whole_is;
  }
    where
      held : (s : State) {maps others : List LeafMap} → maps ≡ others
          → AreInternal (schema_of old) (built_of old) maps s
          → AreInternal (schema_of new) (built_of new) others s
      held s {maps} {others} same are =
          subst (λ (schema : Schema). AreInternal schema (built_of new) others s)
          (sym is.keeps.schema)
          (subst (λ (built : Built). AreInternal (schema_of old) built others s)
          (sym is.keeps.built)
          (subst (λ (m : List LeafMap). AreInternal (schema_of old) (built_of old) m s) same are))

  -- an engine without a stop that isn't called ends as one that is read
  pub ends_itself : (e : Engine S) → IsReady g e → stop_of e ≡ None → EndsReading g e e (Ok tt)
  ends_itself e ready going = record {
    served = subst (λ (o : Option Stop). IsServed o (stop_of e) (Ok tt)) (sym going) going;
    still = λ some. refl;
    keeps = record {
      schema = refl;
      built = refl;
      commits = refl;
      inside = refl;
      keeps = keeps_itself g (leaves_of e);
      reads = reads_itself g (leaves_of e);
      whole = λ h. h;
    };
    cause = record {
      later = omega arith;
      fault = λ is. absurd cc;
      counted = λ h. refl;
      damaged = λ block is. absurd cc;
      block = λ n is. absurd cc;
    };
    not_full = λ is. absurd cc;
    ready = ready;
  }

  served_on : (a b c : Option Stop) (r : Result (Unit {0}) StepStop) → IsServed a b (Ok tt)
      → IsServed b c r → IsServed a c r
  served_on None b c r first then = subst (λ (o : Option Stop). IsServed o c r) first then
  served_on (Some s) b c r first then = absurd (not_stopped s first.0)

  keeps_on : (a b c : Engine S) (r : Result (Unit {0}) StepStop) → KeepsPlay g a b (Ok tt)
      → KeepsPlay g b c r → KeepsPlay g a c r
  keeps_on a b c (Ok x) one two = record {
    schema = two.schema ∙ one.schema;
    built = two.built ∙ one.built;
    commits = two.commits ∙ one.commits;
    inside = two.inside ∙ one.inside;
    keeps = keeps_joined g one.keeps two.keeps;
    reads = reads_joined g one.reads two.reads;
    whole = λ h. two.whole (one.whole h);
  }
  keeps_on a b c (Err why) one two = record {
    schema = two.schema ∙ one.schema;
    built = two.built ∙ one.built;
    commits = two.commits ∙ one.commits;
    inside = tt;
    keeps = keeps_joined g one.keeps two.keeps;
    reads = tt;
    whole = tt;
  }

  -- calls that read, one after the other, end as the last one does
  pub ends_joined : (a b c : Engine S) (r : Result (Unit {0}) StepStop) → EndsReading g a b (Ok tt)
      → EndsReading g b c r → EndsReading g a c r
  ends_joined a b c r one two = record {
    served = served_on (stop_of a) (stop_of b) (stop_of c) r one.served two.served;
    still = λ some. stopped (stop_of a) refl some one.served;
    keeps = keeps_on a b c r one.keeps two.keeps;
    cause = record {
      later = omega (arith, one.cause.later, two.cause.later);
      fault = λ is. omega (arith, one.cause.later, two.cause.fault is);
      counted = λ h. two.cause.counted h ∙ one.cause.counted refl;
      damaged = λ block is sound. two.cause.damaged block is (
        sound.0,
        still_at a b tt sound.0 one sound.1,
      );
      block = λ n is whole. two.cause.block n is (one.keeps.whole whole);
    };
    not_full = two.not_full;
    ready = two.ready;
  }
    where
      stopped : (o : Option Stop) → stop_of a ≡ o → IsSome o → IsServed o (stop_of b) (Ok tt)
          → c ≡ a
      stopped None is some served = absurd (none_some some)
      stopped (Some s) is some served = absurd (not_stopped s served.0)
