-- What stays of sessions, and how failures are counted, one call behind the other.
use Rattle.std.proofs.Common.{◌≡◌, ℕ, List, take, true, false, Result, Ok, Err, refl, sym, ap, subst, ◌∙◌, arith}
use Rattle.gx_device.specs.declared.device.Failed.{Failed}
use Rattle.gx_device.specs.Content.{Listens}
use Rattle.gx_device.specs.Faults.{Rose, HasCause}
use Rattle.gx_device.proofs.PrefixLemmas.{prefix_same, prefix_twice}
use Rattle.gx_commands.specs.declared.command.Command.{Command}
use Rattle.gx_ports.specs.Stops.{HasStopCause, is_fault, is_outside}
use Rattle.gx_ports.specs.declared.stop.Stop.{Stop}
use Rattle.gx_ports.specs.declared.stop.Stop.TheVariants as stop
use Rattle.gx_ports.specs.declared.view.View.{Ghosts}
use Rattle.gx_sessions.specs.declared.sessions.Sessions.{Sessions}
use Rattle.gx_sessions.specs.declared.sessions.Turn.{Turn as TheTurn}
use Rattle.gx_sessions.specs.Turns.{leaves_of, IsReady, IsSame}
use Rattle.gx_play.specs.Plays.{CountsFailed}
use Rattle.gx_shares.specs.Shares.{SaysTurn}
use Rattle.gx_shares.specs.Steps.{IsTurnStep, KeepsSessions}
use Rattle.gx_shares.specs.Going.{KeepsHeard}

module _ {S : Type 0} (g : Ghosts S) where
  pub sessions_same : (s : Sessions S) → IsReady g s → KeepsSessions g s s
  sessions_same s ready = record {
    schema = refl;
    built = refl;
    ready = ready;
    limit = refl;
    head = refl;
    shelf = refl;
    script = refl;
    aside = refl;
    begins = λ told. prefix_same _ _ refl;
  }

  pub sessions_then : (a b c : Sessions S) → KeepsSessions g a b → KeepsSessions g b c
      → KeepsSessions g a c
  sessions_then a b c p q = record {
    schema = q.schema ∙ p.schema;
    built = q.built ∙ p.built;
    ready = q.ready;
    limit = q.limit ∙ p.limit;
    head = q.head ∙ p.head;
    shelf = q.shelf ∙ p.shelf;
    script = q.script ∙ p.script;
    aside = q.aside ∙ p.aside;
    begins = λ told. prefix_twice _ _ _ (p.begins told) (q.begins told);
  }

  ready_still : (s f : Sessions S) → IsSame g s f → IsReady g s → IsReady g f
  ready_still s f same ready = record {
    engine = rw (same.engine.schema, same.engine.built, same.engine.talks.working) ready.engine;
    states = rw (same.engine.schema, same.states) ready.states;
    goes_on = λ none.
        let r = ready.goes_on (sym same.stopped ∙ none) in
        record {
          going = same.engine.stopped ∙ r.going;
          own = rw (same.states, same.carried, same.engine.inside) r.own;
        };
  }

  pub heard_same : (s : Sessions S) → IsReady g s → KeepsHeard g s s
  heard_same s ready = record {
    schema = refl;
    ready = ready;
    head = refl;
    shelf = refl;
    aside = refl;
    begins = λ told. prefix_same _ _ refl;
  }

  -- more is heard
  pub heard_then : (a b c : Sessions S) → KeepsHeard g a b → IsSame g b c
      → Listens (g.content (leaves_of b)) (g.content (leaves_of c)) → KeepsHeard g a c
  heard_then a b c keeps same listens = record {
    schema = same.engine.schema ∙ keeps.schema;
    ready = ready_still b c same keeps.ready;
    head = same.engine.talks.head ∙ keeps.head;
    shelf = ap (λ m. m.shelf) listens.now ∙ keeps.shelf;
    aside = listens.aside ∙ keeps.aside;
    begins = λ told. prefix_twice _ _ _ (keeps.begins told)
        (prefix_same _ _ (ap (λ m. m.said) listens.now));
  }

  -- and played
  pub played_then : (a b c : Sessions S) → KeepsHeard g a b → KeepsSessions g b c
      → KeepsHeard g a c
  played_then a b c keeps played = record {
    schema = played.schema ∙ keeps.schema;
    ready = played.ready;
    head = played.head ∙ keeps.head;
    shelf = played.shelf ∙ keeps.shelf;
    aside = played.aside ∙ keeps.aside;
    begins = λ told. prefix_twice _ _ _ (keeps.begins told) (played.begins told);
  }

  -- ---- a turn

  pub turn_keeps : {r : Result TheTurn Stop} (n : ℕ) (c : Command) (old mid : Sessions S)
      (out now : List ℕ) → IsTurnStep g old mid n c out now r → KeepsSessions g old mid
  turn_keeps n c old mid out now step = record {
    schema = step.schema;
    built = step.built;
    ready = step.ready;
    limit = step.limit;
    head = step.head;
    shelf = step.silent.shelf;
    script = step.silent.script;
    aside = step.silent.aside;
    begins = λ told. prefix_same _ _ step.silent.said;
  }

  pub said_keeps : {r : Result (Unit {0}) Failed} (old mid new : Sessions S) (n : ℕ)
      (t : TheTurn) (answer : List ℕ) → KeepsSessions g old mid → IsSame g mid new
      → SaysTurn g n t answer (leaves_of mid) (leaves_of new) r → KeepsSessions g old new
  said_keeps old mid new n t answer keeps same says = record {
    schema = same.engine.schema ∙ keeps.schema;
    built = same.engine.built ∙ keeps.built;
    ready = ready_still mid new same keeps.ready;
    limit = same.engine.talks.limit ∙ keeps.limit;
    head = same.engine.talks.head ∙ keeps.head;
    shelf = says.says.rest.shelf ∙ keeps.shelf;
    script = says.says.rest.script ∙ keeps.script;
    aside = says.says.rest.aside ∙ keeps.aside;
    begins = λ told. prefix_twice _ _ _ (keeps.begins told)
        (take (says.says.front told).0 _, (says.says.front told).1);
  }

-- ---- failures

outside_fault : (why : Stop) → is_outside why ≡ true → why ≡ stop.Fault
outside_fault stop.Fault e = refl
outside_fault stop.Full e = absurd cc
outside_fault stop.NoMemory e = absurd cc
outside_fault (stop.Damaged block) e = absurd cc

pub turn_counts : (before now : ℕ) (sound : Type 0) (why : Stop)
    → HasStopCause {T = TheTurn} before now sound (Err why)
    → CountsFailed before now (is_fault {T = Unit {0}} (Err why))
turn_counts before now sound why cause = record {
  later = cause.later;
  rose = λ e. cause.fault (ap Err (outside_fault why e));
  counted = cause.counted;
}

pub said_counts : (before mid now : ℕ) (sound : Type 0) (t : TheTurn)
    → HasStopCause {T = TheTurn} before mid sound (Ok t) → now ≡ mid
    → CountsFailed before now false
said_counts before mid now sound t cause same =
    let first = cause.counted refl in
    record { later = omega (arith, first, same); rose = λ e. absurd cc; counted = λ e. same ∙ first }

pub unsaid_counts : (before mid now : ℕ) (sound : Type 0) (t : TheTurn) (e : Failed)
    → HasStopCause {T = TheTurn} before mid sound (Ok t)
    → HasCause {T = Unit {0}} mid now (Err e)
    → CountsFailed before now true
unsaid_counts before mid now sound t e cause failed =
    let first = cause.counted refl in
    record {
      later = omega (arith, first, failed.later);
      rose = λ is. subst (λ n. Rose n now) first failed.failed;
      counted = λ is. absurd cc;
    }
