-- What stays of sessions while something is said.
use Rattle.std.proofs.Common.{refl, ◌∙◌}
use Rattle.gx_ports.specs.Calls.{Talks}
use Rattle.gx_ports.specs.declared.view.View.{Ghosts}
use Rattle.gx_sessions.specs.declared.sessions.Sessions.{Sessions}
use Rattle.gx_sessions.specs.Turns.{leaves_of, IsSame}

talks_none : {S : Type 0} (g : Ghosts S) (a : S) → Talks g a a
talks_none g a = record {
  working = refl;
  whole = λ h. h;
  fresh = λ leaf h. h;
  kept = refl;
  unchanged = λ h. h;
  kept_whole = (λ h. h, λ h. h);
  work = refl;
  limit = refl;
  head = refl;
  calm = λ s h. h;
}

talks_then : {S : Type 0} (g : Ghosts S) (a b c : S) → Talks g a b → Talks g b c → Talks g a c
talks_then g a b c p q = record {
  working = q.working ∙ p.working;
  whole = λ h. q.whole (p.whole h);
  fresh = λ leaf h. q.fresh leaf (p.fresh leaf h);
  kept = q.kept ∙ p.kept;
  unchanged = λ h. q.unchanged (p.unchanged h);
  kept_whole = (λ h. q.kept_whole.0 (p.kept_whole.0 h), λ h. p.kept_whole.1 (q.kept_whole.1 h));
  work = q.work ∙ p.work;
  limit = q.limit ∙ p.limit;
  head = q.head ∙ p.head;
  calm = λ s h. q.calm s (p.calm s h);
}

pub same_none : {S : Type 0} (g : Ghosts S) (a : Sessions S) → IsSame g a a
same_none g a = record {
  engine = record {
    talks = talks_none g (leaves_of a);
    schema = refl;
    built = refl;
    inside = refl;
    commits = refl;
    stopped = refl;
  };
  carried = refl;
  states = refl;
  stopped = refl;
}

pub same_then : {S : Type 0} (g : Ghosts S) (a b c : Sessions S) → IsSame g a b → IsSame g b c
    → IsSame g a c
same_then g a b c p q = record {
  engine = record {
    talks = talks_then g (leaves_of a) (leaves_of b) (leaves_of c) p.engine.talks q.engine.talks;
    schema = q.engine.schema ∙ p.engine.schema;
    built = q.engine.built ∙ p.engine.built;
    inside = q.engine.inside ∙ p.engine.inside;
    commits = q.engine.commits ∙ p.engine.commits;
    stopped = q.engine.stopped ∙ p.engine.stopped;
  };
  carried = q.carried ∙ p.carried;
  states = q.states ∙ p.states;
  stopped = q.stopped ∙ p.stopped;
}
