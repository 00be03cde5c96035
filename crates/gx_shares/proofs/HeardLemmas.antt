-- Sessions that heard or said something stand where they stood.
use Rattle.gx_ports.specs.declared.view.View.{Ghosts}
use Rattle.gx_sharing.specs.Sharing.{Sharing}
use Rattle.gx_sessions.specs.declared.sessions.Sessions.{Sessions}
use Rattle.gx_sessions.specs.Turns.{AreShared, IsSame}

pub still_shared : {S : Type 0} (g : Ghosts S) (p : Sharing) (s f : Sessions S) → IsSame g s f → AreShared g p s
    → AreShared g p f
still_shared g p s f same at = record {
  engine = record {
    working = at.engine.working;
    at = record {
      stands = rw (
        same.engine.schema,
        same.engine.built,
        same.engine.inside,
        same.engine.commits,
        same.engine.talks.working,
        same.engine.talks.kept,
      ) at.engine.at.stands;
      whole_is = same.engine.talks.whole at.engine.at.whole_is;
      kept_whole_is = same.engine.talks.kept_whole.0 at.engine.at.kept_whole_is;
    };
    own = rw (same.engine.schema, same.carried) at.engine.own;
  };
  sessions = rw (same.engine.schema, same.states) at.sessions;
}
