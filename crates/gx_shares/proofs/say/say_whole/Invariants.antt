use Rattle.std.proofs.Common.{◌≡◌, ◌++◌, ℕ, length, take, drop}
use Rattle.std.specs.Prelude.{IsTrue}
use Rattle.gx_sessions.specs.Turns.{leaves_of, IsSame}
use Rattle.gx_shares.proofs.say.say_whole.Given as goal

abbrev pub invariant-loop-rest : goal.invariant-loop-rest
invariant-loop-rest g l =
    let content = g.B.View.content in
    let faults = g.B.View.faults in
    record {
      part : (taken : ℕ) × (l.rest ≡ drop taken l.piece)
          × (IsTrue g.B.View.tells → (content (leaves_of l.sessions)).now.said
          ≡ (content (leaves_of l.fn.sessions)).now.said ++ take taken l.piece);
      script : (content (leaves_of l.sessions)).script
          ≡ (content (leaves_of l.fn.sessions)).script;
      shelf : (content (leaves_of l.sessions)).now.shelf
          ≡ (content (leaves_of l.fn.sessions)).now.shelf;
      aside : (content (leaves_of l.sessions)).aside ≡ (content (leaves_of l.fn.sessions)).aside;
      counted : faults (leaves_of l.sessions) ≡ faults (leaves_of l.fn.sessions);
      same : IsSame g.B.View l.fn.sessions l.sessions;
    }

abbrev pub decreases-loop-rest : goal.decreases-loop-rest
decreases-loop-rest g l = length l.rest
