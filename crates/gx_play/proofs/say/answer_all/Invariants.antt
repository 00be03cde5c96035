use Rattle.std.proofs.Common.{◌≡◌, ◌++◌, ℕ, length, take, drop}
use Rattle.std.specs.Prelude.{IsTrue}
use Rattle.gx_engine.specs.Steps.{leaves_of, IsSame}
use Rattle.gx_play.proofs.say.answer_all.Given as goal

abbrev pub invariant-loop-rest : goal.invariant-loop-rest
invariant-loop-rest g l =
    let content = g.B.View.content in
    let faults = g.B.View.faults in
    record {
      part : (taken : ℕ) × (l.rest ≡ drop taken l.piece)
          × (IsTrue g.B.View.tells → (content (leaves_of l.engine)).now.said
          ≡ (content (leaves_of l.fn.engine)).now.said ++ take taken l.piece);
      script : (content (leaves_of l.engine)).script ≡ (content (leaves_of l.fn.engine)).script;
      shelf : (content (leaves_of l.engine)).now.shelf
          ≡ (content (leaves_of l.fn.engine)).now.shelf;
      aside : (content (leaves_of l.engine)).aside ≡ (content (leaves_of l.fn.engine)).aside;
      counted : faults (leaves_of l.engine) ≡ faults (leaves_of l.fn.engine);
      same : IsSame g.B.View l.fn.engine l.engine;
    }

abbrev pub decreases-loop-rest : goal.decreases-loop-rest
decreases-loop-rest g l = length l.rest
