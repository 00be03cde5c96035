use Rattle.std.proofs.Common.{◌≡◌, ◌++◌, ℕ, length, take, drop}
use Rattle.std.specs.Prelude.{IsTrue}
use Rattle.gx_play.specs.Say.{SaysThrough}
use Rattle.gx_play.proofs.say.say_all.Given as goal

abbrev pub invariant-loop-rest : goal.invariant-loop-rest
invariant-loop-rest g l =
    let content = g.D.Device.content in
    record {
      part : (taken : ℕ) × (l.rest ≡ drop taken l.piece)
          × (IsTrue g.D.Device.tells
          → (content l.device).now.said ≡ (content l.fn.device).now.said ++ take taken l.piece);
      script : (content l.device).script ≡ (content l.fn.device).script;
      aside : (content l.device).aside ≡ (content l.fn.device).aside;
      blocks : (content l.device).now.blocks ≡ (content l.fn.device).now.blocks;
      pending : (content l.device).now.pending ≡ (content l.fn.device).now.pending;
      shelf : (content l.device).now.shelf ≡ (content l.fn.device).now.shelf;
      moments : IsTrue g.D.Device.tells
          → SaysThrough l.piece (content l.fn.device) (content l.device);
      counted : g.D.Device.faults l.device ≡ g.D.Device.faults l.fn.device;
    }

abbrev pub decreases-loop-rest : goal.decreases-loop-rest
decreases-loop-rest g l = length l.rest
