use Rattle.std.proofs.Common.{◌≡◌, ◌++◌, ℕ, List, Ok, length}
use Rattle.gx_sharing.specs.Texts.{with_number}
use Rattle.gx_sessions.specs.Turns.{leaves_of, IsSame}
use Rattle.gx_play.specs.Say.{SaysAll}
use Rattle.gx_shares.proofs.say.say_lines.Given as goal

abbrev pub invariant-loop-len : goal.invariant-loop-len
invariant-loop-len g l =
    let content = g.B.View.content in
    let faults = g.B.View.faults in
    record {
      done : List ℕ;
      parts : with_number l.session l.text ≡ done ++ with_number l.session l.rest;
      says : SaysAll {T = Unit {0}} g.B.View.tells (content (leaves_of l.fn.sessions))
          (content (leaves_of l.sessions)) (faults (leaves_of l.fn.sessions))
          (faults (leaves_of l.sessions)) done (Ok tt);
      same : IsSame g.B.View l.fn.sessions l.sessions;
    }

abbrev pub decreases-loop-len : goal.decreases-loop-len
decreases-loop-len g l = length l.rest
