use Rattle.std.proofs.Common.{◌+◌, ◌≤◌, length}
use Rattle.gx_plain.specs.Plain.{IsOf, IsSoFar}
use Rattle.gx_plain.proofs.plain.play_lines.Given as goal

abbrev pub invariant-lines : goal.invariant-lines
invariant-lines l = record {
  of_schema : IsOf l.schema l.moment;
  few : l.number + length l.lines.lines ≤ 16777217;
  so_far : IsSoFar l.schema l.script l.said l.moment l.lines l.number;
}

abbrev pub decreases-lines : goal.decreases-lines
decreases-lines l = length l.lines.lines
