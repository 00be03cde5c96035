use Rattle.std.proofs.Common.{◌≡◌, map, take, drop}
use Rattle.gx_tokens.specs.Lines.{line_of}
use Rattle.gx_equation.specs.Places.{AreInOrder}
use Rattle.gx_equation.proofs.lines.lines_of.Given as goal

abbrev pub invariant-loop-place : goal.invariant-loop-place
invariant-loop-place l = AreInOrder l.from (drop l.place-index l.places)
    × (l.line ≡ line_of l.bytes l.from)
    × (l.lines.items ≡ map (line_of l.bytes) (take l.place-index l.places))
