use Rattle.std.proofs.Common.{◌≡◌, ◌++◌, drop}
use Rattle.std.specs.List.{AllByRecursion}
use Rattle.gx_actual.specs.Bodies.{body_of, HasLength}
use Rattle.gx_codec.specs.Layouts.{laid}
use Rattle.gx_codec.proofs.writing.write_body.Given as goal

-- what is still to come of the body
abbrev pub invariant-loop-at : goal.invariant-loop-at
invariant-loop-at g l =
    let slots = g.L.Layout.slots l.fn.layout in
    record {
      lengths : AllByRecursion HasLength (laid slots l.at (drop l.at l.fn.values));
      bytes : l.body.items ++ body_of (laid slots l.at (drop l.at l.fn.values))
          ≡ body_of (laid slots 0 l.fn.values);
    }
