use Rattle.std.proofs.Common.{◌≡◌, List, drop}
use Rattle.gx_values.specs.declared.values.Value.{Value}
use Rattle.gx_values.specs.Values.{AreFit}
use Rattle.gx_actual.specs.Bodies.{body_of}
use Rattle.gx_codec.specs.Layouts.{laid, HaveSlots}
use Rattle.gx_codec.proofs.finding.front_at.Given as goal

abbrev pub invariant-loop-at : goal.invariant-loop-at
invariant-loop-at g l =
    let slots = g.L.Layout.slots l.layout in
    (vs : List Value) → AreFit l.fields vs → HaveSlots slots 0 vs → l.body ≡ body_of (laid slots 0 vs)
    → l.rest ≡ body_of (laid slots l.at (drop l.at vs))
