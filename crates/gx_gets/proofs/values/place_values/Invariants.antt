use Rattle.std.proofs.Common.{◌≡◌, List, drop, take, map, length}
use Rattle.gx_values.specs.declared.values.Value.{Value}
use Rattle.gx_values.specs.Values.{AreFit}
use Rattle.gx_actual.specs.Bodies.{body_of}
use Rattle.gx_codec.specs.Slots.{pick, AreStorable}
use Rattle.gx_gets.specs.Restored.{restored}
use Rattle.gx_gets.proofs.values.place_values.Given as goal

abbrev pub invariant-loop-slot : goal.invariant-loop-slot
invariant-loop-slot l = record {
  long : length l.out ≡ length l.fn.out;
  fit : AreFit l.fields l.fn.out → AreFit l.fields l.out;
  so_far : (vs : List Value) → AreStorable l.fields l.slots vs
      → l.body ≡ body_of (map (pick vs) l.slots) →
      (l.rest ≡ body_of (map (pick vs) (drop l.slot-index l.slots)))
      × (l.out ≡ restored (take l.slot-index l.slots) vs l.fn.out);
}
