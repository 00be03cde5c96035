use Rattle.std.proofs.Common.{◌≡◌, List, drop, take, map, length}
use Rattle.gx_values.specs.declared.values.Value.{Value}
use Rattle.gx_values.specs.Borrowed.{value_of}
use Rattle.gx_actual.specs.Bodies.{body_of}
use Rattle.gx_codec.specs.Slots.{pick}
use Rattle.gx_codec.specs.Slots.{AreStorable, placed}
use Rattle.gx_codec.proofs.placing.place_fronts.Given as goal

abbrev pub invariant-loop-slot : goal.invariant-loop-slot
invariant-loop-slot l = record {
  long : length l.out ≡ length l.fn.out;
  so_far : (vs : List Value) → AreStorable l.fields l.slots vs
      → l.body ≡ body_of (map (pick vs) l.slots) →
      (l.rest ≡ body_of (map (pick vs) (drop l.slot-index l.slots)))
      × (map value_of l.out ≡ placed (take l.slot-index l.slots) vs (map value_of l.fn.out));
}
