use Rattle.std.proofs.Common.{◌≡◌, List, drop, take, map}
use Rattle.std.specs.Prelude.{not}
use Rattle.gx_values.specs.declared.values.Value.{Value}
use Rattle.gx_values.specs.Values.{AreFit}
use Rattle.gx_split.specs.Groups.{chosen}
use Rattle.gx_scan.specs.Groups.{IsLeft}
use Rattle.gx_scan.proofs.both.read_both.Given as goal

abbrev pub invariant-loop-at : goal.invariant-loop-at
invariant-loop-at l = record {
  fit : AreFit (take l.at l.fields) l.values.items;
  so_far : (vs : List Value) → AreFit l.fields vs → IsLeft l.fn.first (chosen l.mask vs)
      → IsLeft l.fn.others (chosen (map not l.mask) vs) →
      IsLeft l.first (chosen (drop l.at l.mask) (drop l.at vs))
      × IsLeft l.others (chosen (drop l.at (map not l.mask)) (drop l.at vs))
      × (l.values.items ≡ take l.at vs);
}
