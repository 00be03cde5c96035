use Rattle.std.proofs.Common.{◌≡◌, List, drop, take}
use Rattle.gx_values.specs.declared.values.Value.{Value}
use Rattle.gx_values.specs.Values.{AreFit}
use Rattle.gx_actual.specs.Bodies.{body_of}
use Rattle.gx_codec.specs.Stored.{stored_values, HaveCodes}
use Rattle.gx_codec.proofs.values.read_stored.Given as goal

abbrev pub invariant-loop-at : goal.invariant-loop-at
invariant-loop-at l = record {
  fit : AreFit (take l.at l.fields) l.values.items;
  so_far : (vs : List Value) → AreFit l.fields vs → HaveCodes l.codes vs
      → l.body ≡ body_of (stored_values l.codes vs) →
      (l.rest ≡ body_of (stored_values (drop l.at l.codes) (drop l.at vs)))
      × (l.values.items ≡ take l.at vs);
}
