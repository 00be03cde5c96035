use Rattle.std.proofs.Common.{◌≡◌, ◌++◌, length, map}
use Rattle.gx_values.specs.declared.values.Value.{Value}
use Rattle.gx_mapping.specs.Rule.{In}
use Rattle.gx_gather.specs.Gather.{part_for}
use Rattle.gx_ring.specs.Ring.{chain}
use Rattle.gx_ring.specs.Records.{IsKeyValue}
use Rattle.gx_ring.proofs.rows.add_chain.Given as goal

abbrev pub invariant-loop-rest : goal.invariant-loop-rest
invariant-loop-rest l = record {
  fit : (m : Value) → In m l.rest → IsKeyValue l.owner × IsKeyValue m;
  so_far : l.rows-inside.0.items ++ map (part_for 1) (chain l.owner l.rest) ≡ l.fn.rows
      ++ map (part_for 1) (chain l.owner l.members);
}

abbrev pub decreases-loop-rest : goal.decreases-loop-rest
decreases-loop-rest l = length l.rest
