use Rattle.std.proofs.Common.{◌≡◌, ◌+◌, ℕ, drop}
use Rattle.gx_values.specs.Values.{kind_in}
use Rattle.gx_types.specs.Build.{IsFirstOf}
use Rattle.gx_types.proofs.mappings.position.Given as goal

abbrev pub invariant-loop-i : goal.invariant-loop-i
invariant-loop-i l = record {
  place : (k : ℕ) → IsFirstOf (drop l.i l.fields) l.name k → IsFirstOf l.fields l.name (l.i + k);
  kind : kind_in (drop l.i l.fields) l.name ≡ kind_in l.fields l.name;
}
