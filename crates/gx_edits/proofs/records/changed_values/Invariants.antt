use Rattle.std.proofs.Common.{◌≡◌, length}
use Rattle.std.specs.List.{AllByRecursion}
use Rattle.std.specs.Vec.Iter.{into_iter_items, into_iter_len}
use Rattle.gx_values.specs.Values.{AreFit}
use Rattle.gx_schema.specs.Lookups.{data_fields}
use Rattle.gx_commands.specs.Commands.{IsChangeOf}
use Rattle.gx_model.specs.Commands.{with_changes}
use Rattle.gx_edits.proofs.records.changed_values.Given as goal

-- what is still to come of the changes
abbrev pub invariant-loop-change : goal.invariant-loop-change
invariant-loop-change l = record {
  many : into_iter_len l.change-iterator ≡ length (into_iter_items l.change-iterator);
  those : AllByRecursion (IsChangeOf l.file) (into_iter_items l.change-iterator);
  so_far : with_changes l.values.items (into_iter_items l.change-iterator)
      ≡ with_changes l.fn.values
      l.fn.changes;
  fit : AreFit (data_fields l.file) l.values.items;
}
