use Rattle.std.proofs.Common.{◌≡◌, map, take}
use Rattle.gx_schema.specs.Lookups.{file_at}
use Rattle.gx_stack.specs.Indexed.{is_indexed}
use Rattle.gx_types.specs.Any.{any_rule}
use Rattle.gx_types.specs.Nodes.{tree_at}
use Rattle.gx_engine.specs.Steps.{schema_of, built_of}
use Rattle.gx_walks.proofs.reading.indexed_fields.Given as goal

abbrev pub invariant-loop-field : goal.invariant-loop-field
invariant-loop-field g l =
    l.indexed.items ≡ map (λ f. is_indexed any_rule (tree_at (built_of l.engine).files l.file) f.name)
    (take l.field (file_at (schema_of l.engine) l.file).fields)
