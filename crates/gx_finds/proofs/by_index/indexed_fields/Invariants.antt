use Rattle.std.proofs.Common.{◌≡◌, map, take}
use Rattle.gx_stack.specs.Seen.{tree_of}
use Rattle.gx_stack.specs.Indexed.{is_indexed}
use Rattle.gx_types.specs.Any.{any_rule}
use Rattle.gx_finds.proofs.by_index.indexed_fields.Given as goal

abbrev pub invariant-loop-field : goal.invariant-loop-field
invariant-loop-field l =
    l.indexed.items ≡ map (λ f. is_indexed any_rule (tree_of l.node) f.name)
    (take l.field-index l.file.fields)
