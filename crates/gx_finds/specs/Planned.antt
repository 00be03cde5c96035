-- What the plan of a `find` stands on.
use Rattle.std.specs.Prelude.{Bool, List, map}
use Rattle.gx_schema.specs.declared.schema.FileDef.{FileDef}
use Rattle.gx_stack.specs.Tree.{Tree}
use Rattle.gx_stack.specs.Indexed.{is_indexed}
use Rattle.gx_types.specs.declared.any.AnyMapping.{AnyMapping}
use Rattle.gx_types.specs.Any.{any_rule}

-- whether each field of the file is indexed in the tree, by the number of the field
abbrev pub fields_indexed : Tree AnyMapping → FileDef → List Bool
fields_indexed t file = map (λ f. is_indexed any_rule t f.name) file.fields
