-- How long the canonical texts of a schema and of an equation are.
use Rattle.std.specs.Prelude.{ℕ, ◌+◌, List, length}
use Rattle.gx_schema.specs.declared.schema.Schema.{Schema}
use Rattle.gx_schema.specs.Printing.{schema_text}
use Rattle.gx_equation.specs.Trees.{DefinitionTree}
use Rattle.gx_equation.specs.Printing.{equation_text}

-- how many bytes the canonical texts of the schema and of the equation have
abbrev pub text_length : Schema → List DefinitionTree → ℕ
text_length schema ds = length (schema_text schema) + length (equation_text ds)
