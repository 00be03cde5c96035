-- Typing of a whole equation.
use Rattle.std.specs.Prelude.{ℕ, suc, nat_eq, List, [], ◌∷◌, Result, Ok, Err}
use Rattle.std.specs.Cmp.Lexicographic.{pointwise}
use Rattle.gx_schema.specs.declared.schema.Schema.{Schema}
use Rattle.gx_equation.specs.Trees.{DefinitionTree}
use Rattle.gx_typing.specs.declared.reasons.TypeWhy.TheVariants as why
use Rattle.gx_typing.specs.declared.dues.Due.{Due}
use Rattle.gx_typing.specs.declared.typing.Typing.{Typing}
use Rattle.gx_typing.specs.Dues.{dues}
use Rattle.gx_typing.specs.Rows.{◌>>=◌, tested}
use Rattle.gx_typing.specs.Sides.{side_typed}
use Rattle.gx_typing.specs.Typing.{Mistake, here, other_lines, at}

abbrev pub definition_typed : ℕ → Due → DefinitionTree → List ℕ → Typing
    → Result (List ℕ × Typing) Mistake
definition_typed owner due d lines typing = do
  named ← at lines (tested why.Definition (pointwise nat_eq due.name d.name))
  side_typed owner due.stored d.side (other_lines lines) typing

-- The definitions, of which the first has this number. Behind the last place stands the text's last
-- line.
abbrev pub definitions_typed : ℕ → List Due → List DefinitionTree → List ℕ → Typing
    → Result Typing Mistake
definitions_typed owner [] [] lines typing = Ok typing
definitions_typed owner (due ∷ dues) [] lines typing = Err (here lines, why.Definition)
definitions_typed owner [] (d ∷ ds) lines typing = Err (here lines, why.Definition)
definitions_typed owner (due ∷ dues) (d ∷ ds) lines typing = do
  x ← definition_typed owner due d lines typing
  definitions_typed (suc owner) dues ds x.0 x.1

abbrev pub no_leaves : Typing
no_leaves = record { specs = []; owners = [] }

-- the leaves of an equation whose places have these lines, or the line of the first place that
-- fails and its first reason
abbrev pub typing_of : Schema → List DefinitionTree → List ℕ → Result Typing Mistake
typing_of schema ds lines = definitions_typed 0 (dues schema) ds lines no_leaves
