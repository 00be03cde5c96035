-- The first fault of a text of a schema, by what other texts there are.
use Rattle.std.specs.Prelude.{ℕ, List}
use Rattle.gx_tokens.specs.declared.why.Unread.{Unread}
use Rattle.gx_tokens.specs.declared.why.Why.{Why}
use Rattle.gx_tokens.specs.Faults.{IsRule}
use Rattle.gx_tokens.specs.Faults as faults
use Rattle.gx_schema.specs.Grammar.{IsSchemaText}
use Rattle.gx_schema.specs.Shape.{IsShaped}

-- the text goes wrong in this line for this reason
abbrev pub IsFirstFault : List ℕ → ℕ → Why → Type 0
IsFirstFault = faults.IsFirstFault IsSchemaText IsShaped IsRule

-- what an error says of the text
abbrev pub IsBad : List ℕ → Unread → Type 0
IsBad = faults.IsBad IsSchemaText IsShaped IsRule
