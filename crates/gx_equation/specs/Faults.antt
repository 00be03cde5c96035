-- The first fault of a text of an equation, by what other texts there are.
use Rattle.std.specs.Prelude.{ℕ, List}
use Rattle.gx_tokens.specs.declared.why.Unread.{Unread}
use Rattle.gx_tokens.specs.declared.why.Why.{Why}
use Rattle.gx_tokens.specs.declared.why.Why.TheVariants as why
use Rattle.gx_tokens.specs.Faults as faults
use Rattle.gx_equation.specs.Grammar.{Means}
use Rattle.gx_equation.specs.Shape.{IsShaped}

-- what there is besides the bare grammar: a number is in its range, and a head not too deep
abbrev pub IsRule : Why → Type 0
IsRule why.Number = Unit {0}
IsRule why.Depth = Unit {0}
IsRule other = ⊥

-- the text goes wrong in this line for this reason
abbrev pub IsFirstFault : List ℕ → ℕ → Why → Type 0
IsFirstFault = faults.IsFirstFault Means IsShaped IsRule

-- what an error says of the text
abbrev pub IsBad : List ℕ → Unread → Type 0
IsBad = faults.IsBad Means IsShaped IsRule
