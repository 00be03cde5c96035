-- How a layer passes records to its children.
use Rattle.std.specs.Prelude.{◌≡◌, ℕ, [], ◌∷◌}
use Rattle.gx_values.specs.declared.records.Rec.{Rec}
use Rattle.gx_mapping.specs.Rule.{Rule}
use Rattle.gx_actual.specs.Rules.{actual_rec}
use Rattle.gx_types.specs.declared.any.Passing.{Passing}
use Rattle.gx_types.specs.declared.any.Passing.TheVariants.{Whole, Wrapped, Apart}

-- each record goes to one child, changed so
abbrev pub PassesOne : Rule → (Rec → Rec) → Type 0
PassesOne rule changed = (r : Rec)
    → (c : ℕ) × (rule.parts r ≡ record { child = c; rec = changed r } ∷ [])

-- each record goes to one child, as it is
pub record PassesWhole (rule : Rule) : Type 0 where
  pub form : (c : ℕ) → rule.kid_form c ≡ rule.form
  pub one : PassesOne rule (λ r. r)

abbrev pub Passes : Rule → Passing → Type 0
Passes rule Whole = PassesWhole rule
Passes rule Wrapped = PassesOne rule actual_rec
Passes rule Apart = Unit {0}
