use Rattle.std.proofs.Common.{rules, ◌≡◌, ◌∙◌, ℕ, List, ap, true}
use Rattle.std.specs.Prelude.{is_some}
use Rattle.gx_values.specs.declared.values.Value.TheVariants as value
use Rattle.gx_access.proofs.DefaultSteps.{default_coded}
use Rattle.gx_access.proofs.fragments.stored_default.Goals as goal

pub returns-then-is_some-clause-value : goal.returns-then-is_some-clause-value
returns-then-is_some-clause-value c =
    let has : is_some c.args.slot.code ≡ true = search rules in
    ap (λ (bytes : List ℕ). value.Bytes bytes) c.new.ensures.items
    ∙ default_coded c.args.fields.now c.args.slot has
