use Rattle.std.proofs.Common.{◌≡◌, ◌++◌, take}
use Rattle.std.specs.Prelude.{codes}
use Rattle.std.specs.List.{flat_map}
use Rattle.gx_model.specs.Texts.{value_text}
use Rattle.gx_rows.proofs.texts.push_values.Given as goal

abbrev pub invariant-loop-value : goal.invariant-loop-value
invariant-loop-value l = l.text.items ≡ l.fn.text.items
    ++ flat_map (λ v. codes " " ++ value_text v) (take l.value-index l.values)
