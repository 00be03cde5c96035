use Rattle.std.proofs.Common.{◌≡◌, ◌∷◌, [], List, subst}
use Rattle.std.specs.Prelude.{IfOk}
use Rattle.gx_values.specs.declared.values.Value.{Value}
use Rattle.gx_actual.specs.Rules.{actual_part}
use Rattle.gx_actual.proofs.mapping.ActualMapping.parts.Goals as goal

pub returns : goal.returns
returns c =
    let r = c.args.rec.now in
    let key = c.in_ok-key.ensures in
    subst (λ (k : List Value). IfOk c.with_body.result
    (λ parts. parts ≡ actual_part (record { key = k; fields = r.fields }) ∷ [])) key
    c.with_body.ensures
