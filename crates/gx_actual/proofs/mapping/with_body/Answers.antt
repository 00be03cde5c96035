use Rattle.std.proofs.Common.{rules, ◌≡◌, ◌∷◌, [], ◌∙◌, subst}
use Rattle.std.specs.Prelude.{IfOk}
use Rattle.gx_values.specs.declared.records.Rec.{Rec}
use Rattle.gx_values.specs.declared.values.Value.TheVariants as value
use Rattle.gx_actual.specs.Bodies.{body_of}
use Rattle.gx_actual.proofs.mapping.with_body.Goals as goal

pub returns : goal.returns
returns c =
    let body : c.in_ok-body.body ≡ body_of c.args.fields.now = search rules in
    let fields = c.in_ok-fields.ensures ∙ (λ i. value.Bytes (body i) ∷ []) in
    subst (λ (r : Rec). IfOk c.one.result (λ parts. parts ≡ record { child = 0; rec = r } ∷ []))
    (λ i. record { key = c.args.key; fields = fields i }) c.one.ensures
