use Rattle.std.proofs.Common.{◌≡◌, ◌∷◌, [], ◌∙◌, ℕ, get_or, ap, sym, subst, arith}
use Rattle.std.specs.Prelude.{IfOk}
use Rattle.gx_values.specs.declared.values.Value.TheVariants as value
use Rattle.gx_values.specs.Values.{no_field, no_value}
use Rattle.gx_mapping.specs.declared.parts.Part.{Part}
use Rattle.gx_mapping.proofs.FieldLemmas.{fit_length}
use Rattle.gx_encode.specs.Codes.{code_of, IsCodable}
use Rattle.gx_encode.specs.Forms.{changed}
use Rattle.gx_encode.specs.Laws.{has_code}
use Rattle.gx_encode.proofs.GatherLemmas.{fits_at, changed_value}
use Rattle.gx_encode.proofs.layer.Encode.part_of.Goals as goal

pub value_at-requires : goal.value_at-requires
value_at-requires c =
    let m = c.args.self.now in
    let r = c.args.rec in
    omega (
      arith,
      c.from-field.ensures,
      m.sound.place,
      fit_length m.form.fields r.fields c.requires.fields,
    )

pub coded-requires : goal.coded-requires
coded-requires c =
    let m = c.args.self.now in
    let r = c.args.rec in
    let v = c.value_at.ensures ∙ ap (λ (n : ℕ). get_or r.fields n no_value) c.from-field.ensures in
    subst (IsCodable m.code) (sym v)
    (has_code m.code (get_or m.form.fields m.field no_field).kind
    (get_or r.fields m.field no_value) m.sound.kind
    (fits_at m.field m.form.fields r.fields c.requires.fields m.sound.place))

pub with_value-fields-requires : goal.with_value-fields-requires
with_value-fields-requires c =
    let m = c.args.self.now in
    let r = c.args.rec in
    omega (
      arith,
      c.from-field.ensures,
      m.sound.place,
      fit_length m.form.fields r.fields c.requires.fields,
    )

pub returns : goal.returns
returns c =
    let m = c.args.self.now in
    let r = c.args.rec in
    let number = c.from-field.ensures in
    let bytes = c.in_ok-bytes.ensures
    ∙ ap (code_of m.code) (c.value_at.ensures
    ∙ ap (λ (n : ℕ). get_or r.fields n no_value) number) in
    let fields = c.with_value-fields.ensures
    ∙ (λ i. changed (number i) (λ old. value.Bytes (bytes i)) r.fields)
    ∙ changed_value m.field m.code r.fields in
    subst (λ (p : Part). IfOk c.one.result (λ parts. parts ≡ p ∷ []))
    (λ i. record { child = 0; rec = record { key = r.key; fields = fields i } }) c.one.ensures
