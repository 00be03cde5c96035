use Rattle.std.proofs.Common.{◌∙◌, length, ap, sym, subst, arith}
use Rattle.gx_values.specs.declared.values.Code.{Code}
use Rattle.gx_encode.specs.Codes.{code_of, IsCodable}
use Rattle.gx_entries.proofs.BodyLemmas.{codable, coded_set}
use Rattle.gx_entries.proofs.bodies.coded_fields.Goals as goal
use Rattle.gx_mapping.proofs.FieldLemmas.{fit_length}

pub index-requires : goal.index-requires
index-requires c =
    let m = c.args.mapping.now in
    omega (
      arith,
      c.from-number.ensures,
      c.field.ensures,
      m.sound.place,
      fit_length m.form.fields
          c.args.fields c.requires,
      ap length c.fields.view_is,
      c.fields.inside.0.ok.0,
    )

pub coded-requires : goal.coded-requires
coded-requires c =
    let m = c.args.mapping.now in
    subst (λ (used : Code). IsCodable used c.index.result.now) (sym c.code.ensures)
    (codable m.form m.field c.from-number.result m.code c.args.fields c.fields.inside.0.items
    c.index.result.now m.sound c.requires c.fields.view_is (c.from-number.ensures ∙ c.field.ensures)
    c.index.ensures)

pub index_mut-requires : goal.index_mut-requires
index_mut-requires c =
    let m = c.args.mapping.now in
    omega (
      arith,
      c.from-number.ensures,
      c.field.ensures,
      m.sound.place,
      fit_length m.form.fields
          c.args.fields c.requires,
      ap length c.fields.view_is,
      c.fields.inside.0.ok.0,
    )

pub returns : goal.returns
returns c =
    let m = c.args.mapping.now in
    coded_set m.field c.from-number.result m.code c.args.fields c.fields.inside.0.items
    c.index.result.now c.in_ok-bytes.bytes c.fields.view_is
    (c.from-number.ensures ∙ c.field.ensures) c.index.ensures
    (c.in_ok-bytes.ensures ∙ ap (λ (used : Code). code_of used c.index.result.now) c.code.ensures)
