use Rattle.std.proofs.Common.{◌∙◌, ℕ, List, Some, None, refl, get_or, ap, subst, arith}
use Rattle.gx_values.specs.declared.values.Kind.{Kind}
use Rattle.gx_values.specs.Written.{IsRead}
use Rattle.gx_values.specs.Values.{no_field, no_value}
use Rattle.gx_encode.specs.Codes.{code_of}
use Rattle.gx_encode.specs.Forms.{changed}
use Rattle.gx_encode.specs.Rules.{bytes_in, only_part}
use Rattle.gx_encode.proofs.GatherLemmas.{part_length, one_gathered, none_gathered}
use Rattle.gx_encode.proofs.layer.Encode.record_of.Goals as goal

pub bytes_at-bytes-requires : goal.bytes_at-bytes-requires
bytes_at-bytes-requires c =
    let m = c.args.self.now in
    let p = c.args.part in
    omega (
      arith,
      c.from-field.ensures,
      m.sound.place,
      part_length m.form m.field m.code m.sound p.key (only_part p) c.requires,
    )

pub returns-in_default : goal.returns-in_default
returns-in_default c =
    let m = c.args.self.now in
    let p = c.args.part in
    let kind_is = c.kind_at-kind.ensures
    ∙ ap (λ (n : ℕ). (get_or m.form.fields n no_field).kind) c.from-field.ensures in
    let bytes_is = c.bytes_at-bytes.ensures
    ∙ ap (λ (n : ℕ). bytes_in (get_or p.fields n no_value)) c.from-field.ensures in
    let read = subst (IsRead (code_of m.code) c.kind_at-kind.result c.bytes_at-bytes.result.now)
    c.in_default.is c.in_ok-value.ensures in
    none_gathered m.form m.field m.code m.sound p.key (only_part p) c.requires
    (subst (λ (bytes : List ℕ). IsRead (code_of m.code) (get_or m.form.fields m.field no_field).kind
    bytes None) bytes_is (subst
    (λ (k : Kind). IsRead (code_of m.code) k c.bytes_at-bytes.result.now None) kind_is
    read))

pub with_value-fields-requires : goal.with_value-fields-requires
with_value-fields-requires c =
    let m = c.args.self.now in
    let p = c.args.part in
    omega (
      arith,
      c.from-field.ensures,
      m.sound.place,
      part_length m.form m.field m.code m.sound p.key (only_part p) c.requires,
    )

pub returns : goal.returns
returns c =
    let m = c.args.self.now in
    let p = c.args.part in
    let v = c.in-Some.value in
    let kind_is = c.kind_at-kind.ensures
    ∙ ap (λ (n : ℕ). (get_or m.form.fields n no_field).kind) c.from-field.ensures in
    let bytes_is = c.bytes_at-bytes.ensures
    ∙ ap (λ (n : ℕ). bytes_in (get_or p.fields n no_value)) c.from-field.ensures in
    let read = subst (IsRead (code_of m.code) c.kind_at-kind.result c.bytes_at-bytes.result.now)
    c.in-Some.is c.in_ok-value.ensures in
    let read_of = subst (λ (bytes : List ℕ). IsRead (code_of m.code)
    (get_or m.form.fields m.field no_field).kind bytes (Some v)) bytes_is
    (subst (λ (k : Kind). IsRead (code_of m.code) k c.bytes_at-bytes.result.now (Some v))
    kind_is read) in
    let fields = c.with_value-fields.ensures
    ∙ ap (λ (n : ℕ). changed n (λ old. v) p.fields) c.from-field.ensures in
    one_gathered m.form m.field m.code m.sound p.key (only_part p) c.requires p.key
    c.with_value-fields.result v read_of refl fields
