use Rattle.std.proofs.Common.{◌∙◌, ℕ, List, [], ◌∷◌, sym, ap, subst, arith}
use Rattle.gx_values.specs.declared.values.Value.{Value}
use Rattle.gx_values.specs.declared.values.Value.TheVariants as value
use Rattle.gx_values.specs.declared.records.Form.{Form}
use Rattle.gx_values.specs.Values.{AreFit}
use Rattle.gx_actual.specs.Bodies.{body_of, AreShort}
use Rattle.gx_types.specs.declared.any.AnyMapping.{AnyMapping}
use Rattle.gx_stack.specs.Tree.{tree_form}
use Rattle.gx_stack.specs.Seen.{tree_of}
use Rattle.gx_stack.proofs.Seen.{kid_lower}
use Rattle.gx_types.specs.Any.{any_rule}
use Rattle.std.proofs.lemmas.Result.{IfOk-weaker}
use Rattle.gx_entries.specs.Entries.{AreDataOf, IsOnlyBody}
use Rattle.gx_entries.proofs.BodyLemmas.{leaf_data, leaf_body_is, layer_keeps, layer_data, kid_only, kid_ready, body_below, no_other, actual_data, encode_data}
use Rattle.gx_entries.proofs.bodies.+only_body.Goals as goal

pub only_body-requires : goal.only_body-requires
only_body-requires t c =
    let node = c.args.node.now in
    let l = c.in-Layer.layer in
    let k = c.index-first.result.now in
    let only = c.requires.only in
    let keeps = layer_keeps node l c.in-Layer.is only.0 only.1 in
    let ready = kid_ready node l c.in-Layer.is k only.0 c.args.fields c.index-first.ensures
    c.requires.valid only.1 c.requires.of_form in
    let is_body = c.in_ok-body-in-Actual.ensures
    ∙ ap body_of (c.deref-in-Actual.ensures.value ∙ c.fields.view_is) in
    let made = actual_data l.mapping c.in-Actual.mapping c.in-Actual.is c.args.fields
    ∙ sym (c.in_ok-one_value-in-Actual.ensures
    ∙ ap (λ (b : List ℕ). value.Bytes b ∷ []) is_body) in (
      omega (
        arith,
        kid_lower any_rule node l c.in-Layer.is 0 k keeps.0 c.index-first.ensures,
        c.decreases,
      ),
      (
        ready.0,
        (
          (only.0, kid_only node l c.in-Layer.is k only.0 c.index-first.ensures only.1),
          subst (AreDataOf (tree_form any_rule (tree_of k))) made ready.1,
        ),
      ),
    )

pub returns-in_ok-one_value-in-Actual : goal.returns-in_ok-one_value-in-Actual
returns-in_ok-one_value-in-Actual t c =
    let node = c.args.node.now in
    let l = c.in-Layer.layer in
    let k = c.index-first.result.now in
    let is_body = c.in_ok-body-in-Actual.ensures
    ∙ ap body_of (c.deref-in-Actual.ensures.value ∙ c.fields.view_is) in
    let made = actual_data l.mapping c.in-Actual.mapping c.in-Actual.is c.args.fields
    ∙ sym (c.in_ok-one_value-in-Actual.ensures ∙ ap (λ (b : List ℕ). value.Bytes b ∷ []) is_body) in
    IfOk-weaker c.only_body.result _ _
    (λ body has. body_below node l c.in-Layer.is k c.args.fields body c.index-first.ensures
    (subst (λ (vs : List Value). IsOnlyBody (tree_of k) vs body) (sym made) has))
    c.only_body.ensures

pub returns-in-Leaf-first : goal.returns-in-Leaf-first
returns-in-Leaf-first t c =
    let node = c.args.node.now in
    let l = c.in-Layer.layer in
    let k = c.index-first.result.now in
    let is_body = c.in_ok-body-in-Actual.ensures
    ∙ ap body_of (c.deref-in-Actual.ensures.value ∙ c.fields.view_is) in
    let below = actual_data l.mapping c.in-Actual.mapping c.in-Actual.is c.args.fields in
    let body = c.in_ok-body-in-Actual.body in
    let has = leaf_body_is k c.in-Leaf-first.field-0 c.in-Leaf-first.is
    (value.Bytes (body_of c.args.fields) ∷ []) body is_body in
    body_below node l c.in-Layer.is k c.args.fields body c.index-first.ensures
    (subst (λ (vs : List Value). IsOnlyBody (tree_of k) vs body) (sym below) has)

pub returns-in-Leaf : goal.returns-in-Leaf
returns-in-Leaf t c =
    leaf_body_is c.args.node.now c.in-Leaf.field-0 c.in-Leaf.is c.args.fields c.the_bytes.result
    c.the_bytes.ensures

pub the_bytes-requires : goal.the_bytes-requires
the_bytes-requires t c =
    leaf_data c.args.node.now c.in-Leaf.field-0 c.in-Leaf.is c.requires.valid c.args.fields
    c.requires.of_form

pub index-first-requires : goal.index-first-requires
index-first-requires t c =
    let l = c.in-Layer.layer in
    let only = c.requires.only in
    let keeps = layer_keeps c.args.node.now l c.in-Layer.is only.0 only.1 in
    omega (arith, keeps.0, l.kids.ok.0)

pub body_bytes-requires-clause-short : goal.body_bytes-requires-clause-short
body_bytes-requires-clause-short t c =
    let same = c.deref.ensures.value
    ∙ ap (λ (f : Form). f.fields) (c.behind-mapping.view_is ∙ c.form.ensures) in
    subst AreShort (sym same) c.in-Actual.mapping.short

pub body_bytes-requires-clause-fit : goal.body_bytes-requires-clause-fit
body_bytes-requires-clause-fit t c =
    let l = c.in-Layer.layer in
    let same = c.deref.ensures.value
    ∙ ap (λ (f : Form). f.fields) (c.behind-mapping.view_is ∙ c.form.ensures) in
    let fit = subst (λ (m : AnyMapping). AreFit (any_rule m).form.fields c.args.fields)
    c.in-Actual.is (layer_data c.args.node.now l c.in-Layer.is c.args.fields c.requires.of_form) in
    let vs = c.deref-in-Actual.ensures.value ∙ c.fields.view_is in
    subst (λ fs. AreFit fs c.deref-in-Actual.result.now) (sym same)
    (subst (AreFit c.in-Actual.mapping.form.fields) (sym vs) fit)

pub coded_fields-requires : goal.coded_fields-requires
coded_fields-requires t c =
    let l = c.in-Layer.layer in
    subst (λ (m : AnyMapping). AreFit (any_rule m).form.fields c.args.fields) c.in-Encode.is
    (layer_data c.args.node.now l c.in-Layer.is c.args.fields c.requires.of_form)

pub unreachable-requires : goal.unreachable-requires
unreachable-requires t c =
    let l = c.in-Layer.layer in
    let only = c.requires.only in
    no_other l.mapping (layer_keeps c.args.node.now l c.in-Layer.is only.0 only.1).1
    c.in_default.not-Actual c.in_default.not-Encode

pub only_body-requires-in-Encode : goal.only_body-requires-in-Encode
only_body-requires-in-Encode t c =
    let node = c.args.node.now in
    let l = c.in-Layer.layer in
    let k = c.index-first.result.now in
    let only = c.requires.only in
    let keeps = layer_keeps node l c.in-Layer.is only.0 only.1 in
    let ready = kid_ready node l c.in-Layer.is k only.0 c.args.fields c.index-first.ensures
    c.requires.valid only.1 c.requires.of_form in
    let made = encode_data l.mapping c.in-Encode.mapping c.in-Encode.is c.args.fields
    ∙ sym c.in_ok-made-in-Encode.ensures in (
      omega (
        arith,
        kid_lower any_rule node l c.in-Layer.is 0 k keeps.0 c.index-first.ensures,
        c.decreases,
      ),
      (
        ready.0,
        (
          (only.0, kid_only node l c.in-Layer.is k only.0 c.index-first.ensures only.1),
          subst (AreDataOf (tree_form any_rule (tree_of k))) made ready.1,
        ),
      ),
    )

pub returns-in_ok-made-in-Encode : goal.returns-in_ok-made-in-Encode
returns-in_ok-made-in-Encode t c =
    let node = c.args.node.now in
    let l = c.in-Layer.layer in
    let k = c.index-first.result.now in
    let made = encode_data l.mapping c.in-Encode.mapping c.in-Encode.is c.args.fields
    ∙ sym c.in_ok-made-in-Encode.ensures in
    IfOk-weaker c.only_body-in-Encode.result _ _
    (λ body has. body_below node l c.in-Layer.is k c.args.fields body c.index-first.ensures
    (subst (λ (vs : List Value). IsOnlyBody (tree_of k) vs body) (sym made) has))
    c.only_body-in-Encode.ensures
