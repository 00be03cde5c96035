use Rattle.std.proofs.Common.{◌∙◌, List, length, ap, sym, subst}
use Rattle.std.specs.List.{AllByRecursion}
use Rattle.gx_values.specs.declared.values.Value.{Value}
use Rattle.gx_values.specs.Values.{AreFit}
use Rattle.gx_actual.specs.Bodies.{body_of, HasLength}
use Rattle.gx_split.specs.Groups.{chosen}
use Rattle.gx_mapping.proofs.FieldLemmas.{fit_length}
use Rattle.gx_types.specs.declared.any.AnyMapping.{AnyMapping}
use Rattle.gx_types.specs.Any.{any_rule}
use Rattle.gx_entries.proofs.BodyLemmas.{layer_data}
use Rattle.gx_stack.specs.Seen.{tree_of}
use Rattle.std.proofs.lemmas.Result.{IfOk-weaker}
use Rattle.gx_entries.specs.Entries.{IsOnlyBody}
use Rattle.gx_entries.proofs.PlainLemmas.{first_lengths, plain_first}
use Rattle.gx_entries.proofs.TwoLemmas.{first_only, first_valid, first_ready, node_first}
use Rattle.gx_entries.proofs.bodies.first_body.Goals as goal

pub only_body-requires-clause-of_form : goal.only_body-requires-clause-of_form
only_body-requires-clause-of_form c =
    let x = c.in-Segment.mapping in
    first_ready c.args.node.now c.in-Layer.layer c.in-Layer.is x c.in-Segment.is c.args.fields
    c.requires.valid c.requires.of_form c.index-first.result.now c.in_ok-chosen.chosen
    c.index-first.ensures c.in_ok-chosen.ensures

pub returns : goal.returns
returns c =
    let x = c.in-Segment.mapping in
    let q = c.index-first.result.now in
    IfOk-weaker c.only_body.result _ _
    (λ body has. node_first c.args.node.now c.in-Layer.layer c.in-Layer.is x c.in-Segment.is
    c.args.fields c.requires.valid c.requires.of_form q body c.index-first.ensures
    (subst (λ (vs : List Value). IsOnlyBody (tree_of q) vs body) c.in_ok-chosen.ensures has))
    c.only_body.ensures

pub plain_body-requires-clause-long : goal.plain_body-requires-clause-long
plain_body-requires-clause-long c =
    let m = c.in-Segment.mapping in
    let fit = subst (λ (m : AnyMapping). AreFit (any_rule m).form.fields c.args.fields)
    c.in-Segment.is (layer_data c.args.node.now c.in-Layer.layer c.in-Layer.is c.args.fields
    c.requires.of_form) in
    c.mask.ensures.long ∙ fit_length m.form.fields c.args.fields fit
    ∙ sym (ap length (c.deref.ensures.value ∙ c.fields.view_is))

pub plain_body-requires-clause-lengths : goal.plain_body-requires-clause-lengths
plain_body-requires-clause-lengths c =
    let x = c.in-Segment.mapping in
    let vs = c.deref.ensures.value ∙ c.fields.view_is in
    subst (AllByRecursion HasLength) (λ i. chosen (sym c.mask.ensures.mask i) (sym vs i))
    (first_lengths c.args.node.now c.in-Layer.layer c.in-Layer.is x c.in-Segment.is c.args.fields
    c.requires.valid c.requires.of_form c.index-first.result.now c.index-first.ensures
    (c.is_plain.ensures c.if-is_plain.true))

pub returns-then-is_plain : goal.returns-then-is_plain
returns-then-is_plain c =
    let x = c.in-Segment.mapping in
    let vs = c.deref.ensures.value ∙ c.fields.view_is in
    IfOk-weaker c.plain_body.result _ _
    (λ body body_is. plain_first c.args.node.now c.in-Layer.layer c.in-Layer.is x c.in-Segment.is
    c.args.fields c.requires.valid c.requires.of_form c.index-first.result.now body
    c.index-first.ensures (c.is_plain.ensures c.if-is_plain.true)
    (body_is ∙ (λ i. body_of (chosen (c.mask.ensures.mask i) (vs i)))))
    c.plain_body.ensures

pub only_body-requires-clause-valid : goal.only_body-requires-clause-valid
only_body-requires-clause-valid c =
    let two = c.requires.two in
    first_valid c.args.node.now c.in-Layer.layer c.in-Layer.is two.0 two.1 c.index-first.result.now
    c.index-first.ensures two.2 c.requires.valid

pub only_body-requires-clause-only : goal.only_body-requires-clause-only
only_body-requires-clause-only c =
    let two = c.requires.two in (
      two.0,
      first_only c.args.node.now c.in-Layer.layer c.in-Layer.is two.0 two.1
          c.index-first.result.now c.index-first.ensures two.2,
    )
