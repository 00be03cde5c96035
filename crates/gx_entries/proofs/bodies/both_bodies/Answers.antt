use Rattle.std.proofs.Common.{◌∙◌, List, None, Some, sym, subst, arith}
use Rattle.gx_values.specs.declared.values.Value.{Value}
use Rattle.gx_stack.specs.Seen.{tree_of}
use Rattle.std.proofs.lemmas.Result.{IfOk-weaker}
use Rattle.gx_entries.specs.Entries.{IsOnlyBody}
use Rattle.gx_entries.proofs.PlainLemmas.{first_lengths, other_lengths, plain_both}
use Rattle.gx_entries.proofs.TwoLemmas.{two_kids, first_only, first_valid, second_only, first_ready, second_ready, node_bodies, other_read}
use Rattle.gx_entries.proofs.bodies.both_bodies.Goals as goal

pub only_body-requires-clause-of_form : goal.only_body-requires-clause-of_form
only_body-requires-clause-of_form c =
    let x = c.in-Segment.mapping in
    first_ready c.args.node.now c.in-Layer.layer c.in-Layer.is x c.in-Segment.is c.args.fields
    c.requires.valid c.requires.of_form c.index-first.result.now c.in_ok-chosen.chosen
    c.index-first.ensures c.in_ok-chosen.ensures.0

pub index-second-requires : goal.index-second-requires
index-second-requires c =
    let two = c.requires.two in
    let l = c.in-Layer.layer in
    omega (arith, two_kids c.args.node.now l c.in-Layer.is two.0 two.1 two.2, l.kids.ok.0)

pub only_body-requires-in-Some-clause-valid : goal.only_body-requires-in-Some-clause-valid
only_body-requires-in-Some-clause-valid c =
    let x = c.in-Segment.mapping in
    (second_ready c.args.node.now c.in-Layer.layer c.in-Layer.is x c.in-Segment.is c.args.fields
    c.requires.valid c.requires.of_form c.index-second.result.now c.in-Some.others
    c.index-second.ensures (sym c.in-Some.is ∙ c.in_ok-chosen.ensures.1)).0

pub only_body-requires-in-Some-clause-only : goal.only_body-requires-in-Some-clause-only
only_body-requires-in-Some-clause-only c =
    let two = c.requires.two in (
      two.1,
      second_only c.args.node.now c.in-Layer.layer c.in-Layer.is two.0 two.1
          c.index-second.result.now c.index-second.ensures two.2,
    )

pub only_body-requires-in-Some-clause-of_form : goal.only_body-requires-in-Some-clause-of_form
only_body-requires-in-Some-clause-of_form c =
    let x = c.in-Segment.mapping in
    (second_ready c.args.node.now c.in-Layer.layer c.in-Layer.is x c.in-Segment.is c.args.fields
    c.requires.valid c.requires.of_form c.index-second.result.now c.in-Some.others
    c.index-second.ensures (sym c.in-Some.is ∙ c.in_ok-chosen.ensures.1)).1

pub returns-in-None : goal.returns-in-None
returns-in-None c =
    let x = c.in-Segment.mapping in
    let q = c.index-first.result.now in
    node_bodies c.args.node.now c.in-Layer.layer c.in-Layer.is x c.in-Segment.is c.args.fields
    c.requires.valid c.requires.of_form q None c.in_ok-body.body None c.index-first.ensures
    (sym c.in-None.is ∙ c.in_ok-chosen.ensures.1)
    (subst (λ (vs : List Value). IsOnlyBody (tree_of q) vs c.in_ok-body.body)
    c.in_ok-chosen.ensures.0 c.in_ok-body.ensures) (λ w read. tt)

pub returns-in_ok-other-in-Some : goal.returns-in_ok-other-in-Some
returns-in_ok-other-in-Some c =
    let node = c.args.node.now in
    let l = c.in-Layer.layer in
    let x = c.in-Segment.mapping in
    let q = c.index-first.result.now in
    let vs = c.in-Some.others in
    let two = c.requires.two in
    node_bodies node l c.in-Layer.is x c.in-Segment.is c.args.fields c.requires.valid
    c.requires.of_form q (Some vs) c.in_ok-body.body (Some c.in_ok-other-in-Some.other)
    c.index-first.ensures (sym c.in-Some.is ∙ c.in_ok-chosen.ensures.1)
    (subst (λ (ws : List Value). IsOnlyBody (tree_of q) ws c.in_ok-body.body)
    c.in_ok-chosen.ensures.0 c.in_ok-body.ensures)
    (other_read node l c.in-Layer.is x c.in-Segment.is c.args.fields c.requires.valid
    c.requires.of_form two.0 two.1 two.2 c.index-second.result.now vs c.in_ok-other-in-Some.other
    c.index-second.ensures c.in_ok-other-in-Some.ensures)

pub plain_bodies-requires-clause-first : goal.plain_bodies-requires-clause-first
plain_bodies-requires-clause-first c =
    let x = c.in-Segment.mapping in
    first_lengths c.args.node.now c.in-Layer.layer c.in-Layer.is x c.in-Segment.is c.args.fields
    c.requires.valid c.requires.of_form c.index-first.result.now c.index-first.ensures
    (c.is_plain.ensures c.if-is_plain.true)

pub plain_bodies-requires-clause-others : goal.plain_bodies-requires-clause-others
plain_bodies-requires-clause-others c =
    let x = c.in-Segment.mapping in
    other_lengths c.args.node.now c.in-Layer.layer c.in-Layer.is x c.in-Segment.is c.args.fields
    c.requires.valid c.requires.of_form c.index-second.result.now c.index-second.ensures
    (c.is_plain-then-is_plain.ensures c.if-is_plain-2.true)

pub returns-then-is_plain-2 : goal.returns-then-is_plain-2
returns-then-is_plain-2 c =
    let x = c.in-Segment.mapping in
    let two = c.requires.two in
    IfOk-weaker c.plain_bodies.result _ _
    (λ made are. plain_both c.args.node.now c.in-Layer.layer c.in-Layer.is x c.in-Segment.is
    c.args.fields c.requires.valid c.requires.of_form two.0 two.1 two.2 c.index-first.result.now
    c.index-second.result.now made.0 made.1 c.index-first.ensures c.index-second.ensures
    (c.is_plain.ensures c.if-is_plain.true) (c.is_plain-then-is_plain.ensures c.if-is_plain-2.true)
    are.0 are.1)
    c.plain_bodies.ensures

pub only_body-requires-clause-valid : goal.only_body-requires-clause-valid
only_body-requires-clause-valid c =
    let two = c.requires.two in
    first_valid c.args.node.now c.in-Layer.layer c.in-Layer.is two.0 two.1 c.index-first.result.now
    c.index-first.ensures two.2 c.requires.valid

pub only_body-requires-clause-only : goal.only_body-requires-clause-only
only_body-requires-clause-only c =
    let two = c.requires.two in (
      two.0,
      first_only c.args.node.now c.in-Layer.layer c.in-Layer.is two.0 two.1
          c.index-first.result.now c.index-first.ensures two.2,
    )
