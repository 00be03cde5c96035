use Rattle.std.proofs.Common.{◌≡◌, ◌≤◌, ◌<◌, ◌++◌, ◌∷◌, [], List, length, sym, ap, subst, ◌∙◌, append_assoc, append-nil, refl, arith, Vec, Global}
use Rattle.std.specs.Prelude.{IfSome}
use Rattle.gx_values.specs.Keys.{AreKeyFields}
use Rattle.gx_stack.proofs.Seen.{layer_form, child_there, child_valid, kid_lower}
use Rattle.gx_types.specs.Any.{any_rule}
use Rattle.gx_scan.specs.declared.places.Place.{Place}
use Rattle.gx_scan.specs.Entries.{PassesOn}
use Rattle.gx_scan.proofs.PlaceLemmas.{none_placed, kid_placed, kid_left, kids_many, leaf_placed, layer_placed}
use Rattle.gx_scan.proofs.places.+add_places.Goals.{else-above-eq0-via-then-above-eq0+else-not-is_empty, else-above-eq0-via-else-above-eq0, then-holds_rest+in_ok-add_places-in-Layer+else-not-branch, else-holds_rest}
use Rattle.gx_scan.proofs.places.+add_places.Goals as goal

pub loop-child-init : goal.loop-child-init
loop-child-init t c = (
  [],
  sym (append-nil c.args.places.now.items),
  none_placed c.in-Layer.layer.mapping
      c.in-Some.below.layers c.in-Some.below.codes c.in-Layer.layer.kids.items,
)

pub index-kid-requires : goal.index-kid-requires
index-kid-requires t c =
    let l = c.in-Layer.layer in
    let child = c.loop-child.child in
    let within : child < (any_rule l.mapping).kids = omega (arith, c.kids-child-end.ensures) in
    omega (
      arith,
      child_there any_rule c.args.node.now l c.in-Layer.is child c.requires.valid
          within,
      l.kids.ok.0,
    )

pub add_places-requires : goal.add_places-requires
add_places-requires t c =
    let node = c.args.node.now in
    let l = c.in-Layer.layer in
    let is = c.in-Layer.is in
    let child = c.loop-child.child in
    let k = c.index-kid.result.now in
    let within : child < (any_rule l.mapping).kids = omega (arith, c.kids-child-end.ensures) in
    let there = child_there any_rule node l is child c.requires.valid within in
    let read = c.index-kid.ensures in
    let v = child_valid any_rule node l is child k c.requires.valid there read in
    let form = layer_form any_rule node l is in
    let passes = subst
    (λ o. IfSome o
    (λ b. PassesOn (any_rule l.mapping) c.args.above.now.layers c.args.above.now.codes b.layers
    b.codes)) c.in-Some.is c.in_ok-below-in-Layer.ensures in
    let plain = passes.plain child (sym c.holds_rest.ensures ∙ c.if-holds_rest.true)
    (λ none no_codes. subst (λ f. AreKeyFields f.fields) form
    (c.requires.plain none no_codes)) in (
      omega (arith, kid_lower any_rule node l is child k there read, c.decreases),
      (v.1, λ none no_codes. subst (λ f. AreKeyFields f.fields) (sym v.0) (plain none no_codes)),
    )

pub loop-child-preserved : goal.loop-child-preserved
loop-child-preserved t c =
    let node = c.args.node.now in
    let l = c.in-Layer.layer in
    let child = c.loop-child.child in
    let so_far = c.loop-child.invariant in
    let within : child < (any_rule l.mapping).kids = omega (arith, c.kids-child-end.ensures) in
    let there = child_there any_rule node l c.in-Layer.is child c.requires.valid within in
    elim c.if-holds_rest.branch [
      | then-holds_rest+in_ok-add_places-in-Layer+else-not-branch w ↦ (
          let one = w.in_ok-add_places-in-Layer.ensures w.if-not-branch.false in (
            so_far.0 ++ one.0,
            ap (λ (v : Vec Place Global). v.items) w.places-is ∙ one.1
                ∙ ap (λ (ps : List Place). ps ++ one.0) so_far.1
                ∙ append_assoc c.args.places.now.items so_far.0 one.0,
            kid_placed l.mapping c.in-Some.below.layers c.in-Some.below.codes l.kids.items child
                w.index-kid.result.now so_far.0 one.0 there
                (sym c.holds_rest.ensures ∙ w.if-holds_rest.true) w.index-kid.ensures so_far.2
                one.2,
          ))
      | else-holds_rest w ↦ (
        so_far.0,
        ap (λ (v : Vec Place Global). v.items) w.places-is ∙ so_far.1,
        kid_left l.mapping c.in-Some.below.layers c.in-Some.below.codes l.kids.items child node
            so_far.0 there (sym c.holds_rest.ensures ∙ w.if-holds_rest.false) so_far.2,
      )
    ]

pub returns-in_ok-push-in-Leaf : goal.returns-in_ok-push-in-Leaf
returns-in_ok-push-in-Leaf t c = λ whole.
    let p : Place =
    record {
      leaf = c.in-Leaf.node.leaf;
      lengths = c.saturating_sub.result;
      codes =
          c.in_ok-copy-in-Leaf.field-0;
    } in
    let above = c.args.above.now in
    let outside : above.layers ≡ 0 → above.codes ≡ [] = elim c.else-above-eq0.branch [
      | else-above-eq0-via-then-above-eq0+else-not-is_empty w ↦
          (λ none. w.is_empty.ensures.yes w.if-not-is_empty.false)
      | else-above-eq0-via-else-above-eq0 w ↦
          (λ none. absurd (omega (arith, none, w.if-above-eq0.false)))
    ] in (
      p ∷ [],
      c.in_ok-push-in-Leaf.ensures.items,
      leaf_placed c.args.node.now c.in-Leaf.node
          above.layers above.codes p c.in-Leaf.is c.requires.valid outside c.requires.plain refl
          c.saturating_sub.ensures c.in_ok-copy-in-Leaf.ensures,
    )

pub returns-after-loop-child : goal.returns-after-loop-child
returns-after-loop-child t c = λ whole.
    let l = c.in-Layer.layer in
    let i = c.loop-child.child in
    let b = c.in-Some.below in
    let so_far = c.loop-child.invariant in
    let passes = subst
    (λ o. IfSome o
    (λ b. PassesOn (any_rule l.mapping) c.args.above.now.layers c.args.above.now.codes b.layers
    b.codes)) c.in-Some.is c.in_ok-below-in-Layer.ensures in
    let end : length l.kids.items ≤ i =
    omega (
      arith,
      c.loop-child-test.false,
      c.kids-child-end.ensures,
      kids_many c.args.node.now l c.in-Layer.is c.requires.valid,
    ) in (
      so_far.0,
      so_far.1,
      layer_placed c.args.node.now l c.args.above.now.layers
          c.args.above.now.codes b.layers b.codes i so_far.0 c.in-Layer.is c.requires.valid passes
          end
          so_far.2,
    )
