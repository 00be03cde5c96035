use Rattle.std.proofs.Common.{◌≡◌, ◌<◌, ◌∷◌, [], sym, subst, ◌∙◌, refl, arith}
use Rattle.std.specs.Prelude.{IfSome}
use Rattle.gx_values.specs.Keys.{AreKeyFields}
use Rattle.gx_stack.specs.Seen.{tree_of}
use Rattle.gx_stack.proofs.Seen.{layer_form, child_there, child_valid, kid_lower}
use Rattle.gx_types.specs.Any.{any_rule}
use Rattle.gx_scan.specs.declared.places.Place.{Place}
use Rattle.gx_scan.specs.Entries.{PassesOn, ArePlacesBelow}
use Rattle.gx_scan.proofs.PlaceLemmas.{leaf_placed}
use Rattle.gx_scan.proofs.OnePlaceLemmas.{if_placed, one_below}
use Rattle.gx_scan.proofs.places.+place_below.Goals.{else-changed-eq0-via-then-changed-eq0+else-not-is_empty, else-changed-eq0-via-else-changed-eq0}
use Rattle.gx_scan.proofs.places.+place_below.Goals as goal

pub place_below-requires : goal.place_below-requires
place_below-requires t c =
    let node = c.args.node.now in
    let l = c.in-Layer.layer in
    let is = c.in-Layer.is in
    let k = c.index.result.now in
    let within : 0 < (any_rule l.mapping).kids = omega (arith, c.kids.ensures, c.if-kids-ne1.false)
    in
    let there = child_there any_rule node l is 0 c.requires.valid within in
    let read = c.index.ensures in
    let v = child_valid any_rule node l is 0 k c.requires.valid there read in
    let form = layer_form any_rule node l is in
    let passes = subst
    (λ o. IfSome o
    (λ b. PassesOn (any_rule l.mapping) c.args.changed.layers c.args.changed.codes b.layers
    b.codes)) c.in-Some.is c.in_ok-below-in-Layer.ensures in
    let plain = passes.plain 0 (sym c.holds_rest.ensures ∙ c.if-not-holds_rest.false)
    (λ none no_codes. subst (λ f. AreKeyFields f.fields) form
    (c.requires.plain none no_codes)) in (
      omega (arith, kid_lower any_rule node l is 0 k there read, c.decreases),
      (v.1, λ none no_codes. subst (λ f. AreKeyFields f.fields) (sym v.0) (plain none no_codes)),
    )

pub returns-else-changed-eq0 : goal.returns-else-changed-eq0
returns-else-changed-eq0 t c =
    let changed = c.args.changed in
    let p : Place = record {
      leaf = c.in-Leaf.node.leaf;
      lengths = c.saturating_sub.result;
      codes = changed.codes;
    } in
    let outside : changed.layers ≡ 0 → changed.codes ≡ [] = elim c.else-changed-eq0.branch [
      | else-changed-eq0-via-then-changed-eq0+else-not-is_empty w ↦
          (λ none. w.is_empty.ensures.yes w.if-not-is_empty.false)
      | else-changed-eq0-via-else-changed-eq0 w ↦
          (λ none. absurd (omega (arith, none, w.if-changed-eq0.false)))
    ] in
    leaf_placed c.args.node.now c.in-Leaf.node changed.layers changed.codes p c.in-Leaf.is
    c.requires.valid
    outside c.requires.plain refl c.saturating_sub.ensures refl

pub returns-in-Some : goal.returns-in-Some
returns-in-Some t c =
    let node = c.args.node.now in
    let l = c.in-Layer.layer in
    let k = c.index.result.now in
    let changed = c.args.changed in
    let below = c.in-Some.below in
    let one : (any_rule l.mapping).kids ≡ 1 = omega (arith, c.kids.ensures, c.if-kids-ne1.false) in
    let passes = subst
    (λ o. IfSome o
    (λ b. PassesOn (any_rule l.mapping) changed.layers changed.codes b.layers
    b.codes)) c.in-Some.is c.in_ok-below-in-Layer.ensures in
    if_placed (λ (p : Place). ArePlacesBelow below.layers below.codes (tree_of k) (p ∷ []))
    (λ (p : Place). ArePlacesBelow changed.layers changed.codes (tree_of node) (p ∷ []))
    c.place_below.result
    (λ p placed. one_below node l changed.layers changed.codes below.layers below.codes k p
    c.in-Layer.is c.requires.valid passes one
    (sym c.holds_rest.ensures ∙ c.if-not-holds_rest.false) c.index.ensures placed)
    c.place_below.ensures
