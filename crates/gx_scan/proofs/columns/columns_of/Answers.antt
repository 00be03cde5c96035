use Rattle.std.proofs.Common.{◌<◌, ◌∷◌, [], sym, subst, arith}
use Rattle.std.specs.Prelude.{IfSome}
use Rattle.gx_stack.specs.Seen.{tree_of}
use Rattle.gx_stack.specs.Tree.{no_kids}
use Rattle.gx_types.specs.Any.{any_rule}
use Rattle.gx_scan.specs.Columns.{ArePlacesOfKids}
use Rattle.gx_scan.specs.Entries.{ArePlaces}
use Rattle.gx_scan.proofs.ColumnSteps.{kid_there, kid_valid, places_next, columns_made}
use Rattle.gx_scan.proofs.columns.columns_of.Goals as goal

pub loop-child-init : goal.loop-child-init
loop-child-init c = subst (ArePlacesOfKids no_kids) (sym c.in_ok-places.ensures.items) tt

pub index-kid-requires : goal.index-kid-requires
index-kid-requires c =
    let l = c.in-Layer.layer in
    let within : c.loop-child.child < (any_rule l.mapping).kids =
    omega (arith, c.kids-child-end.ensures) in
    omega (
      arith,
      kid_there c.args.node.now l c.in-Transpose.field-0 c.in-Layer.is c.in-Transpose.is
          c.requires.valid c.loop-child.child within,
      l.kids.ok.0,
    )

pub only_place-requires-clause-valid : goal.only_place-requires-clause-valid
only_place-requires-clause-valid c =
    let l = c.in-Layer.layer in
    let within : c.loop-child.child < (any_rule l.mapping).kids =
    omega (arith, c.kids-child-end.ensures) in
    (kid_valid c.args.node.now l c.in-Transpose.field-0 c.in-Layer.is c.in-Transpose.is
    c.requires.valid c.loop-child.child c.index-kid.result.now within c.index-kid.ensures
    c.requires.plain).0

pub only_place-requires-clause-plain : goal.only_place-requires-clause-plain
only_place-requires-clause-plain c =
    let l = c.in-Layer.layer in
    let within : c.loop-child.child < (any_rule l.mapping).kids =
    omega (arith, c.kids-child-end.ensures) in
    (kid_valid c.args.node.now l c.in-Transpose.field-0 c.in-Layer.is c.in-Transpose.is
    c.requires.valid c.loop-child.child c.index-kid.result.now within c.index-kid.ensures
    c.requires.plain).1

pub loop-child-preserved : goal.loop-child-preserved
loop-child-preserved c =
    let l = c.in-Layer.layer in
    let k = c.index-kid.result.now in
    let p = c.in-Some.place in
    let within : c.loop-child.child < (any_rule l.mapping).kids =
    omega (arith, c.kids-child-end.ensures) in
    let there = kid_there c.args.node.now l c.in-Transpose.field-0 c.in-Layer.is
    c.in-Transpose.is c.requires.valid c.loop-child.child within in
    let placed = subst (λ o. IfSome o (λ p. ArePlaces 0 (tree_of k) (p ∷ []))) c.in-Some.is
    c.in_ok-place.ensures in
    subst (ArePlacesOfKids _) (sym c.in_ok-push.ensures.items)
    (places_next l.kids.items c.loop-child.child c.loop-child.places.items k p there
    c.index-kid.ensures c.loop-child.invariant placed)

pub returns : goal.returns
returns c =
    columns_made c.args.node.now c.in-Layer.layer c.in-Transpose.field-0 c.in-Layer.is
    c.in-Transpose.is c.requires.valid c.loop-child.places.items c.loop-child.child
    (omega (arith, c.loop-child-test.false, c.kids-child-end.ensures)) c.loop-child.invariant
