use Rattle.std.proofs.Common.{◌≡◌, ◌<◌, ◌∙◌, Bool, true, false, ℕ, sym, ap, subst, length, map, refl, ◌+◌, arith, rules}
use Rattle.std.specs.Prelude.{◌&&◌, ◌||◌, is_some}
use Rattle.gx_stack.specs.Tree.{IsValid}
use Rattle.gx_stack.specs.Seen.{tree_of, kids_from}
use Rattle.gx_stack.specs.Indexed.{is_carried, is_indexed, are_indexed}
use Rattle.gx_stack.proofs.Seen.{seen_layer, child_there, child_valid, kid_lower, count_kids}
use Rattle.gx_stack.proofs.IndexedLemmas.{AreIndexedBelow, below_none, below_carried, below_other, all_indexed, indexed_not}
use Rattle.gx_stack.proofs.node.Node.+indexed.Goals.{then-carries+else-not-indexed, else-carries}
use Rattle.gx_stack.proofs.node.Node.+indexed.Goals as goal

pub index-kid-requires : goal.index-kid-requires
index-kid-requires g t c =
    let rule = g.M.Mapping.rule in
    let l = c.in-Layer.layer in
    let below : c.loop-child.child < (rule l.mapping).kids = omega (arith, c.kids-child-end.ensures)
    in
    omega (
      arith,
      child_there rule c.args.self.now l c.in-Layer.is c.loop-child.child c.requires
          below,
      l.kids.ok.0,
    )

pub indexed-requires : goal.indexed-requires
indexed-requires g t c κs within =
    let rule = g.M.Mapping.rule in
    let l = c.in-Layer.layer in
    let n = c.args.self.now in
    let k = c.index-kid.result.now in
    let child = c.loop-child.child in
    let below : child < (rule l.mapping).kids = omega (arith, c.kids-child-end.ensures) in
    let there = child_there rule n l c.in-Layer.is child c.requires below in
    let v = child_valid rule n l c.in-Layer.is child k c.requires there c.index-kid.ensures in (
      omega (
        arith,
        kid_lower rule n l c.in-Layer.is child k there c.index-kid.ensures,
        c.decreases,
      ),
      (search rules, v.1),
    )

pub loop-child-init : goal.loop-child-init
loop-child-init g t c =
    let rule = g.M.Mapping.rule in
    let l = c.in-Layer.layer in
    below_none rule c.args.field.now l.kids.items (λ d. (rule l.mapping).carries d c.args.field.now)

pub loop-child-preserved : goal.loop-child-preserved
loop-child-preserved g t c =
    let rule = g.M.Mapping.rule in
    let l = c.in-Layer.layer in
    let n = c.args.self.now in
    let name = c.args.field.now in
    let child = c.loop-child.child in
    let carries = λ (d : ℕ). (rule l.mapping).carries d name in
    let below : child < (rule l.mapping).kids = omega (arith, c.kids-child-end.ensures) in
    let there = child_there rule n l c.in-Layer.is child c.requires below in
    elim c.if-carries.branch [
      | then-carries+else-not-indexed w ↦ (
          let k = w.index-kid.result.now in
          subst (AreIndexedBelow rule name l.kids.items carries (child + 1)) (sym w.carried-is)
          (below_carried rule name l.kids.items carries child c.loop-child.carried k there
          w.index-kid.ensures (sym c.carries.ensures ∙ w.if-carries.true) (sym w.indexed.ensures
          ∙ w.if-not-indexed.false) c.loop-child.invariant))
      | else-carries w ↦ (
          subst (AreIndexedBelow rule name l.kids.items carries (child + 1)) (sym w.carried-is)
          (below_other rule name l.kids.items carries child c.loop-child.carried
          (sym c.carries.ensures ∙ w.if-carries.false) c.loop-child.invariant))
    ]

pub returns-then-not-indexed : goal.returns-then-not-indexed
returns-then-not-indexed g t c =
    let rule = g.M.Mapping.rule in
    let l = c.in-Layer.layer in
    let n = c.args.self.now in
    let name = c.args.field.now in
    let child = c.loop-child.child in
    let carries = λ (d : ℕ). (rule l.mapping).carries d name in
    let below : child < (rule l.mapping).kids = omega (arith, c.kids-child-end.ensures) in
    let there = child_there rule n l c.in-Layer.is child c.requires below in
    let no_index : is_some ((rule l.mapping).indexes name) ≡ false =
    ap is_some (sym c.indexes.ensures) ∙ sym c.is_some.ensures ∙ c.if-is_some.false in
    let not_one = indexed_not rule name l.kids.items carries child c.index-kid.result.now there
    c.index-kid.ensures (sym c.carries.ensures ∙ c.if-carries.true)
    (sym c.if-not-indexed.ensures) in
    sym (ap (λ x. is_indexed rule x name) (seen_layer n l c.in-Layer.is)
    ∙ (λ i. no_index i || (is_carried (kids_from (map tree_of l.kids.items)) carries && not_one i))
    ∙ both (is_carried (kids_from (map tree_of l.kids.items)) carries))
  where
    both : (b : Bool) → b && false ≡ false
    both true = refl
    both false = refl

pub returns-after-loop-child : goal.returns-after-loop-child
returns-after-loop-child g t c =
    let rule = g.M.Mapping.rule in
    let l = c.in-Layer.layer in
    let n = c.args.self.now in
    let name = c.args.field.now in
    let carries = λ (d : ℕ). (rule l.mapping).carries d name in
    let no_index : is_some ((rule l.mapping).indexes name) ≡ false =
    ap is_some (sym c.indexes.ensures) ∙ sym c.is_some.ensures ∙ c.if-is_some.false in
    let v = subst (IsValid rule) (seen_layer n l c.in-Layer.is) c.requires in
    let end : c.loop-child.child ≡ length l.kids.items =
    omega (arith, c.kids-child-end.ensures, v.0, count_kids l.kids.items) in
    all_indexed rule name l.kids.items carries c.loop-child.child c.loop-child.carried end
    c.loop-child.invariant
    ∙ sym (ap (λ x. is_indexed rule x name) (seen_layer n l c.in-Layer.is)
    ∙ (λ i. no_index i || (is_carried (kids_from (map tree_of l.kids.items)) carries
    && are_indexed rule (kids_from (map tree_of l.kids.items)) carries name)))
