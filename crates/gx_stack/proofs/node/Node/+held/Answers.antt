use Rattle.std.proofs.Common.{◌≡◌, ◌<◌, ◌≤◌, ◌+◌, ◌∙◌, ◌++◌, inl, refl, rules, sym, subst, length, map, arith}
use Rattle.gx_laws.proofs.ResultLemmas.{on_ok_always, if_ok}
use Rattle.gx_values.specs.declared.records.Rec.{Rec}
use Rattle.gx_mapping.specs.declared.parts.Part.{Part}
use Rattle.gx_mapping.specs.Rule.{In, IsOf}
use Rattle.gx_stack.specs.Tree.{leaves_of}
use Rattle.gx_stack.specs.Seen.{tree_of, kids_from}
use Rattle.gx_stack.specs.Internal.{IsSet, IsInternal, child_records}
use Rattle.gx_gather.specs.Gather.{rec_cmp, part_for, AreDataParts}
use Rattle.gx_stack.specs.Held.{IsHeld, AreCounts}
use Rattle.gx_ports.proofs.CallLemmas.{reads_joined}
use Rattle.gx_gather.proofs.Orders.{ascends}
use Rattle.gx_stack.proofs.Seen.{seen_leaf, layer_form, child_there, child_valid, child_leaves, child_internal, kid_lower}
use Rattle.gx_stack.proofs.Children.{child_set}
use Rattle.gx_stack.proofs.Selects.{data_parts_add}
use Rattle.gx_stack.proofs.StepLemmas.{tree_steps, steps_below, leaf_steps, layer_steps, child_steps}
use Rattle.std.proofs.lemmas.Result.{on_ok_weaker}
use Rattle.gx_stack.proofs.CountLemmas.{counts_joined}
use Rattle.gx_stack.proofs.WholeLayer.{AreRead, read_data, read_other}
use Rattle.gx_stack.proofs.WholeNode.{ChildHolds, one_holds, others_fit, by_members, layer_joined}
use Rattle.gx_stack.proofs.node.Node.+held.Goals.{then-holds_rest+in_ok-add_parts-in-Layer, else-holds_rest+in_ok-add_parts-in-Layer-2}
use Rattle.gx_stack.proofs.node.Node.+held.Goals as goal

pub held_leaf-requires-clause-leaf : goal.held_leaf-requires-clause-leaf
held_leaf-requires-clause-leaf g t c =
    c.requires.below c.in-Leaf.node.leaf
    (subst (λ t. In c.in-Leaf.node.leaf (leaves_of t))
    (sym (seen_leaf c.args.self.now c.in-Leaf.node c.in-Leaf.is)) (inl refl))

pub index-kid-requires : goal.index-kid-requires
index-kid-requires g t c =
    let rule = g.M.Mapping.rule in
    let l = c.in-Layer.layer in
    let below : c.loop-child.child < (rule l.mapping).kids = omega (arith, c.kids-child-end.ensures)
    in
    omega (
      arith,
      child_there rule c.args.self.now l c.in-Layer.is c.loop-child.child
          c.requires.valid below,
      l.kids.ok.0,
    )

pub held-requires : goal.held-requires
held-requires g t c κs within =
    let rule = g.M.Mapping.rule in
    let l = c.in-Layer.layer in
    let n = c.args.self.now in
    let k = c.index-kid.result.now in
    let child = c.loop-child.child in
    let read = c.index-kid.ensures in
    let below : child < (rule l.mapping).kids = omega (arith, c.kids-child-end.ensures) in
    let there = child_there rule n l c.in-Layer.is child c.requires.valid below in
    let v = child_valid rule n l c.in-Layer.is child k c.requires.valid there read in (
      omega (arith, kid_lower rule n l c.in-Layer.is child k there read, c.decreases),
      (
        search rules,
        (
          search rules,
          (
            v.1,
            λ j h. subst (λ ms. j < length ms)
                (sym c.loop-child.invariant.reads.working)
                (c.requires.below j (child_leaves rule n l c.in-Layer.is child k there read j h)),
          ),
        ),
      ),
    )

pub returns-in_default-clause-held : goal.returns-in_default-clause-held
returns-in_default-clause-held g t c = λ whole s.
    let rule = g.M.Mapping.rule in
    let b = g.B.View in
    let l = c.in-Layer.layer in
    let n = c.args.self.now in
    let k = c.index-kid.result.now in
    let child = c.loop-child.child in
    let read = c.index-kid.ensures in
    let maps = b.working c.args.leaves.now in
    let below : child < (rule l.mapping).kids = omega (arith, c.kids-child-end.ensures) in
    let there = child_there rule n l c.in-Layer.is child c.requires.valid below in
    let v = child_valid rule n l c.in-Layer.is child k c.requires.valid there read in
    let R = s.0 in
    let Rs = child_records (rule l.mapping) child R in
    let sets = subst (λ f. IsSet f Rs) (sym v.0)
    (child_set (g.met.M.Mapping.laws l.mapping) child R
    (subst (λ f. IsSet f R) (layer_form rule n l c.in-Layer.is) s.1)) in
    let internal = subst (IsInternal rule (tree_of k) Rs) (sym c.loop-child.invariant.reads.working)
    (child_internal rule n l c.in-Layer.is child k R maps there read s.2) in
    let none = subst (IsHeld rule (tree_of k) (b.whole c.loop-child.leaves)
    (b.working c.loop-child.leaves)) c.in_default.is c.in_ok-found-in-Layer.ensures.held in
    none (c.loop-child.invariant.whole whole) (Rs, sets, internal)

pub loop-child-preserved : goal.loop-child-preserved
loop-child-preserved g t c =
    let rule = g.M.Mapping.rule in
    let b = g.B.View in
    let l = c.in-Layer.layer in
    let n = c.args.self.now in
    let at = c.loop-child in
    let child = at.child in
    let inv = at.invariant in
    let fn = c.args.leaves.now in
    let maps = b.working fn in
    let k = c.index-kid.result.now in
    let read = c.index-kid.ensures in
    let below : child < (rule l.mapping).kids = omega (arith, c.kids-child-end.ensures) in
    let there = child_there rule n l c.in-Layer.is child c.requires.valid below in
    let v = child_valid rule n l c.in-Layer.is child k c.requires.valid there read in
    let e = c.in_ok-found-in-Layer.ensures in
    let found = c.in-Some.found in
    let are = subst (IsHeld rule (tree_of k) (b.whole at.leaves) (b.working at.leaves)) c.in-Some.is
    e.held in
    let fit : (r : Rec) → In r found → IsOf ((rule l.mapping).kid_form child) r =
    λ r h. subst (λ form. IsOf form r) v.0 (are.fit r h) in
    let holds = ChildHolds rule l.kids.items maps in
    let held : b.whole fn → holds child found =
    λ w. one_holds rule l.kids.items child k maps (b.working at.leaves) found there read
    inv.reads.working (are.held (inv.whole w)) in
    let up = λ (w : b.whole fn). ascends rec_cmp found (are.in_order (inv.whole w)) in
    let few : b.whole fn → b.work c.held.new.leaves ≤ b.work fn + steps_below maps (child + 1)
    (kids_from (map tree_of l.kids.items)) = λ w.
    let here = subst (λ ms. b.work c.held.new.leaves ≤ b.work at.leaves + tree_steps ms (tree_of k))
    inv.reads.working (e.few_steps (inv.whole w)) in
    omega (arith, here, inv.few_steps w, child_steps n l c.in-Layer.is maps child k there read)
    in
    let counts : b.whole fn → AreCounts maps c.args.counts.now → AreCounts maps c.held.new.counts =
    λ w.
    counts_joined maps (b.working at.leaves) c.args.counts.now at.counts c.held.new.counts
    inv.reads.working (inv.counts w) (e.counts (inv.whole w))
    in
    let members = by_members rule g.met.M.Mapping.laws n l c.in-Layer.is c.requires.valid maps in
    elim c.if-holds_rest.branch [
      | then-holds_rest+in_ok-add_parts-in-Layer w ↦ (
          let rest = sym c.holds_rest.ensures ∙ w.if-holds_rest.true in
          let main_are : c.if-holds_rest.main ≡ at.main ++ map (part_for child) found =
          w.main-is ∙ w.in_ok-add_parts-in-Layer.ensures in
          record {
            whole = λ h. e.reads.ends.whole (inv.whole h);
            reads = reads_joined b inv.reads e.reads.reads;
            counts = counts;
            counted = e.reads.ends.counted refl ∙ inv.counted;
            few_steps = few;
            fit = subst (AreDataParts (rule l.mapping)) (sym main_are)
                (data_parts_add (rule l.mapping) child at.main found below rest fit inv.fit);
            fit_others = subst (λ ps. (p : Part) → In p ps
                → IsOf ((rule l.mapping).kid_form p.child) p.rec) (sym w.others-is) inv.fit_others;
            so_far = λ whole.
                subst (λ ps. AreRead (rule l.mapping) holds (child + 1) c.if-holds_rest.main ps)
                (sym w.others-is)
                (subst (λ ps. AreRead (rule l.mapping) holds (child + 1) ps at.others)
                (sym main_are) (read_data (rule l.mapping) holds members child below found
                (up whole) (held whole) at.main at.others rest (inv.so_far whole)));
          })
      | else-holds_rest+in_ok-add_parts-in-Layer-2 w ↦ (
          let rest = sym c.holds_rest.ensures ∙ w.if-holds_rest.false in
          let others_are : c.if-holds_rest.others ≡ at.others ++ map (part_for child) found =
          w.others-is ∙ w.in_ok-add_parts-in-Layer-2.ensures in
          record {
            whole = λ h. e.reads.ends.whole (inv.whole h);
            reads = reads_joined b inv.reads e.reads.reads;
            counts = counts;
            counted = e.reads.ends.counted refl ∙ inv.counted;
            few_steps = few;
            fit = subst (AreDataParts (rule l.mapping)) (sym w.main-is) inv.fit;
            fit_others = subst (λ ps. (p : Part) → In p ps
                → IsOf ((rule l.mapping).kid_form p.child) p.rec) (sym others_are)
                (others_fit (rule l.mapping) child at.others found fit inv.fit_others);
            so_far = λ whole.
                subst (λ ps. AreRead (rule l.mapping) holds (child + 1) ps c.if-holds_rest.others)
                (sym w.main-is)
                (subst (λ ps. AreRead (rule l.mapping) holds (child + 1) at.main ps)
                (sym others_are) (read_other (rule l.mapping) holds members child below found
                (up whole) (held whole) at.main at.others rest (inv.so_far whole)));
          })
    ]

pub returns-after-loop-child-clause-held : goal.returns-after-loop-child-clause-held
returns-after-loop-child-clause-held g t c =
    let rule = g.M.Mapping.rule in
    let b = g.B.View in
    let l = c.in-Layer.layer in
    let at = c.loop-child in
    let inv = at.invariant in
    let maps = b.working c.args.leaves.now in
    let end : at.child ≡ (rule l.mapping).kids = omega (arith, c.kids-child-end.ensures) in
    if_ok c.join_parts.result
    (λ o. layer_joined rule g.met.M.Mapping.laws c.args.self.now l c.in-Layer.is
    c.requires.valid maps (b.whole c.args.leaves.now) at.main at.others
    (λ w. subst (λ j. AreRead (rule l.mapping) (ChildHolds rule l.kids.items maps) j at.main
    at.others) end (inv.so_far w)) (λ p h. (inv.fit p h).fits) inv.fit_others o)
    c.join_parts.ensures.joined

pub returns-in-Leaf-clause-few_steps : goal.returns-in-Leaf-clause-few_steps
returns-in-Leaf-clause-few_steps g t c = λ whole.
    let b = g.B.View in
    let l = c.in-Leaf.node in
    let maps = b.working c.args.leaves.now in
    on_ok_weaker c.held_leaf.result
    (λ few. omega (arith, few, leaf_steps c.args.self.now l maps c.in-Leaf.is))
    (c.held_leaf.ensures.few_steps whole)

pub returns-in_default-clause-few_steps : goal.returns-in_default-clause-few_steps
returns-in_default-clause-few_steps g t c = λ whole.
    let rule = g.M.Mapping.rule in
    let b = g.B.View in
    let l = c.in-Layer.layer in
    let n = c.args.self.now in
    let k = c.index-kid.result.now in
    let child = c.loop-child.child in
    let inv = c.loop-child.invariant in
    let maps = b.working c.args.leaves.now in
    let below : child < (rule l.mapping).kids = omega (arith, c.kids-child-end.ensures) in
    let there = child_there rule n l c.in-Layer.is child c.requires.valid below in
    let here = subst (λ ms. b.work c.held.new.leaves ≤ b.work c.loop-child.leaves + tree_steps ms
    (tree_of k)) inv.reads.working (c.in_ok-found-in-Layer.ensures.few_steps (inv.whole whole))
    in
    omega (
      arith,
      here,
      inv.few_steps whole,
      child_steps n l c.in-Layer.is maps child k there c.index-kid.ensures,
      layer_steps n l c.in-Layer.is maps (child + 1),
    )

pub returns-after-loop-child-clause-few_steps : goal.returns-after-loop-child-clause-few_steps
returns-after-loop-child-clause-few_steps g t c = λ whole.
    let l = c.in-Layer.layer in
    let at = c.loop-child in
    let maps = g.B.View.working c.args.leaves.now in
    on_ok_always c.join_parts.result
    (omega (
      arith,
      at.invariant.few_steps whole,
      layer_steps c.args.self.now l c.in-Layer.is maps at.child,
    ))

pub returns-in_default-clause-counts : goal.returns-in_default-clause-counts
returns-in_default-clause-counts g t c = λ w.
    let b = g.B.View in
    let at = c.loop-child in
    let inv = at.invariant in
    counts_joined (b.working c.args.leaves.now) (b.working at.leaves) c.args.counts.now at.counts
    c.held.new.counts inv.reads.working (inv.counts w)
    (c.in_ok-found-in-Layer.ensures.counts (inv.whole w))

pub returns-in_err-add_parts-in-Layer-clause-counts :
    goal.returns-in_err-add_parts-in-Layer-clause-counts
returns-in_err-add_parts-in-Layer-clause-counts g t c = λ w.
    let b = g.B.View in
    let at = c.loop-child in
    let inv = at.invariant in
    counts_joined (b.working c.args.leaves.now) (b.working at.leaves) c.args.counts.now at.counts
    c.held.new.counts inv.reads.working (inv.counts w)
    (c.in_ok-found-in-Layer.ensures.counts (inv.whole w))
