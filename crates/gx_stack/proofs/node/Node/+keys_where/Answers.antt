use Rattle.std.proofs.Common.{◌≡◌, ◌<◌, ◌+◌, ◌∙◌, ◌++◌, ℕ, List, refl, rules, ap, sym, subst, length, map, drop, append-nil, arith}
use Rattle.gx_values.specs.declared.values.Value.{Value}
use Rattle.gx_values.specs.declared.records.Rec.{Rec}
use Rattle.gx_ports.specs.Calls.{Reads}
use Rattle.gx_ports.proofs.CallLemmas.{reads_joined}
use Rattle.gx_mapping.specs.Rule.{In}
use Rattle.gx_stack.specs.Seen.{tree_of, kids_from}
use Rattle.gx_stack.specs.Internal.{IsInternal}
use Rattle.gx_stack.proofs.Seen.{child_there, child_valid, child_leaves, kid_lower}
use Rattle.gx_stack.proofs.Children.{child_has_set}
use Rattle.gx_stack.proofs.PassLemmas.{reads_given, reads_given_after}
use Rattle.gx_stack.proofs.KeysNode.{AreKeysBelow, no_keys, keys_skip, keys_add, keys_all, keys_indexed, kid_indexed, kid_spans, index_spans, index_key_span, entry_some}
use Rattle.gx_stack.proofs.node.Node.+keys_where.Goals.{then-carries+in_ok-keys_where-in-Layer, else-carries}
use Rattle.gx_stack.proofs.node.Node.+keys_where.Goals as goal

-- ---- an index

pub index-kid-requires : goal.index-kid-requires
index-kid-requires g t c =
    let rule = g.M.Mapping.rule in
    let l = c.in-Layer.layer in
    let index = (g.met.M.Mapping.laws l.mapping).indexed c.args.field.now c.in-Some.child
    (sym c.indexes.ensures ∙ c.in-Some.is) in
    omega (
      arith,
      child_there rule c.args.self.now l c.in-Layer.is c.in-Some.child c.requires.valid
          index.child,
      l.kids.ok.0,
    )

pub select-requires-clause-valid : goal.select-requires-clause-valid
select-requires-clause-valid g t c =
    let rule = g.M.Mapping.rule in
    let l = c.in-Layer.layer in
    let n = c.args.self.now in
    let index = (g.met.M.Mapping.laws l.mapping).indexed c.args.field.now c.in-Some.child
    (sym c.indexes.ensures ∙ c.in-Some.is) in
    (child_valid rule n l c.in-Layer.is c.in-Some.child c.index-kid.result.now c.requires.valid
    (child_there rule n l c.in-Layer.is c.in-Some.child c.requires.valid index.child)
    c.index-kid.ensures).1

pub select-requires-clause-below : goal.select-requires-clause-below
select-requires-clause-below g t c = λ j h.
    let rule = g.M.Mapping.rule in
    let l = c.in-Layer.layer in
    let n = c.args.self.now in
    let index = (g.met.M.Mapping.laws l.mapping).indexed c.args.field.now c.in-Some.child
    (sym c.indexes.ensures ∙ c.in-Some.is) in
    c.requires.below j (child_leaves rule n l c.in-Layer.is c.in-Some.child c.index-kid.result.now
    (child_there rule n l c.in-Layer.is c.in-Some.child c.requires.valid index.child)
    c.index-kid.ensures j h)

pub select-requires-clause-span : goal.select-requires-clause-span
select-requires-clause-span g t c =
    let l = c.in-Layer.layer in
    let index = (g.met.M.Mapping.laws l.mapping).indexed c.args.field.now c.in-Some.child
    (sym c.indexes.ensures ∙ c.in-Some.is) in
    index_key_span g.M.Mapping.rule g.met.M.Mapping.laws c.args.self.now l c.in-Layer.is
    c.requires.valid c.args.field.now c.args.span.now c.requires.span c.in-Some.child
    c.index-kid.result.now index c.index-kid.ensures

pub returns-in_err-select-in-Layer-clause-reads : goal.returns-in_err-select-in-Layer-clause-reads
returns-in_err-select-in-Layer-clause-reads g t c =
    let rule = g.M.Mapping.rule in
    let l = c.in-Layer.layer in
    let index = (g.met.M.Mapping.laws l.mapping).indexed c.args.field.now c.in-Some.child
    (sym c.indexes.ensures ∙ c.in-Some.is) in
    let maps = g.B.View.working c.args.leaves.now in
    let kid = c.index-kid in
    let has_set = child_has_set rule g.met.M.Mapping.laws c.args.self.now l c.in-Layer.is
    c.requires.valid in
    let set = has_set c.in-Some.child kid.result.now maps maps index.child kid.ensures refl in
    reads_given g.B.View c.from_residual.result c.from_residual.ensures.1
    (λ s. (s.0, set s.1)) c.in_err-select-in-Layer.ensures.reads

pub add_keys-requires : goal.add_keys-requires
add_keys-requires g t c = λ r h.
    let l = c.in-Layer.layer in
    let index = (g.met.M.Mapping.laws l.mapping).indexed c.args.field.now c.in-Some.child
    (sym c.indexes.ensures ∙ c.in-Some.is) in
    let f = c.in_ok-select-in-Layer.ensures.found in
    let all : c.select.new.out ≡ f.found = f.appended ∙ ap (λ zs. zs ++ f.found) c.new-found.ensures
    in
    entry_some g.M.Mapping.rule g.met.M.Mapping.laws c.args.self.now l c.in-Layer.is
    c.requires.valid c.args.field.now c.args.span.now c.requires.span c.in-Some.child
    c.index-kid.result.now index c.index-kid.ensures r (f.fit r (subst (In r) all h))

pub returns-in-Some-clause-found : goal.returns-in-Some-clause-found
returns-in-Some-clause-found g t c =
    let rule = g.M.Mapping.rule in
    let b = g.B.View in
    let l = c.in-Layer.layer in
    let n = c.args.self.now in
    let index = (g.met.M.Mapping.laws l.mapping).indexed c.args.field.now c.in-Some.child
    (sym c.indexes.ensures ∙ c.in-Some.is) in
    let f = c.in_ok-select-in-Layer.ensures.found in
    let all : c.select.new.out ≡ f.found = f.appended ∙ ap (λ zs. zs ++ f.found) c.new-found.ensures
    in
    let appended = c.in_ok-add_keys-in-Layer.ensures.keys
    ∙ ap (λ (zs : List Rec). c.args.out.now ++ map (λ r. drop 1 r.key) zs) all in
    keys_indexed rule g.met.M.Mapping.laws n l c.in-Layer.is c.requires.valid
    (b.working c.args.leaves.now) c.args.field.now c.args.span.now (b.whole c.args.leaves.now)
    c.in-Some.child c.index-kid.result.now (b.work c.args.leaves.now)
    (b.work c.select.new.leaves)
    c.args.out.now c.add_keys.new.out f.found index
    (index_spans rule g.met.M.Mapping.laws n l c.in-Layer.is c.requires.valid c.args.field.now
    c.args.span.now c.requires.span c.in-Some.child index) c.index-kid.ensures appended
    f.fit f.few_steps f.selected

-- ---- the children that carry the field

pub loop-child-init : goal.loop-child-init
loop-child-init g t c =
    let rule = g.M.Mapping.rule in
    let b = g.B.View in
    record {
      whole = λ h. h;
      reads = search rules;
      counted = refl;
      found = no_keys rule g.met.M.Mapping.laws c.args.self.now c.in-Layer.layer c.in-Layer.is
          c.requires.valid (b.working c.args.leaves.now) c.args.field.now c.args.span.now
          (b.whole c.args.leaves.now) (b.work c.args.leaves.now) c.args.out.now
          (sym (append-nil c.args.out.now));
    }

pub index-kid-requires-then-carries : goal.index-kid-requires-then-carries
index-kid-requires-then-carries g t c =
    let rule = g.M.Mapping.rule in
    let l = c.in-Layer.layer in
    let below : c.loop-child.child < (rule l.mapping).kids = omega (arith, c.kids-child-end.ensures)
    in
    omega (
      arith,
      child_there rule c.args.self.now l c.in-Layer.is c.loop-child.child
          c.requires.valid below,
      l.kids.ok.0,
    )

pub keys_where-requires : goal.keys_where-requires
keys_where-requires g t c κs within =
    let rule = g.M.Mapping.rule in
    let laws = g.met.M.Mapping.laws in
    let l = c.in-Layer.layer in
    let n = c.args.self.now in
    let k = c.index-kid-then-carries.result.now in
    let child = c.loop-child.child in
    let read = c.index-kid-then-carries.ensures in
    let below : child < (rule l.mapping).kids = omega (arith, c.kids-child-end.ensures) in
    let there = child_there rule n l c.in-Layer.is child c.requires.valid below in
    let v = child_valid rule n l c.in-Layer.is child k c.requires.valid there read in
    let carries = sym c.carries.ensures ∙ c.if-carries.true in
    let none = sym c.indexes.ensures ∙ c.in_default.is in (
      omega (arith, kid_lower rule n l c.in-Layer.is child k there read, c.decreases),
      (
        search rules,
        (
          search rules,
          (
            v.1,
            (
              λ j h. subst (λ ms. j < length ms) (sym c.loop-child.invariant.reads.working)
                  (c.requires.below j (child_leaves rule n l c.in-Layer.is child k there read j h)),
              (
                kid_indexed rule laws n l c.in-Layer.is c.requires.valid c.args.field.now
                    c.args.span.now c.requires.span child k c.requires.indexed none below read
                    carries,
                kid_spans rule laws n l c.in-Layer.is c.requires.valid c.args.field.now
                    c.args.span.now c.requires.span child k below read carries,
              ),
            ),
          ),
        ),
      ),
    )

pub returns-in_err-keys_where-in-Layer-clause-reads :
    goal.returns-in_err-keys_where-in-Layer-clause-reads
returns-in_err-keys_where-in-Layer-clause-reads g t c =
    let rule = g.M.Mapping.rule in
    let l = c.in-Layer.layer in
    let maps = g.B.View.working c.args.leaves.now in
    let at = c.loop-child in
    let inv = at.invariant in
    let below : at.child < (rule l.mapping).kids = omega (arith, c.kids-child-end.ensures) in
    let given = c.from_residual-in_err-keys_where-in-Layer in
    let kid = c.index-kid-then-carries in
    let now = g.B.View.working at.leaves in
    let has_set = child_has_set rule g.met.M.Mapping.laws c.args.self.now l c.in-Layer.is
    c.requires.valid in
    let set = has_set at.child kid.result.now maps now below kid.ensures inv.reads.working in
    reads_given_after g.B.View given.result given.ensures.1
    (record { reads = inv.reads; whole = inv.whole; counted = inv.counted })
    (λ s. (inv.whole s.0, set s.1)) c.in_err-keys_where-in-Layer.ensures.reads

pub loop-child-preserved : goal.loop-child-preserved
loop-child-preserved g t c =
    let rule = g.M.Mapping.rule in
    let laws = g.met.M.Mapping.laws in
    let b = g.B.View in
    let l = c.in-Layer.layer in
    let n = c.args.self.now in
    let name = c.args.field.now in
    let span = c.args.span.now in
    let child = c.loop-child.child in
    let inv = c.loop-child.invariant in
    let fn = c.args.leaves.now in
    let maps = b.working fn in
    let before = c.args.out.now in
    let holds = λ (steps : ℕ) (out : List (List Value)). AreKeysBelow rule l.mapping
    (kids_from (map tree_of l.kids.items)) name span (b.whole fn)
    (λ R. IsInternal rule (tree_of n) R maps) (child + 1) (b.work fn) steps before out in
    let below : child < (rule l.mapping).kids = omega (arith, c.kids-child-end.ensures) in
    elim c.if-carries.branch [
      | then-carries+in_ok-keys_where-in-Layer w ↦ (
          let k = w.index-kid-then-carries.result.now in
          let e = w.in_ok-keys_where-in-Layer.ensures in
          record {
            whole = λ h. subst b.whole (sym w.leaves-is) (e.reads.ends.whole (inv.whole h));
            reads = subst (Reads b fn) (sym w.leaves-is) (reads_joined b inv.reads e.reads.reads);
            counted = ap b.faults w.leaves-is ∙ e.reads.ends.counted refl ∙ inv.counted;
            found = subst (λ ls. holds (b.work ls) c.if-carries.out) (sym w.leaves-is)
                (subst (holds (b.work w.keys_where.new.leaves)) (sym w.out-is)
                (keys_add rule laws n l c.in-Layer.is c.requires.valid maps name span
                (b.whole fn) child k (b.whole c.loop-child.leaves)
                (b.working c.loop-child.leaves) (b.work fn) (b.work c.loop-child.leaves)
                (b.work w.keys_where.new.leaves) before c.loop-child.out
                w.keys_where.new.out below
                (sym c.carries.ensures ∙ w.if-carries.true) w.index-kid-then-carries.ensures
                inv.whole inv.reads.working inv.found e.found));
          })
      | else-carries w ↦ record {
        whole = λ h. subst b.whole (sym w.leaves-is) (inv.whole h);
        reads = subst (Reads b fn) (sym w.leaves-is) inv.reads;
        counted = ap b.faults w.leaves-is ∙ inv.counted;
        found = subst (λ ls. holds (b.work ls) c.if-carries.out) (sym w.leaves-is)
            (subst (holds (b.work c.loop-child.leaves)) (sym w.out-is)
            (keys_skip rule laws n l c.in-Layer.is c.requires.valid maps name span
            (b.whole fn) child (b.work fn) (b.work c.loop-child.leaves) before c.loop-child.out
            below (sym c.carries.ensures ∙ w.if-carries.false) inv.found));
      }
    ]

pub returns-after-loop-child-clause-found : goal.returns-after-loop-child-clause-found
returns-after-loop-child-clause-found g t c =
    let rule = g.M.Mapping.rule in
    let b = g.B.View in
    let l = c.in-Layer.layer in
    let n = c.args.self.now in
    let name = c.args.field.now in
    let span = c.args.span.now in
    let fn = c.args.leaves.now in
    let maps = b.working fn in
    let before = c.args.out.now in
    let end : c.loop-child.child ≡ (rule l.mapping).kids = omega (arith, c.kids-child-end.ensures)
    in
    keys_all rule g.met.M.Mapping.laws n l c.in-Layer.is c.requires.valid maps name span
    (b.whole fn) (b.work fn) (b.work c.loop-child.leaves) before c.loop-child.out
    c.requires.indexed (sym c.indexes.ensures ∙ c.in_default.is)
    (subst (λ j. AreKeysBelow rule l.mapping (kids_from (map tree_of l.kids.items)) name span
    (b.whole fn) (λ R. IsInternal rule (tree_of n) R maps) j (b.work fn)
    (b.work c.loop-child.leaves) before c.loop-child.out) end c.loop-child.invariant.found)
