use Rattle.std.proofs.Common.{◌≡◌, ◌∙◌, ◌∷◌, ◌++◌, List, inl, inr, refl, ap, sym, subst, arith, rules, map, length}
use Rattle.std.specs.Vec.Iter.{into_iter_items, into_iter_len}
use Rattle.std.specs.List.{flat_map}
use Rattle.std.proofs.lemmas.Result.{on_ok_weaker}
use Rattle.gx_mapping.specs.declared.parts.Part.{Part}
use Rattle.gx_mapping.specs.Rule.{In, IsOf, IsWhole, IsBody}
use Rattle.gx_gather.proofs.Made.{nothing_left}
use Rattle.gx_stack.specs.Tree.{layer, entries_of, kid_entries, tree_form}
use Rattle.gx_stack.specs.Seen.{tree_of, kids_from}
use Rattle.gx_stack.proofs.Seen.{seen_layer, layer_form, layer_part, child_there, child_valid, kid_lower, kid_entries_at, entries_so_far, entries_out}
use Rattle.gx_stack.proofs.KeptLemmas.{whole_child, whole_others, whole_entries}
use Rattle.gx_stack.proofs.BodyNode.{body_part, body_leaf, body_leaf_out, body_out}
use Rattle.gx_stack.proofs.node.Node.+into_entries.Goals.{in-Some-2+in_ok-into_entries-in-Some-2+else-is_one_part, in-None+in_ok-parts-in-None}
use Rattle.gx_stack.proofs.node.Node.+into_entries.Goals as goal

pub index-first-requires-in-Some-2 : goal.index-first-requires-in-Some-2
index-first-requires-in-Some-2 g t c =
    let m = g.M.Mapping in
    let l = c.in-Layer.layer in
    let n = c.args.self.now in
    let rec = c.args.rec in
    let whole = c.in-Some-2.whole in
    let is = subst (IsWhole (m.rule l.mapping) rec) c.in-Some-2.is c.in_ok-whole-in-Layer.ensures in
    let fits = subst (λ f. IsOf f rec) (layer_form m.rule n l c.in-Layer.is) c.requires.of_form in
    let child = whole_child (g.met.M.Mapping.laws l.mapping) rec whole fits is in
    omega (
      arith,
      child_there m.rule n l c.in-Layer.is whole.child c.requires.valid
          child.0,
      l.kids.ok.0,
    )

pub into_entries-requires-in-Some-2 : goal.into_entries-requires-in-Some-2
into_entries-requires-in-Some-2 g t c κs within =
    let m = g.M.Mapping in
    let l = c.in-Layer.layer in
    let n = c.args.self.now in
    let rec = c.args.rec in
    let whole = c.in-Some-2.whole in
    let is = subst (IsWhole (m.rule l.mapping) rec) c.in-Some-2.is c.in_ok-whole-in-Layer.ensures in
    let fits = subst (λ f. IsOf f rec) (layer_form m.rule n l c.in-Layer.is) c.requires.of_form in
    let child = whole_child (g.met.M.Mapping.laws l.mapping) rec whole fits is in
    let k = c.index-first-in-Some-2.result.now in
    let read = c.index-first-in-Some-2.ensures in
    let there = child_there m.rule n l c.in-Layer.is whole.child c.requires.valid child.0 in
    let v = child_valid m.rule n l c.in-Layer.is whole.child k c.requires.valid there read in (
      omega (arith, kid_lower m.rule n l c.in-Layer.is whole.child k there read, c.decreases),
      (search rules, (v.1, subst (λ f. IsOf f rec) (sym v.0) child.1)),
    )

pub loop-part-init : goal.loop-part-init
loop-part-init g t c =
    let m = g.M.Mapping in
    let l = c.in-Layer.layer in
    let n = c.args.self.now in
    let rec = c.args.rec in
    let ks = kids_from (map tree_of l.kids.items) in
    let was = c.args.out.now.items in
    let out = c.match-branch-9.out.items in
    let items : into_iter_items c.into_iter-part-iterator.result ≡ c.match-branch-9.parts =
    search rules in
    let many : into_iter_len c.into_iter-part-iterator.result ≡ length
    (into_iter_items c.into_iter-part-iterator.result) = search rules in
    let all : entries_of m.rule (layer l.mapping ks) rec ≡ entries_of m.rule (tree_of n) rec =
    sym (ap (λ x. entries_of m.rule x rec) (seen_layer n l c.in-Layer.is)) in
    elim c.match-branch-9.branch [
      | in-Some-2+in_ok-into_entries-in-Some-2+else-is_one_part w ↦ (
          let whole = w.in-Some-2.whole in
          let is = subst (IsWhole (m.rule l.mapping) rec) w.in-Some-2.is
          c.in_ok-whole-in-Layer.ensures in
          let fits = subst (λ f. IsOf f rec) (layer_form m.rule n l c.in-Layer.is)
          c.requires.of_form in
          let child = whole_child (g.met.M.Mapping.laws l.mapping) rec whole fits is in
          let k = w.index-first-in-Some-2.result.now in
          let there = child_there m.rule n l c.in-Layer.is whole.child c.requires.valid child.0 in
          let same = kid_entries_at m.rule l.kids.items whole.child k rec there
          ∙ ap (λ x. entries_of m.rule (tree_of x) rec) (sym w.index-first-in-Some-2.ensures) in
          let parts : into_iter_items c.into_iter-part-iterator.result ≡ whole.others =
          items ∙ w.parts-is in
          let new : out ≡ was ++ entries_of m.rule (tree_of k) rec = ap (λ o. o.items) w.out-is
          ∙ w.in_ok-into_entries-in-Some-2.ensures in
          record {
            many = many;
            among = λ p h. whole_others (m.rule l.mapping) rec whole is p
                (subst (λ (ps : List Part). In p ps) parts h);
            so_far = ap (λ (ps : List Part). out
                ++ flat_map (λ (p : Part). kid_entries m.rule ks p.child p.rec) ps) parts
                ∙ whole_entries m.rule l.mapping ks rec whole was out
                (entries_of m.rule (tree_of k) rec) is same new ∙ ap (λ es. was ++ es) all;
          })
      | in-None+in_ok-parts-in-None w ↦ (
          let parts : into_iter_items c.into_iter-part-iterator.result ≡ (m.rule l.mapping).parts
          rec = items ∙ w.parts-is ∙ w.in_ok-parts-in-None.ensures in
          let same : out ≡ was = ap (λ o. o.items) w.out-is in
          record {
            many = many;
            among = λ p h. subst (λ (ps : List Part). In p ps) parts h;
            so_far = ap (λ (ps : List Part). out
                ++ flat_map (λ (p : Part). kid_entries m.rule ks p.child p.rec) ps) parts
                ∙ ap (λ es. es ++ entries_of m.rule (layer l.mapping ks) rec) same
                ∙ ap (λ es. was ++ es) all;
          })
    ]

pub returns-then-is_one_part : goal.returns-then-is_one_part
returns-then-is_one_part g t c =
    let m = g.M.Mapping in
    let l = c.in-Layer.layer in
    let n = c.args.self.now in
    let rec = c.args.rec in
    let ks = kids_from (map tree_of l.kids.items) in
    let was = c.args.out.now.items in
    let whole = c.in-Some-2.whole in
    let is = subst (IsWhole (m.rule l.mapping) rec) c.in-Some-2.is
    c.in_ok-whole-in-Layer.ensures in
    let fits = subst (λ f. IsOf f rec) (layer_form m.rule n l c.in-Layer.is) c.requires.of_form in
    let child = whole_child (g.met.M.Mapping.laws l.mapping) rec whole fits is in
    let k = c.index-first-in-Some-2.result.now in
    let there = child_there m.rule n l c.in-Layer.is whole.child c.requires.valid child.0 in
    let same = kid_entries_at m.rule l.kids.items whole.child k rec there
    ∙ ap (λ x. entries_of m.rule (tree_of x) rec) (sym c.index-first-in-Some-2.ensures) in
    let out = c.into_entries-in-Some-2.new.out.items in
    let none = c.is_one_part.ensures c.if-is_one_part.true in
    let all : entries_of m.rule (layer l.mapping ks) rec ≡ entries_of m.rule (tree_of n) rec =
    sym (ap (λ x. entries_of m.rule x rec) (seen_layer n l c.in-Layer.is)) in
    entries_out (λ (p : Part). kid_entries m.rule ks p.child p.rec) whole.others out _ none
    (whole_entries m.rule l.mapping ks rec whole was out (entries_of m.rule (tree_of k) rec) is same
    c.in_ok-into_entries-in-Some-2.ensures ∙ ap (λ es. was ++ es) all)

pub index-kid-requires : goal.index-kid-requires
index-kid-requires g t c =
    let m = g.M.Mapping in
    let l = c.in-Layer.layer in
    let p = c.in-Some-part.part in
    let there = c.loop-part.invariant.among p
    (subst (λ (ps : List Part). In p ps) (sym c.in-Some-part.ensures.steps.0) (inl refl)) in
    let part = layer_part m.rule c.args.self.now l c.in-Layer.is (g.met.M.Mapping.laws l.mapping)
    c.args.rec p c.requires.valid c.requires.of_form there in
    omega (arith, part.0, l.kids.ok.0)

pub into_entries-requires-in-loop-part : goal.into_entries-requires-in-loop-part
into_entries-requires-in-loop-part g t c κs within =
    let m = g.M.Mapping in
    let l = c.in-Layer.layer in
    let p = c.in-Some-part.part in
    let there = c.loop-part.invariant.among p
    (subst (λ (ps : List Part). In p ps) (sym c.in-Some-part.ensures.steps.0) (inl refl)) in
    let part = layer_part m.rule c.args.self.now l c.in-Layer.is (g.met.M.Mapping.laws l.mapping)
    c.args.rec p c.requires.valid c.requires.of_form there in
    let k = c.index-kid.result.now in
    let both = part.1 k c.index-kid.ensures in (
      omega (
        arith,
        kid_lower m.rule c.args.self.now l c.in-Layer.is p.child k part.0
            c.index-kid.ensures,
        c.decreases,
      ),
      (search rules, (both.0, both.1)),
    )

pub loop-part-preserved : goal.loop-part-preserved
loop-part-preserved g t c =
    let m = g.M.Mapping in
    let l = c.in-Layer.layer in
    let p = c.in-Some-part.part in
    let there = c.loop-part.invariant.among p
    (subst (λ (ps : List Part). In p ps) (sym c.in-Some-part.ensures.steps.0) (inl refl)) in
    let part = layer_part m.rule c.args.self.now l c.in-Layer.is (g.met.M.Mapping.laws l.mapping)
    c.args.rec p c.requires.valid c.requires.of_form there in
    let k = c.index-kid.result.now in
    let rest = into_iter_items c.next.new.self in
    let steps : into_iter_items c.loop-part.part-iterator ≡ p ∷ into_iter_items c.next.new.self =
    c.in-Some-part.ensures.steps.0 in
    let many : into_iter_len c.next.new.self ≡ length (into_iter_items c.next.new.self) = let was =
    c.loop-part.invariant.many in let gone = c.in-Some-part.ensures.steps.1 in let short =
    ap length steps in omega arith in
    record {
      many = many;
      among = λ q h. c.loop-part.invariant.among q
          (subst (λ (ps : List Part). In q ps) (sym steps) (inr h));
      so_far = entries_so_far
          (λ q. kid_entries m.rule (kids_from (map tree_of l.kids.items)) q.child q.rec)
          (into_iter_items c.loop-part.part-iterator) rest p c.loop-part.out.items
          c.into_entries-in-loop-part.new.out.items (entries_of m.rule (tree_of k) p.rec) _
          steps
          (kid_entries_at m.rule l.kids.items p.child k p.rec part.0
          ∙ ap (λ n. entries_of m.rule (tree_of n) p.rec) (sym c.index-kid.ensures))
          c.in_ok-into_entries-in-Layer.ensures c.loop-part.invariant.so_far;
    }

pub returns-in-None-part : goal.returns-in-None-part
returns-in-None-part g t c =
    let none = nothing_left _ (sym c.in-None-part.ensures.steps.0 ∙ c.loop-part.invariant.many) in
    entries_out (λ q. kid_entries g.M.Mapping.rule
    (kids_from (map tree_of c.in-Layer.layer.kids.items)) q.child q.rec)
    (into_iter_items c.loop-part.part-iterator) c.loop-part.out.items _ none
    c.loop-part.invariant.so_far

-- ---- the body of the record

pub index-first-requires : goal.index-first-requires
index-first-requires g t c =
    let m = g.M.Mapping in
    let l = c.in-Layer.layer in
    let of_body = subst (IsBody (m.rule l.mapping) c.args.rec) c.in-Some.is
    c.in_ok-body-in-Layer.ensures in
    let part = body_part m.rule c.args.self.now l c.in-Layer.is c.requires.valid c.args.rec
    c.requires.of_form (g.met.M.Mapping.laws l.mapping) c.in-Some.body of_body in
    omega (arith, part.0, l.kids.ok.0)

pub body_entry-requires-clause-form : goal.body_entry-requires-clause-form
body_entry-requires-clause-form g t c =
    let m = g.M.Mapping in
    let l = c.in-Layer.layer in
    let of_body = subst (IsBody (m.rule l.mapping) c.args.rec) c.in-Some.is
    c.in_ok-body-in-Layer.ensures in
    let both = body_leaf m.rule c.args.self.now l c.in-Layer.is c.requires.valid c.args.rec
    c.requires.of_form (g.met.M.Mapping.laws l.mapping) c.in-Some.body of_body
    c.index-first.result.now c.in-Leaf-first.node c.index-first.ensures c.in-Leaf-first.is in
    both.0

pub body_entry-requires-clause-of_form : goal.body_entry-requires-clause-of_form
body_entry-requires-clause-of_form g t c =
    let m = g.M.Mapping in
    let l = c.in-Layer.layer in
    let of_body = subst (IsBody (m.rule l.mapping) c.args.rec) c.in-Some.is
    c.in_ok-body-in-Layer.ensures in
    let both = body_leaf m.rule c.args.self.now l c.in-Layer.is c.requires.valid c.args.rec
    c.requires.of_form (g.met.M.Mapping.laws l.mapping) c.in-Some.body of_body
    c.index-first.result.now c.in-Leaf-first.node c.index-first.ensures c.in-Leaf-first.is in
    both.1

pub returns-in-Leaf-first : goal.returns-in-Leaf-first
returns-in-Leaf-first g t c =
    let m = g.M.Mapping in
    let l = c.in-Layer.layer in
    let of_body = subst (IsBody (m.rule l.mapping) c.args.rec) c.in-Some.is
    c.in_ok-body-in-Layer.ensures in
    body_leaf_out m.rule c.args.self.now l c.in-Layer.is c.requires.valid c.args.rec
    c.requires.of_form (g.met.M.Mapping.laws l.mapping) c.in-Some.body of_body
    c.index-first.result.now c.in-Leaf-first.node c.index-first.ensures c.in-Leaf-first.is
    c.args.out.now.items c.push-in-Leaf-first.new.self.items c.in_ok-body_entry-in-Layer.field-0
    c.in_ok-body_entry-in-Layer.ensures c.in_ok-push-in-Layer.ensures.items

pub returns-in-Some : goal.returns-in-Some
returns-in-Some g t c =
    let m = g.M.Mapping in
    let l = c.in-Layer.layer in
    let of_body = subst (IsBody (m.rule l.mapping) c.args.rec) c.in-Some.is
    c.in_ok-body-in-Layer.ensures in
    let made = c.in_ok-body_record-in-Layer.ensures in
    let b = c.in_ok-body_record-in-Layer.field-0 in
    on_ok_weaker c.into_entries.result
    (body_out m.rule c.args.self.now l c.in-Layer.is c.requires.valid c.args.rec
    c.requires.of_form (g.met.M.Mapping.laws l.mapping) c.in-Some.body of_body
    c.index-first.result.now c.index-first.ensures c.args.out.now.items
    c.into_entries.new.out.items b made) c.into_entries.ensures

pub into_entries-requires : goal.into_entries-requires
into_entries-requires g t c κs within =
    let m = g.M.Mapping in
    let l = c.in-Layer.layer in
    let of_body = subst (IsBody (m.rule l.mapping) c.args.rec) c.in-Some.is
    c.in_ok-body-in-Layer.ensures in
    let part = body_part m.rule c.args.self.now l c.in-Layer.is c.requires.valid c.args.rec
    c.requires.of_form (g.met.M.Mapping.laws l.mapping) c.in-Some.body of_body in
    let kid = part.1 c.index-first.result.now c.index-first.ensures in
    let made = c.in_ok-body_record-in-Layer.ensures in
    let low = kid_lower m.rule c.args.self.now l c.in-Layer.is 0 c.index-first.result.now part.0
    c.index-first.ensures in
    let of_kid = subst (IsOf (tree_form m.rule (tree_of c.index-first.result.now))) (sym made) kid.1
    in
    (omega (arith, low, c.decreases), (search rules, (kid.0, of_kid)))
