use Rattle.std.proofs.Common.{rules, ◌≡◌, ◌∷◌, [], ◌++◌, true, false, not, inl, inr, refl, ap, sym, subst, ◌∙◌, append_assoc}
use Rattle.std.specs.List.{filter}
use Rattle.std.specs.Vec.Iter.{into_iter_items}
use Rattle.gx_mapping.specs.declared.parts.Part.{Part}
use Rattle.gx_mapping.specs.Rule.{In}
use Rattle.gx_stack.proofs.WholeLeaf.{filter_keeps, filter_drops}
use Rattle.gx_stack.proofs.held.add_others.Goals as goal

pub loop-part-init : goal.loop-part-init
loop-part-init g c =
    let rule = g.M.Mapping.rule c.args.mapping.now in
    let given : into_iter_items c.into_iter-part-iterator.result ≡ c.args.parts = search rules in
    let others : c.others.inside.0.items ≡ c.args.others.now = search rules in
    record {
      many = search rules;
      below = λ p h. c.requires p (subst (In p) given h);
      so_far = λ i. others i ++ filter (λ (part : Part). not (rule.holds_rest part.child))
          (given i);
    }

pub holds_rest-requires : goal.holds_rest-requires
holds_rest-requires g c =
    let steps : into_iter_items c.loop-part.part-iterator ≡ c.in-Some.part ∷ into_iter_items
    c.next.new.self = c.in-Some.ensures.steps.0 in
    c.loop-part.invariant.below c.in-Some.part (subst (In c.in-Some.part) (sym steps) (inl refl))

pub loop-part-preserved-in-Continue-1 : goal.loop-part-preserved-in-Continue-1
loop-part-preserved-in-Continue-1 g c =
    let rule = g.M.Mapping.rule c.args.mapping.now in
    let steps : into_iter_items c.loop-part.part-iterator ≡ c.in-Some.part ∷ into_iter_items
    c.next.new.self = c.in-Some.ensures.steps.0 in
    let keeps : not (rule.holds_rest c.in-Some.part.child) ≡ true = search rules in
    let more = filter_keeps (λ (part : Part). not (rule.holds_rest part.child)) c.in-Some.part
    (into_iter_items c.next.new.self) keeps in
    record {
      many = search rules;
      below = λ p h. c.loop-part.invariant.below p (subst (In p) (sym steps) (inr h));
      so_far = ap (λ zs. zs ++ filter (λ (part : Part). not (rule.holds_rest part.child))
          (into_iter_items c.next.new.self)) c.in_ok-push.ensures.items
          ∙ append_assoc c.loop-part.others-inside.0.items (c.in-Some.part ∷ [])
          (filter (λ (part : Part). not (rule.holds_rest part.child))
          (into_iter_items c.next.new.self))
          ∙ ap (λ zs. c.loop-part.others-inside.0.items ++ zs)
          (sym more ∙ ap (filter (λ (part : Part). not (rule.holds_rest part.child)))
          (sym steps))
          ∙ c.loop-part.invariant.so_far;
    }

pub loop-part-preserved : goal.loop-part-preserved
loop-part-preserved g c =
    let rule = g.M.Mapping.rule c.args.mapping.now in
    let steps : into_iter_items c.loop-part.part-iterator ≡ c.in-Some.part ∷ into_iter_items
    c.next.new.self = c.in-Some.ensures.steps.0 in
    let drops : not (rule.holds_rest c.in-Some.part.child) ≡ false = search rules in
    let more = filter_drops (λ (part : Part). not (rule.holds_rest part.child)) c.in-Some.part
    (into_iter_items c.next.new.self) drops in
    record {
      many = search rules;
      below = λ p h. c.loop-part.invariant.below p (subst (In p) (sym steps) (inr h));
      so_far = ap (λ zs. c.loop-part.others-inside.0.items ++ zs)
          (sym more ∙ ap (filter (λ (part : Part). not (rule.holds_rest part.child))) (sym steps))
          ∙ c.loop-part.invariant.so_far;
    }
