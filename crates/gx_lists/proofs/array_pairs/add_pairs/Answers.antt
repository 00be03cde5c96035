use Rattle.std.proofs.Common.{rules, ◌≡◌, ◌++◌, ◌∷◌, [], List, ◌∙◌, ap, sym, map, append_assoc}
use Rattle.std.specs.Vec.Iter.{into_iter_items}
use Rattle.gx_values.specs.declared.values.Value.{Value}
use Rattle.gx_links.specs.Owners.{pair_with}
use Rattle.gx_lists.proofs.array_pairs.add_pairs.Goals as goal

pub loop-member-preserved : goal.loop-member-preserved
loop-member-preserved c =
    let at = c.loop-member in
    let owner = c.args.owner.now in
    let member = c.in-Some.member in
    let old = at.pairs-inside.0.items in
    let steps : into_iter_items at.member-iterator ≡ member ∷ into_iter_items c.next.new.self =
    c.in-Some.ensures.steps.0 in
    let rest = map (pair_with owner) (into_iter_items c.next.new.self) in
    record {
      many = search rules;
      so_far = ap (λ (zs : List (Value × Value)). zs ++ rest) c.in_ok-push.ensures.items
          ∙ append_assoc old ((member, c.in_ok-copy.field-0) ∷ []) rest
          ∙ ap (λ (o : Value). old ++ (member, o) ∷ rest) c.in_ok-copy.ensures
          ∙ ap (λ zs. old ++ map (pair_with owner) zs) (sym steps)
          ∙ at.invariant.so_far;
    }
