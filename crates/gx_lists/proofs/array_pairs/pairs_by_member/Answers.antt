use Rattle.std.proofs.Common.{rules, ◌≡◌, ◌++◌, ◌∷◌, ◌∙◌, List, ap, sym, append_assoc}
use Rattle.std.specs.Vec.Iter.{into_iter_items}
use Rattle.gx_values.specs.declared.values.Value.{Value}
use Rattle.gx_links.specs.declared.pairs.Owned.{Owned}
use Rattle.gx_links.specs.Owners.{pairs_under, pairs_of}
use Rattle.gx_lists.proofs.array_pairs.pairs_by_member.Goals as goal

pub loop-owned-init : goal.loop-owned-init
loop-owned-init c =
    let given : into_iter_items c.into_iter-owned-iterator.result ≡ c.args.owners = search rules in
    record {
      many = search rules;
      so_far = λ i. c.new.ensures.items i ++ pairs_of (given i);
    }

-- the pairs of one owner more
more : (old new all : List (Value × Value)) (left rest : List Owned) (g : Owned) → left ≡ g ∷ rest
    → new ≡ old ++ pairs_under g
    → old ++ pairs_of left ≡ all → new ++ pairs_of rest ≡ all
more old new all left rest g steps added so_far =
    ap (λ zs. zs ++ pairs_of rest) added ∙ append_assoc old (pairs_under g) (pairs_of rest)
    ∙ ap (λ gs. old ++ pairs_of gs) (sym steps)
    ∙ so_far

pub loop-owned-preserved : goal.loop-owned-preserved
loop-owned-preserved c =
    let at = c.loop-owned in
    let rest = into_iter_items c.next.new.self in
    let steps : into_iter_items at.owned-iterator ≡ c.in-Some.owned ∷ rest =
    c.in-Some.ensures.steps.0 in
    record {
      many = search rules;
      so_far = more at.pairs c.add_pairs.new.pairs (pairs_of c.args.owners)
          (into_iter_items at.owned-iterator) rest c.in-Some.owned steps
          c.in_ok-add_pairs.ensures at.invariant.so_far;
    }

pub loop-owned-preserved-in_ok-add_pairs : goal.loop-owned-preserved-in_ok-add_pairs
loop-owned-preserved-in_ok-add_pairs c =
    let at = c.loop-owned in
    let rest = into_iter_items c.next.new.self in
    let steps : into_iter_items at.owned-iterator ≡ c.in-Some.owned ∷ rest =
    c.in-Some.ensures.steps.0 in
    record {
      many = search rules;
      so_far = more at.pairs c.add_pairs.new.pairs (pairs_of c.args.owners)
          (into_iter_items at.owned-iterator) rest c.in-Some.owned steps
          c.in_ok-add_pairs.ensures at.invariant.so_far;
    }

pub loop-owned-preserved-in_ok-add_pairs-2 : goal.loop-owned-preserved-in_ok-add_pairs-2
loop-owned-preserved-in_ok-add_pairs-2 c =
    let at = c.loop-owned in
    let rest = into_iter_items c.next.new.self in
    let steps : into_iter_items at.owned-iterator ≡ c.in-Some.owned ∷ rest =
    c.in-Some.ensures.steps.0 in
    record {
      many = search rules;
      so_far = more at.pairs c.add_pairs.new.pairs (pairs_of c.args.owners)
          (into_iter_items at.owned-iterator) rest c.in-Some.owned steps
          c.in_ok-add_pairs.ensures at.invariant.so_far;
    }
