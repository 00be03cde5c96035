use Rattle.std.proofs.Common.{rules, ◌≡◌, ◌∙◌, [], ap, sym, subst}
use Rattle.std.specs.List.Sorted.{IsPermutation}
use Rattle.std.specs.Vec.Iter.{into_iter_items}
use Rattle.gx_gather.proofs.Made.{nothing_left}
use Rattle.gx_mapping.specs.Rule.{In}
use Rattle.gx_links.specs.Owners.{AreOwners, pairs_of}
use Rattle.gx_links.proofs.OwnerLemmas.{with_pairs, all_pairs, owners_from, groups_from}
use Rattle.gx_links.proofs.owners.owners_of.Goals as goal

pub returns : goal.returns
returns c =
    let at = c.loop-pair in
    let given = c.args.pairs.now in
    let ps = c.sort_by_owner.new.pairs.items in
    let view : c.sorted.inside.0.items ≡ given = search rules in
    let perm = subst (λ zs. IsPermutation zs ps) view c.sort_by_owner.ensures.those in
    let first : into_iter_items c.into_iter-pair-iterator.result ≡ ps = search rules in
    let none = nothing_left (into_iter_items at.pair-iterator) (let many = at.invariant.many in
    let steps = c.in-None.ensures.steps in search rules) in
    let made : at.owners.items ≡ with_pairs [] ps = sym (ap (with_pairs at.owners.items) none)
    ∙ at.invariant.so_far ∙ ap (with_pairs []) first in
    record {
      owners = λ link is. subst (AreOwners link) (sym made)
          (owners_from link given ps is perm c.in_ok-sort_by_owner.ensures.in_order);
      pairs = λ g h. groups_from given ps g perm (subst (In g) made h);
      all = subst (λ gs. IsPermutation given (pairs_of gs)) (sym made)
          (subst (IsPermutation given) (sym (all_pairs [] ps)) perm);
    }
