use Rattle.std.proofs.Common.{◌≡◌, ◌+◌, ◌<◌, ◌∷◌, length, map, ap, refl, arith}
use Rattle.std.specs.Prelude.{not}
use Rattle.std.proofs.lemmas.List.{length-map}
use Rattle.std.specs.Vec.Iter.{into_iter_items, into_iter_len}
use Rattle.gx_laws.proofs.ListLemmas.{turned_at}
use Rattle.gx_entries.proofs.GroupLemmas.{chosen_step}
use Rattle.gx_entries.proofs.groups.grouped.Goals as goal

pub loop-value-preserved : goal.loop-value-preserved
loop-value-preserved c =
    let inv = c.loop-value.invariant in
    let mask = c.args.mask.now in
    let i = c.loop-value.at in
    let v = c.in-Some.value in
    let steps : into_iter_items c.loop-value.value-iterator ≡ v ∷ into_iter_items c.next.new.self =
    c.in-Some.ensures.steps.0 in
    let many : into_iter_len c.next.new.self ≡ length (into_iter_items c.next.new.self) = let was =
    inv.many in let gone = c.in-Some.ensures.steps.1 in let short = ap length steps in omega
    arith in
    let lt : i < length mask = omega (arith, inv.left, ap length steps) in
    let both = c.in_ok-push_either.ensures in
    record {
      many = many;
      left = omega (arith, inv.left, ap length steps);
      first = chosen_step mask i (i + 1) _ v _ _ _ _ _ lt refl refl steps both.first inv.first;
      others = chosen_step (map not mask) i (i + 1) _ v _ _ _ _ _
          (omega (arith, lt, length-map mask not)) refl (turned_at mask i _ lt refl) steps
          both.others inv.others;
    }
