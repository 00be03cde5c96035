use Rattle.std.proofs.Common.{◌≡◌, ◌<◌, ◌∙◌, ◌∷◌, [], ◌++◌, Err, true, false, refl, rules, ap, sym, subst, length, append_assoc, append-nil, arith}
use Rattle.std.specs.Vec.Iter.{into_iter_items, into_iter_len}
use Rattle.std.proofs.lemmas.Result.{on_ok_weaker, err_from_is_err_and}
use Rattle.gx_gather.specs.Gather.{AreAlike, is_next}
use Rattle.gx_gather.proofs.Orders.{rises, gather_total}
use Rattle.gx_gather.proofs.Made.{IsGathering, of_key, nothing_left, next_some, group_of_key, gathering_begins, gathering_whole, gathering_grows, gathering_next, gathering_empty, gathering_ends, unmade_next, unmade_last}
use Rattle.gx_gather.proofs.gather.gather_sorted.Goals.{then-begins_next+in_ok-gather_group, else-begins_next}
use Rattle.gx_gather.proofs.gather.gather_sorted.Goals as goal

pub gather_group-requires-clause-of_key : goal.gather_group-requires-clause-of_key
gather_group-requires-clause-of_key g c =
    let parts : c.deref.result.now ≡ c.args.parts = search rules in
    let some : 0 < length c.args.parts =
    subst (λ ps. 0 < length ps) parts (c.is_one_group.ensures.some c.if-is_one_group.true) in
    let alike = subst (AreAlike c.args.width) parts
    (c.is_one_group.ensures.alike c.if-is_one_group.true) in
    of_key (g.met.M.Mapping.laws c.args.mapping.now) c.args.width c.requires.width c.args.parts
    c.requires.parts some alike

pub returns-then-is_one_group-clause-made : goal.returns-then-is_one_group-clause-made
returns-then-is_one_group-clause-made g c =
    let parts : c.deref.result.now ≡ c.args.parts = search rules in
    let some : 0 < length c.args.parts =
    subst (λ ps. 0 < length ps) parts (c.is_one_group.ensures.some c.if-is_one_group.true) in
    let alike = subst (AreAlike c.args.width) parts
    (c.is_one_group.ensures.alike c.if-is_one_group.true) in
    let laws = g.met.M.Mapping.laws c.args.mapping.now in
    let out = c.args.out.now in
    on_ok_weaker c.gather_group.result (λ made.
    gathering_ends laws c.args.width c.requires.width c.args.parts out out c.gather_group.new.out
    c.args.parts [] made.0 refl some made.1 made.2
    (gathering_whole laws c.args.width c.requires.width c.args.parts out alike))
    c.gather_group.ensures.made

pub returns-then-is_one_group-clause-damaged : goal.returns-then-is_one_group-clause-damaged
returns-then-is_one_group-clause-damaged g c = λ block e.
    let parts : c.deref.result.now ≡ c.args.parts = search rules in
    let some : 0 < length c.args.parts =
    subst (λ ps. 0 < length ps) parts (c.is_one_group.ensures.some c.if-is_one_group.true) in
    let alike = subst (AreAlike c.args.width) parts
    (c.is_one_group.ensures.alike c.if-is_one_group.true) in
    let laws = g.met.M.Mapping.laws c.args.mapping.now in
    let out = c.args.out.now in
    unmade_last laws c.args.width c.requires.width c.args.parts out out c.args.parts [] refl some
    (c.gather_group.ensures.damaged block e)
    (gathering_whole laws c.args.width c.requires.width c.args.parts out alike)

pub loop-part-init : goal.loop-part-init
loop-part-init g c =
    let rule = g.M.Mapping.rule c.args.mapping.now in
    let out = c.args.out.now in
    let given : into_iter_items c.into_iter-part-iterator.result ≡ c.args.parts = search rules in
    record {
      many = search rules;
      so_far = subst (λ gs. IsGathering rule c.args.width c.args.parts out out gs
          (into_iter_items c.into_iter-part-iterator.result)) (sym c.new.ensures.items)
          (subst (IsGathering rule c.args.width c.args.parts out out []) (sym given)
          (gathering_begins (g.met.M.Mapping.laws c.args.mapping.now) c.args.width
          c.requires.width c.args.parts out));
      front = ([], sym (append-nil out));
    }

pub gather_group-requires-then-begins_next-clause-of_key :
    goal.gather_group-requires-then-begins_next-clause-of_key
gather_group-requires-then-begins_next-clause-of_key g c =
    let at = c.loop-part in
    let same : c.deref-in-loop-part.result.now ≡ at.group = search rules in
    let next : is_next c.args.width at.group c.in-Some.part ≡ true =
    ap (λ gs. is_next c.args.width gs c.in-Some.part) (sym same) ∙ sym c.begins_next.ensures
    ∙ c.if-begins_next.true in
    group_of_key (g.met.M.Mapping.laws c.args.mapping.now) c.args.width c.requires.width
    c.args.parts c.args.out.now at.out at.group (into_iter_items at.part-iterator)
    c.requires.parts at.invariant.so_far
    (next_some c.args.width at.group c.in-Some.part next)

pub returns-in_err-gather_group-clause-damaged : goal.returns-in_err-gather_group-clause-damaged
returns-in_err-gather_group-clause-damaged g c = λ block e.
    let at = c.loop-part in
    let q = c.in-Some.part in
    let width = c.args.width in
    let ps = c.args.parts in
    let p = err_from_is_err_and c.from_residual.result c.from_residual.ensures.1 in
    let same : c.deref-in-loop-part.result.now ≡ at.group = search rules in
    let next : is_next width at.group q ≡ true = ap (λ gs. is_next width gs q) (sym same)
    ∙ sym c.begins_next.ensures ∙ c.if-begins_next.true in
    let steps : into_iter_items at.part-iterator ≡ q ∷ into_iter_items c.next.new.self =
    c.in-Some.ensures.steps.0 in
    let so_far = subst (IsGathering (g.M.Mapping.rule c.args.mapping.now) width ps c.args.out.now
    at.out at.group) steps at.invariant.so_far in
    unmade_next (g.met.M.Mapping.laws c.args.mapping.now) width c.requires.width ps c.args.out.now
    at.out at.group (into_iter_items c.next.new.self) q
    (rises (gather_total width) ps c.requires.in_order) (next_some width at.group q next)
    next
    (c.in_err-gather_group.ensures.damaged block (sym (p.1 ∙ ap Err p.2) ∙ e)) so_far

pub returns-in_err-push-clause-front : goal.returns-in_err-push-clause-front
returns-in_err-push-clause-front g c =
    let front = c.loop-part.invariant.front in
    elim c.if-begins_next.branch [
      | then-begins_next+in_ok-gather_group w ↦ (
          let made = w.in_ok-gather_group.ensures.made in (
            front.0 ++ made.0 ∷ [],
            w.out-is ∙ made.1 ∙ ap (λ zs. zs ++ made.0 ∷ []) front.1
                ∙ append_assoc c.args.out.now front.0 (made.0 ∷ []),
          ))
      | else-begins_next w ↦ (front.0, w.out-is ∙ front.1)
    ]

pub loop-part-preserved : goal.loop-part-preserved
loop-part-preserved g c =
    let at = c.loop-part in
    let q = c.in-Some.part in
    let width = c.args.width in
    let ps = c.args.parts in
    let out = c.args.out.now in
    let rest = into_iter_items c.next.new.self in
    let rule = g.M.Mapping.rule c.args.mapping.now in
    let laws = g.met.M.Mapping.laws c.args.mapping.now in
    let same : c.deref-in-loop-part.result.now ≡ at.group = search rules in
    let steps : into_iter_items at.part-iterator ≡ q ∷ into_iter_items c.next.new.self =
    c.in-Some.ensures.steps.0 in
    let so_far = subst (IsGathering rule width ps out at.out at.group) steps at.invariant.so_far in
    let many : into_iter_len c.next.new.self ≡ length (into_iter_items c.next.new.self) = let was =
    at.invariant.many in let gone = c.in-Some.ensures.steps.1 in let short = ap length steps in
    omega arith in
    let front = at.invariant.front in
    elim c.if-begins_next.branch [
      | then-begins_next+in_ok-gather_group w ↦ (
          let next : is_next width at.group q ≡ true = ap (λ gs. is_next width gs q) (sym same)
          ∙ sym c.begins_next.ensures ∙ w.if-begins_next.true in
          let made = w.in_ok-gather_group.ensures.made in
          let group : c.push.new.self.items ≡ q ∷ [] = c.in_ok-push.ensures.items
          ∙ ap (λ zs. zs ++ q ∷ []) (c.group-in-loop-part.view_is ∙ w.group-is
          ∙ w.clear.ensures.items) in
          record {
            many = many;
            so_far = subst (λ gs. IsGathering rule width ps out c.if-begins_next.out gs rest)
                (sym group)
                (gathering_next laws width c.requires.width ps out at.out c.if-begins_next.out
                at.group rest q made.0 (rises (gather_total width) ps c.requires.in_order)
                (next_some width at.group q next) next (w.out-is ∙ made.1) made.2 so_far);
            front = (
              front.0 ++ made.0 ∷ [],
              w.out-is ∙ made.1
                  ∙ ap (λ zs. zs ++ made.0 ∷ []) front.1 ∙ append_assoc out front.0 (made.0 ∷ []),
            );
          })
      | else-begins_next w ↦ (
          let next : is_next width at.group q ≡ false = ap (λ gs. is_next width gs q) (sym same)
          ∙ sym c.begins_next.ensures ∙ w.if-begins_next.false in
          let group : c.push.new.self.items ≡ at.group ++ q ∷ [] = c.in_ok-push.ensures.items
          ∙ ap (λ zs. zs ++ q ∷ []) (c.group-in-loop-part.view_is ∙ w.group-is) in
          record {
            many = many;
            so_far = subst (λ gs. IsGathering rule width ps out c.if-begins_next.out gs rest)
                (sym group)
                (subst (λ o. IsGathering rule width ps out o (at.group ++ q ∷ []) rest)
                (sym w.out-is) (gathering_grows laws width c.requires.width ps out at.out
                at.group rest q next so_far));
            front = (front.0, w.out-is ∙ front.1);
          })
    ]

pub returns-then-is_empty-clause-made : goal.returns-then-is_empty-clause-made
returns-then-is_empty-clause-made g c =
    let at = c.loop-part in
    let empty : 0 ≡ length at.group = search rules in
    gathering_empty (g.met.M.Mapping.laws c.args.mapping.now) c.args.width c.requires.width
    c.args.parts c.args.out.now at.out at.group (into_iter_items at.part-iterator)
    (nothing_left _ (sym c.in-None.ensures.steps.0 ∙ at.invariant.many)) empty
    at.invariant.so_far

pub gather_group-requires-2-clause-of_key : goal.gather_group-requires-2-clause-of_key
gather_group-requires-2-clause-of_key g c =
    let at = c.loop-part in
    let some : 0 < length at.group = search rules in
    group_of_key (g.met.M.Mapping.laws c.args.mapping.now) c.args.width c.requires.width
    c.args.parts c.args.out.now at.out at.group (into_iter_items at.part-iterator)
    c.requires.parts at.invariant.so_far some

pub returns-clause-made : goal.returns-clause-made
returns-clause-made g c =
    let at = c.loop-part in
    let some : 0 < length at.group = search rules in
    on_ok_weaker c.gather_group-2.result (λ made.
    gathering_ends (g.met.M.Mapping.laws c.args.mapping.now) c.args.width c.requires.width
    c.args.parts c.args.out.now at.out c.gather_group-2.new.out at.group
    (into_iter_items at.part-iterator) made.0
    (nothing_left _ (sym c.in-None.ensures.steps.0 ∙ at.invariant.many)) some made.1
    made.2 at.invariant.so_far) c.gather_group-2.ensures.made

pub returns-clause-damaged : goal.returns-clause-damaged
returns-clause-damaged g c = λ block e.
    let at = c.loop-part in
    let some : 0 < length at.group = search rules in
    unmade_last (g.met.M.Mapping.laws c.args.mapping.now) c.args.width c.requires.width c.args.parts
    c.args.out.now at.out at.group (into_iter_items at.part-iterator)
    (nothing_left _ (sym c.in-None.ensures.steps.0 ∙ at.invariant.many)) some
    (c.gather_group-2.ensures.damaged block e) at.invariant.so_far
