use Rattle.std.proofs.Common.{◌≡◌, ◌≤◌, ◌+◌, ◌*◌, ◌++◌, ◌∷◌, ◌∙◌, [], List, sym, ap, subst, rules}
use Rattle.std.specs.Prelude.{Bool, filter}
use Rattle.std.specs.Vec.Iter.{into_iter_items}
use Rattle.gx_model.specs.States.{Row}
use Rattle.gx_walks.specs.Walks.{back_legs, comes_back, met, all_met}
use Rattle.gx_walks.proofs.StepLemmas.{one_walked, row_kept, row_dropped, pushed}
use Rattle.gx_walks.proofs.back.keep_led.Goals as goal

pub loop-row-preserved-in-Continue-branch-2 : goal.loop-row-preserved-in-Continue-branch-2
loop-row-preserved-in-Continue-branch-2 g c =
    let r = g.R.LinkReader in
    let laws = g.met.R.LinkReader in
    let inv = c.loop-row.invariant in
    let first = c.args.first.now in
    let legs = c.args.legs.now in
    let back = back_legs first legs in
    let row = c.in-Some.row in
    let rest = into_iter_items c.next.new.self in
    let one = c.in_ok-leads_back.ensures in
    let given : into_iter_items c.loop-row.row-iterator ≡ row ∷ rest = c.in-Some.ensures.steps.0 in
    let still = c.in_ok-or_stop.ensures.still in
    let kept : c.push.new.self.items ≡ c.loop-row.kept.items ++ row ∷ [] =
    pushed c.push.result _ c.push.new.self.items (c.loop-row.kept.items ++ row ∷ [])
    c.loop-row.kept.items c.in_ok-or_stop.ensures.same c.push.ensures.items in
    record {
      many = search rules;
      set = λ s holds.
          let test : Row → Bool = comes_back s first legs in
          row_kept test c.loop-row.kept.items c.push.new.self.items rest row
          (sym (one.led s (laws.keeps_state _ _ s inv.calls holds)) ∙ c.if-branch.true) kept
          ∙ ap (λ (l : List Row). c.loop-row.kept.items ++ filter test l) (sym given)
          ∙ inv.set s holds;
      steps = λ s costs holds price found.
          let most = r.work c.args.reader.now + 2 * all_met s back c.args.rows.items * costs.look_up in
          subst (λ (q : _). r.work q + 2 * all_met s back rest * costs.look_up ≤ most) (sym still)
          (one_walked (r.work c.loop-row.reader) (r.work c.leads_back.new.reader)
          (met s back (row ∷ [])) (all_met s back rest) most costs.look_up
          (subst (λ (l : List Row). r.work c.loop-row.reader + 2 * all_met s back l * costs.look_up
          ≤ most) given (inv.steps s costs holds price found))
          (one.steps s costs (laws.keeps_state _ _ s inv.calls holds)
          (laws.keeps_costs _ _ s costs inv.calls price) found));
      calls = laws.in_turn _ _ _ _ inv.calls
          (laws.in_turn _ _ _ _ one.calls c.in_ok-or_stop.ensures.calls);
    }

pub loop-row-preserved : goal.loop-row-preserved
loop-row-preserved g c =
    let r = g.R.LinkReader in
    let laws = g.met.R.LinkReader in
    let inv = c.loop-row.invariant in
    let first = c.args.first.now in
    let legs = c.args.legs.now in
    let back = back_legs first legs in
    let row = c.in-Some.row in
    let rest = into_iter_items c.next.new.self in
    let one = c.in_ok-leads_back.ensures in
    let given : into_iter_items c.loop-row.row-iterator ≡ row ∷ rest = c.in-Some.ensures.steps.0 in
    record {
      many = search rules;
      set = λ s holds.
          let test : Row → Bool = comes_back s first legs in
          row_dropped test c.loop-row.kept.items rest row
          (sym (one.led s (laws.keeps_state _ _ s inv.calls holds)) ∙ c.if-branch.false)
          ∙ ap (λ (l : List Row). c.loop-row.kept.items ++ filter test l) (sym given)
          ∙ inv.set s holds;
      steps = λ s costs holds price found.
          let most = r.work c.args.reader.now + 2 * all_met s back c.args.rows.items * costs.look_up in
          one_walked (r.work c.loop-row.reader) (r.work c.leads_back.new.reader)
          (met s back (row ∷ [])) (all_met s back rest) most costs.look_up
          (subst (λ (l : List Row). r.work c.loop-row.reader + 2 * all_met s back l * costs.look_up
          ≤ most) given (inv.steps s costs holds price found))
          (one.steps s costs (laws.keeps_state _ _ s inv.calls holds)
          (laws.keeps_costs _ _ s costs inv.calls price) found);
      calls = laws.in_turn _ _ _ _ inv.calls one.calls;
    }

pub leads_back-requires-clause-serving : goal.leads_back-requires-clause-serving
leads_back-requires-clause-serving g c =
    g.met.R.LinkReader.at_rest _ _ c.loop-row.invariant.calls

pub or_stop-requires-clause-serving : goal.or_stop-requires-clause-serving
or_stop-requires-clause-serving g c =
    g.met.R.LinkReader.at_rest _ _ c.in_ok-leads_back.ensures.calls
