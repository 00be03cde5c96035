use Rattle.std.proofs.Common.{◌≡◌, ◌≤◌, ◌<◌, ◌+◌, ◌*◌, ◌++◌, ◌∙◌, ℕ, List, take, length, length-take, length-append, append_assoc, sym, ap, subst, arith, rules}
use Rattle.gx_schema.specs.declared.schema.Schema.{Schema}
use Rattle.gx_commands.specs.Paths.{link_of, file_behind}
use Rattle.gx_values.specs.declared.values.Value.{Value}
use Rattle.gx_model.specs.States.{Row}
use Rattle.gx_walks.specs.Walks.{linked, all_linked}
use Rattle.gx_walks.proofs.StepLemmas.{added, linked_more}
use Rattle.gx_walks.proofs.walking.add_all.Goals as goal

pub add_linked-requires-clause-link : goal.add_linked-requires-clause-link
add_linked-requires-clause-link g c =
    subst (λ (schema : Schema). link_of c.args.way < length schema.links)
    (sym (g.met.R.LinkReader.keeps_schema _ _ _ c.loop-row.invariant.calls)) c.requires.link

pub add_linked-requires-clause-ready : goal.add_linked-requires-clause-ready
add_linked-requires-clause-ready g c =
    g.met.R.LinkReader.stays_ready _ _ _ c.loop-row.invariant.calls c.requires.ready

pub loop-row-preserved : goal.loop-row-preserved
loop-row-preserved g c =
    let r = g.R.LinkReader in
    let laws = g.met.R.LinkReader in
    let inv = c.loop-row.invariant in
    let way = c.args.way in
    let rows = c.args.rows.now in
    let i = c.loop-row.row-index in
    let row : Row = c.row-item.result in
    let e = c.in_ok-add_linked.ensures in
    let mid = c.loop-row.reader in
    let last = c.add_linked.new.self in
    let file = file_behind (r.schema c.args.reader.now) way in
    let behind : file_behind (r.schema mid) way ≡ file =
    ap (λ (schema : Schema). file_behind schema way) (laws.keeps_schema _ _ _ inv.calls) in
    let key : c.row.inside.key ≡ row.0 = search rules in
    let lt = c.loop-row-test.true in
    record {
      found = λ s holds.
          e.found s (laws.keeps_state _ _ s inv.calls holds)
          ∙ (λ k. inv.found s holds k ++ linked s (behind k) way (key k))
          ∙ append_assoc c.args.out.now.items (all_linked s file way (take i rows))
          (linked s file way row.0)
          ∙ ap (λ (l : List Row). c.args.out.now.items ++ l)
          (sym (linked_more s file way rows i row lt c.row-item.is));
      steps = λ s costs holds price finds.
          let pairs = length (all_linked s file way (take i rows)) in
          let one = length (linked s file way row.0) in
          added (r.work c.args.reader.now) (r.work mid) (r.work last) (length (take i rows)) pairs
          one (length (take (i + 1) rows)) (length (all_linked s file way (take (i + 1) rows)))
          costs.look_up
          (omega (arith, length-take i rows, length-take (i + 1) rows))
          (sym (ap length (linked_more s file way rows i row lt c.row-item.is)
          ∙ length-append (all_linked s file way (take i rows)) (linked s file way row.0)))
          (inv.steps s costs holds price finds)
          (subst (λ (k : ℕ). r.work last ≤ r.work mid
          + 2 * (length (linked s k way row.0) + 1) * costs.look_up) behind
          (subst (λ (v : Value). r.work last ≤ r.work mid
          + 2 * (length (linked s (file_behind (r.schema mid) way) way v) + 1)
          * costs.look_up) key
          (e.steps s costs (laws.keeps_state _ _ s inv.calls holds)
          (laws.keeps_costs _ _ s costs inv.calls price) finds)));
      calls = laws.in_turn _ _ _ _ inv.calls e.calls;
    }

pub add_linked-requires-clause-serving : goal.add_linked-requires-clause-serving
add_linked-requires-clause-serving g c =
    g.met.R.LinkReader.at_rest _ _ c.loop-row.invariant.calls
