use Rattle.std.proofs.Common.{◌≡◌, ◌-◌, ◌<◌, ◌∙◌, List, true, false, length, get_or, ap, arith}
use Rattle.gx_commands.specs.declared.command.Change.{Change}
use Rattle.gx_entries.proofs.GroupLemmas.{all_more}
use Rattle.gx_entries.proofs.groups.are_first.Goals as goal

pub loop-change-preserved : goal.loop-change-preserved
loop-change-preserved c =
    let mask = c.args.mask.now in
    let cs = c.args.changes.now in
    let i = c.loop-change.change-index in
    let ch = c.change-item.result in
    let items : c.deref-change-items.result.now ≡ cs = c.deref-change-items.ensures.value
    ∙ c.changes.view_is in
    let lt : i < length cs = omega (arith, c.loop-change-test.true, ap length items) in
    let here = c.is_first.ensures c.if-not-is_first.false in
    all_more (λ (d : Change). get_or mask (d.field - 1) false ≡ true) cs i ch lt
    (c.change-item.is ∙ ap (λ (l : List Change). get_or l i ch) items) here c.loop-change.invariant
