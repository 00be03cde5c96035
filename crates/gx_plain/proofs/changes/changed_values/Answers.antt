use Rattle.gx_plain.proofs.ChangeLemmas.{changed_more}
use Rattle.gx_plain.proofs.changes.changed_values.Goals as goal

pub loop-change-preserved : goal.loop-change-preserved
loop-change-preserved c =
    changed_more c.args.values c.loop-change.values.items c.set_value.new.values.items
    c.args.changes.now c.loop-change.change-index c.change-item.result c.in_ok-value.value
    c.loop-change-test.true c.change-item.is c.loop-change.invariant c.in_ok-value.ensures
    c.set_value.ensures
