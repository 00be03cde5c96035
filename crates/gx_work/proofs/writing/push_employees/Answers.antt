use Rattle.std.proofs.Common.{[], arith}
use Rattle.gx_work.specs.Workload.{group}
use Rattle.gx_work.proofs.TextLemmas.{flat_mapped}
use Rattle.gx_work.proofs.writing.push_employees.Goals as goal

pub loop-number-preserved : goal.loop-number-preserved
loop-number-preserved c =
    flat_mapped (group c.args.records) [] 0 c.loop-number.number c.loop-number.number
    c.args.out.now.items c.loop-number.out.items _ (omega arith) c.loop-number.invariant
    c.in_ok-push_group.ensures
