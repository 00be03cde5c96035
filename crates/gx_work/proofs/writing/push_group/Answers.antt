use Rattle.std.proofs.Common.{◌∷◌, [], ◌*◌, ◌+◌, arith}
use Rattle.gx_work.specs.declared.task.Task.TheVariants as task
use Rattle.gx_work.specs.Workload.{joining}
use Rattle.gx_work.proofs.TextLemmas.{flat_mapped, two_lines}
use Rattle.gx_work.proofs.writing.push_group.Goals as goal

pub loop-place-preserved : goal.loop-place-preserved
loop-place-preserved c =
    let i = 20 * c.args.number + 1 + c.loop-place.place in
    flat_mapped joining (task.Begin ∷ []) (20 * c.args.number + 1) c.loop-place.place i
    c.args.out.now.items c.loop-place.out.items _ (omega arith) c.loop-place.invariant
    (two_lines c.loop-place.out.items _ _ (task.Employee i)
    (task.Connection i) c.in_ok-push_line-2.ensures c.in_ok-push_line-3.ensures)
