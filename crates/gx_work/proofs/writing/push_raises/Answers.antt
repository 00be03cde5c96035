use Rattle.std.proofs.Common.{◌∷◌, [], ◌*◌, ◌+◌, arith}
use Rattle.gx_work.specs.declared.task.Task.TheVariants as task
use Rattle.gx_work.proofs.TextLemmas.{mapped}
use Rattle.gx_work.proofs.writing.push_raises.Goals as goal

pub loop-place-preserved : goal.loop-place-preserved
loop-place-preserved c =
    mapped (λ k. task.Raise (3 * k)) (task.Begin ∷ []) 1 c.loop-place.place (c.loop-place.place + 1)
    c.args.out.now.items c.loop-place.out.items _ (omega arith) c.loop-place.invariant
    c.in_ok-push_line-2.ensures
