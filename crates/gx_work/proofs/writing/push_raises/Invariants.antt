use Rattle.std.proofs.Common.{◌≡◌, ◌++◌, ◌∷◌, ◌*◌, map}
use Rattle.std.specs.List.{range_with_len}
use Rattle.gx_work.specs.declared.task.Task.TheVariants as task
use Rattle.gx_work.specs.Workload.{lines_text}
use Rattle.gx_work.proofs.writing.push_raises.Given as goal

abbrev pub invariant-loop-place : goal.invariant-loop-place
invariant-loop-place l =
    l.out.items ≡ l.fn.out.items
    ++ lines_text (task.Begin ∷ map (λ k. task.Raise (3 * k)) (range_with_len 1 l.place))
