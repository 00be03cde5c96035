use Rattle.std.proofs.Common.{◌≡◌, ◌++◌, ◌∷◌, ◌*◌, ◌+◌, flat_map}
use Rattle.std.specs.List.{range_with_len}
use Rattle.gx_work.specs.declared.task.Task.TheVariants as task
use Rattle.gx_work.specs.Workload.{lines_text, joining}
use Rattle.gx_work.proofs.writing.push_group.Given as goal

abbrev pub invariant-loop-place : goal.invariant-loop-place
invariant-loop-place l =
    l.out.items ≡ l.fn.out.items
    ++ lines_text (task.Begin ∷ flat_map joining (range_with_len (20 * l.number + 1) l.place))
