use Rattle.std.proofs.Common.{◌≡◌, ◌++◌, flat_map}
use Rattle.std.specs.List.{range_with_len}
use Rattle.gx_work.specs.Workload.{lines_text, group}
use Rattle.gx_work.proofs.writing.push_employees.Given as goal

abbrev pub invariant-loop-number : goal.invariant-loop-number
invariant-loop-number l =
    l.out.items ≡ l.fn.out.items
    ++ lines_text (flat_map (group l.records) (range_with_len 0 l.number))
