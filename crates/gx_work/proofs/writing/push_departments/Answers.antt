use Rattle.std.proofs.Common.{◌≡◌, ◌∷◌, [], ◌++◌, map, subst, arith}
use Rattle.std.specs.List.{range_with_len}
use Rattle.gx_work.specs.declared.task.Task.TheVariants as task
use Rattle.gx_work.specs.Workload.{lines_text}
use Rattle.gx_work.proofs.TextLemmas.{mapped, line_then}
use Rattle.gx_work.proofs.writing.push_departments.Goals as goal

pub loop-number-preserved : goal.loop-number-preserved
loop-number-preserved c =
    mapped task.Department (task.Begin ∷ []) 0 c.loop-number.number c.loop-number.number
    c.args.out.now.items c.loop-number.out.items _ (omega arith) c.loop-number.invariant
    c.in_ok-push_line-2.ensures

pub returns : goal.returns
returns c =
    let ten : c.loop-number.number ≡ 10 = omega arith in
    line_then c.args.out.now.items c.loop-number.out.items _
    (task.Begin ∷ map task.Department (range_with_len 0 10)) task.Commit
    (subst (λ k. c.loop-number.out.items ≡ c.args.out.now.items
    ++ lines_text (task.Begin ∷ map task.Department (range_with_len 0 k))) ten
    c.loop-number.invariant) c.in_ok-push_line-3.ensures
