use Rattle.std.proofs.Common.{◌≡◌, ◌∙◌, map, ap, subst, IfOk}
use Rattle.gx_stack.specs.Indexed.{is_indexed}
use Rattle.gx_types.specs.Any.{any_rule}
use Rattle.gx_planner.specs.Plans.{least_plan}
use Rattle.gx_planner.specs.Texts.{plan_text}
use Rattle.gx_explain.proofs.explanation.find_line.Goals as goal

pub returns : goal.returns
returns c =
    subst (λ p. IfOk c.plan_line.result
    (λ text. text ≡ plan_text c.args.schema.now c.args.number c.args.find.now p))
    (c.plan.ensures.plan ∙ ap (least_plan c.args.find.now) (c.deref.ensures.value
    ∙ c.in_ok-indexed.ensures
    ∙ (λ i. map (λ f. is_indexed any_rule (c.file_node.ensures.tree i) f.name)
    (c.file_def-file.ensures i).fields)))
    c.plan_line.ensures
