use Rattle.gx_equation.proofs.LinesLaws.{line_counted, in_order}
use Rattle.gx_equation.proofs.lines.line_from.Goals as goal

pub returns : goal.returns
returns c =
    line_counted c.args.bytes.now c.args.line c.args.from c.args.to c.max.result c.max-2.result
    c.saturating_sub-start.result c.saturating_sub-end.result _
    c.requires.start c.max.ensures c.saturating_sub-start.ensures c.max-2.ensures
    c.saturating_sub-end.ensures
    (in_order c.args.bytes.now c.args.from c.args.to c.max.result c.max-2.result
    c.saturating_sub-start.result c.saturating_sub-end.result c.requires.order
    c.max.ensures c.saturating_sub-start.ensures c.max-2.ensures
    c.saturating_sub-end.ensures) c.count_ends.ensures.value
