use Rattle.gx_work.proofs.TextLemmas.{script_text}
use Rattle.gx_work.proofs.writing.script.Goals as goal

pub returns : goal.returns
returns c = script_text c.args.records c.new-out.result.items c.push_changes.new.out.items
    c.push_line.new.out.items c.push_line-2.new.out.items c.new-out.ensures.items
    c.in_ok-push_changes.ensures c.in_ok-push_line.ensures c.in_ok-push_line-2.ensures
