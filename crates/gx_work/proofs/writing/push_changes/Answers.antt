use Rattle.gx_work.proofs.TextLemmas.{changes_text}
use Rattle.gx_work.proofs.writing.push_changes.Goals as goal

pub returns : goal.returns
returns c = changes_text c.args.records c.args.out.now.items c.push_departments.new.out.items
    c.push_employees.new.out.items c.push_raises.new.out.items c.in_ok-push_departments.ensures
    c.in_ok-push_employees.ensures c.in_ok-push_raises.ensures
