use Rattle.gx_work.specs.Workload.{lines_text, changes}
use Rattle.gx_work.proofs.TextLemmas.{from_none}
use Rattle.gx_work.proofs.writing.changes.Goals as goal

pub returns : goal.returns
returns c = from_none c.new-out.result.items c.push_changes.new.out.items
    (lines_text (changes c.args.records)) c.new-out.ensures.items c.in_ok-push_changes.ensures
