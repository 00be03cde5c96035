use Rattle.gx_work.proofs.WorkLemmas.{script_short, script_lines_short}
use Rattle.gx_work.proofs.laws.script_is_short.Goals as goal

pub returns-clause-script : goal.returns-clause-script
returns-clause-script c n few = script_short n few

pub returns-clause-lines : goal.returns-clause-lines
returns-clause-lines c n few = script_lines_short n few
