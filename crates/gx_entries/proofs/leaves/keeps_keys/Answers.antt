use Rattle.gx_entries.proofs.OneLemmas.{either_keeps}
use Rattle.gx_entries.proofs.leaves.keeps_keys.Goals as goal

pub returns-in-Actual : goal.returns-in-Actual
returns-in-Actual c = λ yes. either_keeps c.args.mapping.now c.in-Actual.is

pub returns-in-Actual-2 : goal.returns-in-Actual-2
returns-in-Actual-2 c = λ yes. either_keeps c.args.mapping.now c.in-Actual.is
