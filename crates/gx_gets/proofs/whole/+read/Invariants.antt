use Rattle.std.proofs.Common.{map}
use Rattle.gx_access.specs.Seen.{choice_of, choices_from}
use Rattle.gx_gets.proofs.WholeSteps.{choice_size, choices_size}
use Rattle.gx_gets.proofs.whole.+read.Given as goal

abbrev pub decreases-read_access : goal.decreases-read_access
decreases-read_access g l = choice_size (choice_of l.access.now)

abbrev pub decreases-read_each : goal.decreases-read_each
decreases-read_each g l = choices_size (choices_from (map choice_of l.accesses.now))
