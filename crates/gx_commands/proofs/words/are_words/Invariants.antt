use Rattle.std.proofs.Common.{length}
use Rattle.std.specs.Prelude.{◌↔◌}
use Rattle.gx_commands.proofs.CuttingLaws.{HasWords}
use Rattle.gx_commands.proofs.words.are_words.Given as goal

abbrev pub invariant-loop-after : goal.invariant-loop-after
invariant-loop-after l = HasWords l.rest ↔ HasWords l.line

abbrev pub decreases-loop-after : goal.decreases-loop-after
decreases-loop-after l = length l.rest
