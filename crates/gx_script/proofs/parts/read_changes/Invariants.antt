use Rattle.std.proofs.Common.{[], length}
use Rattle.gx_commands.specs.Cutting.{words_in}
use Rattle.gx_script.specs.Reading.{changes_at}
use Rattle.gx_script.proofs.LoopLaws.{ChangesGo}
use Rattle.gx_script.proofs.parts.read_changes.Given as goal

abbrev pub invariant-loop-changes : goal.invariant-loop-changes
invariant-loop-changes l =
    ChangesGo l.file l.changes.items (words_in l.rest)
    (changes_at (length (words_in l.line)) l.file [] (words_in l.line))

abbrev pub decreases-loop-changes : goal.decreases-loop-changes
decreases-loop-changes l = length (words_in l.rest)
