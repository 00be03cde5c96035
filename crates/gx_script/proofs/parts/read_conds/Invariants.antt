use Rattle.std.proofs.Common.{[], length}
use Rattle.gx_commands.specs.Cutting.{words_in, IsRestOf}
use Rattle.gx_script.specs.Reading.{conds_at}
use Rattle.gx_script.proofs.LoopLaws.{CondsGo}
use Rattle.gx_script.proofs.parts.read_conds.Given as goal

abbrev pub invariant-loop-conds : goal.invariant-loop-conds
invariant-loop-conds l =
    CondsGo l.file l.conds.items (words_in l.rest)
    (conds_at (length (words_in l.line)) l.file [] (words_in l.line)) × IsRestOf l.line l.rest

abbrev pub decreases-loop-conds : goal.decreases-loop-conds
decreases-loop-conds l = length (words_in l.rest)
