use Rattle.std.proofs.Common.{◌-◌, [], length}
use Rattle.gx_commands.specs.declared.path.TheConstants.{MOST_LEGS}
use Rattle.gx_commands.specs.Cutting.{words_in}
use Rattle.gx_commands.specs.Paths.{most_legs}
use Rattle.gx_script.specs.Paths.{legs_at}
use Rattle.gx_paths.proofs.LegLemmas.{LegsGo}
use Rattle.gx_paths.proofs.legs.read_legs.Given as goal

abbrev pub invariant-loop-rest : goal.invariant-loop-rest
invariant-loop-rest l =
    LegsGo l.schema l.file l.legs.items (words_in l.rest)
    (legs_at most_legs l.schema l.from [] (words_in l.line))

abbrev pub decreases-loop-rest : goal.decreases-loop-rest
decreases-loop-rest l = MOST_LEGS - length l.legs.items
