use Rattle.std.proofs.Common.{length}
use Rattle.gx_lists.proofs.PieceLemmas.{AreCutSoFar}
use Rattle.gx_lists.proofs.pieces.cut_members.Given as goal

abbrev pub invariant-loop-rest : goal.invariant-loop-rest
invariant-loop-rest l = AreCutSoFar l.fn.kind l.fn.bytes l.fn.out l.out-inside.0.items l.rest

abbrev pub decreases-loop-rest : goal.decreases-loop-rest
decreases-loop-rest l = length l.rest
