use Rattle.std.proofs.Common.{take}
use Rattle.gx_audit.specs.Audits.{AreAmong}
use Rattle.gx_audit.proofs.links.are_among.Given as goal

abbrev pub invariant-loop-pair : goal.invariant-loop-pair
invariant-loop-pair l = AreAmong l.members l.owners (take l.pair-index l.pair-items)
