use Rattle.std.proofs.Common.{◌≡◌, take, filter}
use Rattle.gx_model.specs.Found.{meets_conds}
use Rattle.gx_plain.proofs.paths.meeting.Given as goal

abbrev pub invariant-loop-row : goal.invariant-loop-row
invariant-loop-row l = l.kept.items ≡ filter (meets_conds l.conds) (take l.row-index l.rows)
