use Rattle.std.proofs.Common.{ap}
use Rattle.gx_split.specs.TransposeRules.{transpose_rule}
use Rattle.gx_types.proofs.mappings.transpose_of.Goals as goal

pub returns : goal.returns
returns c = (tt, ap transpose_rule c.in_ok-transpose.ensures)
