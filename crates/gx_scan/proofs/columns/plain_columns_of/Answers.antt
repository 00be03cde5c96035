use Rattle.std.proofs.Common.{subst}
use Rattle.gx_scan.specs.Columns.{ArePlainColumns}
use Rattle.gx_scan.proofs.columns.plain_columns_of.Goals as goal

pub returns-then-are_plain-clause-plain : goal.returns-then-are_plain-clause-plain
returns-then-are_plain-clause-plain c =
    subst ArePlainColumns c.as_slice.ensures.value (c.are_plain.ensures c.if-are_plain.true)
