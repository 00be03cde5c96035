use Rattle.std.proofs.Common.{ap, arith}
use Rattle.gx_layout.specs.Places.{table_pages}
use Rattle.gx_pages.specs.Laws.{few_tables}
use Rattle.gx_pages.proofs.owners.tables.Goals as goal

pub returns-clause-few : goal.returns-clause-few
returns-clause-few g c =
    omega (arith, c.table_pages.ensures, ap table_pages c.blocks-2.ensures, few_tables c.args.journal.now)
