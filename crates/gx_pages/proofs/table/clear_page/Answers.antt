use Rattle.std.proofs.Common.{arith}
use Rattle.gx_pages.proofs.TableLemmas.{number_zeros}
use Rattle.gx_pages.proofs.table.clear_page.Goals as goal

pub returns : goal.returns
returns c =
    record {
      own = λ page at small. absurd (c.if-table-eq0.false (omega (arith, at, small)));
      free = λ page at past. number_zeros page;
    }
