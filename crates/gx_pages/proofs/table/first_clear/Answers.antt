use Rattle.std.proofs.Common.{arith}
use Rattle.gx_pages.proofs.TableLemmas.{number_zeros, own_more, free_still}
use Rattle.gx_pages.proofs.table.first_clear.Goals as goal

pub loop-page-init : goal.loop-page-init
loop-page-init c = record {
  own = λ p lt. absurd (omega (arith, lt));
  free = λ p low lt. number_zeros p;
}

pub loop-page-preserved : goal.loop-page-preserved
loop-page-preserved c =
    let old = c.loop-page.numbers in
    let new = c.set_number.new.table in
    record {
      own = own_more old new c.loop-page.page c.loop-page-test.array_long
          (omega (arith, c.loop-page-test.true)) c.set_number.ensures c.loop-page.invariant.own;
      free = free_still old new c.loop-page.page c.loop-page-test.array_long
          (omega (arith, c.loop-page-test.true)) c.set_number.ensures c.loop-page.invariant.free;
    }
