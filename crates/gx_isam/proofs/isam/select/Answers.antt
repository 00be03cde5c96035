use Rattle.std.proofs.Common.{rules}
use Rattle.gx_chain.proofs.SpanLemmas.{gathered_selected}
use Rattle.gx_isam.proofs.isam.select.Goals as goal

pub returns : goal.returns
returns g c =
    record {
      ok = λ map holds.
          gathered_selected (g.P.PageView.working c.args.pages.now) c.args.span.now.lo
          c.args.span.now.hi map c.in_ok-found.found.items
          c.args.out.now c.append_sorted.new.out
          (c.in_ok-found.ensures.found map holds) c.in_ok-append_sorted.ensures.ok;
      extends = search rules;
      reads = search rules;
      ends = search rules;
      not_full = search rules;
    }
