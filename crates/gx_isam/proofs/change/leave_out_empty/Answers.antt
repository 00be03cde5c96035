use Rattle.std.proofs.Common.{inr, sym, ap, subst, ◌∙◌, arith}
use Rattle.gx_laws.proofs.ListLemmas.{none_long}
use Rattle.gx_ports.specs.Sheets.{Ground, Sheets}
use Rattle.gx_slots.specs.Page.{entries_of, next_of}
use Rattle.gx_chain.specs.Chain.{next_at}
use Rattle.gx_isam.specs.Change.{IsLeftOut}
use Rattle.gx_isam.proofs.change.leave_out_empty.Goals as goal

pub returns-clause-left_out : goal.returns-clause-left_out
returns-clause-left_out g c told =
    let s = g.P.PageView.working c.args.pages.now in
    let q = c.read_entries.new.pages in
    let u = g.P.PageView.working c.leave_out.new.pages in
    let place = c.args.place.now in
    let index = c.args.index.now in
    let bucket = c.args.bucket in
    let first = c.args.first in
    let read = c.in_ok-read_entries.ensures.bytes told in
    let reads = c.in_ok-read_entries.ensures.reads in
    let few = c.if-count-gt0.false in
    inr (
      ap entries_of (sym read)
          ∙ none_long (entries_of c.read_entries.new.page) (omega (arith, few, c.count.ensures)),
      subst (λ (x : Ground). IsLeftOut x place index bucket first (next_at s first) s u)
          reads.keeps.ground
          (subst (λ (x : Sheets). IsLeftOut (g.P.PageView.ground q) place index bucket first
          (next_at s first) x u) reads.working
          (subst (λ n. IsLeftOut (g.P.PageView.ground q) place index bucket first n
          (g.P.PageView.working q) u)
          (c.next.ensures ∙ ap next_of read) (c.in_ok-leave_out.ensures.left_out told))),
    )
