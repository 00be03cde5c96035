use Rattle.std.proofs.Common.{length, ap, ◌∙◌, arith}
use Rattle.std.specs.List.{insert}
use Rattle.gx_slots.specs.Entries.{Entry}
use Rattle.gx_slots.specs.Page.{entries_of, next_of}
use Rattle.gx_chain.proofs.WriteLemmas.{written}
use Rattle.gx_chain.proofs.write.add_to.Goals as goal

pub returns-clause-added : goal.returns-clause-added
returns-clause-added g c told =
    let s = g.P.PageView.working c.args.pages.now in
    let m = g.P.PageView.working c.read_entries.new.pages in
    let e : Entry = record { key = c.args.key.now; body = c.args.body.now } in
    let same = c.in_ok-read_entries.ensures.reads.working in
    let read = c.in_ok-read_entries.ensures.bytes told in
    let many = g.met.P.Pages.many c.args.pages.now told in
    written s m _ c.args.number _ _ _ same
    (let below = c.requires.number.below in omega (arith, below, many.1))
    (c.in_ok-write.ensures.written told) c.add_last.ensures.page
    (c.if-not-add_last.ensures.added
    ∙ ap (λ b. insert (entries_of b) (length (entries_of b)) e) read)
    (c.add_last.ensures.next ∙ ap next_of read)
