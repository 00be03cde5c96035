use Rattle.std.proofs.Common.{sym, subst}
use Rattle.gx_slots.specs.Page.{entries_of}
use Rattle.gx_bplus.proofs.GrowthLemmas.{alone_put, raised_put}
use Rattle.gx_bplus.proofs.InsertLemmas.{none_left}
use Rattle.gx_bplus.specs.Changes.{IsSpread}
use Rattle.gx_bplus.proofs.putting.put_alone.Goals as goal

pub returns-then-set_entry-clause-put : goal.returns-then-set_entry-clause-put
returns-then-set_entry-clause-put g c told tree held =
    let old = c.args.pages.now in
    let bytes = c.set_entry.new.page in
    alone_put (g.P.PageView.ground old) c.args.owner c.args.root c.args.key.now tree c.args.page.now
    (g.P.PageView.working old) held
    c.args.body.now c.requires.page
    bytes (g.P.PageView.working c.write.new.self) c.set_entry.ensures.shown
    c.if-set_entry.ensures.set (c.in_ok-write.ensures.written told)
    (g.met.P.Pages.many old told).1

pub spread-separator-requires-clause-other : goal.spread-separator-requires-clause-other
spread-separator-requires-clause-other g c =
    none_left (entries_of c.args.page.now) (entries_of c.set_entry.new.page) c.args.key.now
    c.if-set_entry.ensures.taken

pub returns-clause-put : goal.returns-clause-put
returns-clause-put g c told tree held =
    let old = c.args.pages.now in
    let s = c.spread-separator.ensures in
    raised_put (g.P.PageView.ground old) c.args.owner c.args.root c.args.key.now tree
    c.args.page.now (g.P.PageView.working old) held
    c.args.body.now c.requires.page
    c.set_entry.new.page c.spread-separator.new.page c.spread-separator.new.right
    c.as_slice.result.now c.if-set_entry.ensures.taken
    (subst (IsSpread (entries_of c.set_entry.new.page)
    (record { key = c.args.key.now; body = c.args.body.now })
    (entries_of c.spread-separator.new.page) (entries_of c.spread-separator.new.right))
    (sym c.as_slice.ensures.value) s.spread) s.left
    s.right
    (g.P.PageView.working c.raise.new.pages) c.in_ok-raise.field-0.left c.in_ok-raise.field-0.right
    (c.in_ok-raise.ensures.raised told)
    (g.met.P.Pages.many old told).1
