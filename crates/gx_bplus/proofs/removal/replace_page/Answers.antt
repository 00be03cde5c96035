use Rattle.std.proofs.Common.{◌∙◌, subst}
use Rattle.gx_ports.specs.Sheets.{IsOwnedAnew}
use Rattle.gx_btree.specs.Bplus.{IsWritten}
use Rattle.gx_bplus.proofs.RemovalLemmas.{replace_sheets}
use Rattle.gx_bplus.proofs.removal.replace_page.Goals as goal

pub returns-clause-removed : goal.returns-clause-removed
returns-clause-removed g c told owner root steps tree below reached shown taken =
    let w = g.P.PageView.working in
    let ground = g.P.PageView.ground in
    let old = c.args.pages.now in
    let one = c.read_page.new.pages in
    let two = c.write.new.self in
    let three = c.free.new.self in
    let four = c.free-2.new.self in
    let reads = c.in_ok-read_page.ensures.reads in
    let bytes = c.read_page.new.into in
    let g1 = reads.keeps.ground in
    let g2 = c.in_ok-write.ensures.keeps.ground ∙ g1 in
    let g3 = c.in_ok-free.ensures.keeps.ground ∙ g2 in
    replace_sheets (ground old) owner root c.args.at c.args.child c.args.other c.args.key.now tree
    steps c.args.page.now below bytes
    (w old) (w two) (w three) (w four)
    (g.met.P.Pages.many old told).1 c.requires.at reached c.requires.page shown taken c.requires.one
    c.requires.way c.requires.other
    (c.in_ok-read_page.ensures.read told)
    (subst (λ s. IsWritten c.args.at bytes s (w two)) reads.working
    (c.in_ok-write.ensures.written told))
    (subst (λ e. IsOwnedAnew c.args.child 0 e (w two) (w three)) g2
    (c.in_ok-free.ensures.freed told))
    (subst (λ e. IsOwnedAnew c.args.other 0 e (w three) (w four)) g3
    (c.in_ok-free-2.ensures.freed told))
