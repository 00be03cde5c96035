use Rattle.std.proofs.Common.{subst}
use Rattle.gx_ports.specs.Sheets.{IsOwnedAnew}
use Rattle.gx_btree.proofs.BranchLemmas.{place_for}
use Rattle.gx_bplus.proofs.RemovalLemmas.{on_ok, drop_sheets}
use Rattle.gx_bplus.proofs.removal.drop_page.Goals as goal

pub returns-clause-removed : goal.returns-clause-removed
returns-clause-removed g c told owner root steps tree below reached shown taken =
    let old = c.args.pages.now in
    let mid = c.write.new.self in
    let key = c.args.key.now in
    let page = c.args.page.now in
    let e = c.child_of-i.ensures in
    let d = c.drop_child.ensures in
    on_ok c.free.result (λ freed.
    drop_sheets (g.P.PageView.ground old) owner root c.args.at c.args.child key tree steps page
    below c.drop_child.new.page
    c.child_of-i.result (g.P.PageView.working old) (g.P.PageView.working mid)
    (g.P.PageView.working c.free.new.self)
    (g.met.P.Pages.many old told).1 c.requires.at reached c.requires.page shown taken
    c.requires.several c.requires.way
    (place_for page key c.child_of-i.result e.number e.before e.behind) d.page d.separators
    d.children
    (c.in_ok-write.ensures.written told)
    (subst (λ ground. IsOwnedAnew c.args.child 0 ground (g.P.PageView.working mid)
    (g.P.PageView.working c.free.new.self))
    c.in_ok-write.ensures.keeps.ground freed))
    (c.free.ensures.freed told)
