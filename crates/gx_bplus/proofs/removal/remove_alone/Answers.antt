use Rattle.std.proofs.Common.{subst, arith}
use Rattle.gx_slots.specs.Page.{entries_of}
use Rattle.gx_btree.proofs.SheetLemmas.{written_here, written_owned, written_others}
use Rattle.gx_bplus.specs.Changes.{IsTakenFrom}
use Rattle.gx_bplus.proofs.RemovalLemmas.{alone_sheets}
use Rattle.gx_bplus.proofs.removal.remove_alone.Goals as goal
use Rattle.gx_ports.proofs.PageLemmas.{others_itself}

pub returns-in_ok-write-clause-removed : goal.returns-in_ok-write-clause-removed
returns-in_ok-write-clause-removed g c told owner tree whole owns past bytes_are =
    let old = g.P.PageView.working c.args.pages.now in
    let new = g.P.PageView.working c.write.new.self in
    let bytes = c.take_key.new.page in
    let ground = g.P.PageView.ground c.args.pages.now in
    let written = c.in_ok-write.ensures.written told in
    alone_sheets ground owner c.args.root c.args.key.now tree c.args.page.now bytes old new whole
    owns past bytes_are c.requires.page
    c.take_key.ensures.shown c.take_key.ensures.taken
    (written_here c.args.root bytes old new written
    (let l = c.requires.root.below in let m = (g.met.P.Pages.many c.args.pages.now told).1 in
    omega (arith, l, m)))
    (written_owned c.args.root bytes old new written owner)
    (written_others ground owner c.args.root bytes old new written)

pub returns-else-take_key-clause-removed : goal.returns-else-take_key-clause-removed
returns-else-take_key-clause-removed g c told owner tree whole owns past bytes_are =
    let old = g.P.PageView.working c.args.pages.now in
    let ground = g.P.PageView.ground c.args.pages.now in
    let page = c.args.page.now in
    alone_sheets ground owner c.args.root c.args.key.now tree page page old old whole owns past
    bytes_are c.requires.page c.requires.page
    (subst (λ new. IsTakenFrom c.args.key.now (entries_of page) (entries_of new))
    (c.if-take_key.ensures.same) c.take_key.ensures.taken)
    bytes_are
    (λ q. (λ o. o, λ o. o)) (λ _. others_itself ground owner old)
