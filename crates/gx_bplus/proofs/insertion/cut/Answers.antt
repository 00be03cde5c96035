use Rattle.std.proofs.Common.{[], arith}
use Rattle.gx_slots.specs.Entries.{Entry}
use Rattle.gx_slots.specs.Page.{entries_of}
use Rattle.gx_slots.proofs.PageLemmas.{page_of, used_most}
use Rattle.gx_bplus.proofs.InsertLemmas.{middle_is}
use Rattle.gx_bplus.proofs.insertion.cut.Goals as goal

pub returns-clause-some : goal.returns-clause-some
returns-clause-some c =
    let page = c.args.page.now in
    let d : Entry = record { key = []; body = [] } in
    let m = c.middle.ensures in
    (middle_is (entries_of page) c.middle.result d (page_of page c.requires.page).page.holds.fit
    m.place m.across
    (let u = used_most page c.requires.page in omega (arith, u))).0

pub returns-clause-right : goal.returns-clause-right
returns-clause-right c = λ _.
    let page = c.args.page.now in
    let d : Entry = record { key = []; body = [] } in
    let m = c.middle.ensures in
    (middle_is (entries_of page) c.middle.result d (page_of page c.requires.page).page.holds.fit
    m.place m.across
    (let u = used_most page c.requires.page in omega (arith, u))).1
