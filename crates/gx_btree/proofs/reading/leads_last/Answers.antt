use Rattle.gx_bnode.specs.Page.{branches_of}
use Rattle.gx_btree.proofs.BranchLemmas.{place_for, last_is}
use Rattle.gx_btree.proofs.reading.leads_last.Goals as goal

pub returns : goal.returns
returns c =
    let page = c.args.page.now in
    let key = c.args.key.now in
    let e = c.child_of.ensures in
    last_is (branches_of page) key c.child_of.result c.separators.result
    (place_for page key c.child_of.result e.number e.before e.behind) c.separators.ensures
