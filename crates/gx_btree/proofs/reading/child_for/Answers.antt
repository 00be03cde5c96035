use Rattle.std.proofs.Common.{◌∙◌}
use Rattle.gx_bnode.specs.Page.{first_of, branches_of}
use Rattle.gx_btree.proofs.BranchLemmas.{child_is, place_for}
use Rattle.gx_btree.proofs.reading.child_for.Goals as goal

pub returns : goal.returns
returns c =
    let page = c.args.page.now in
    let key = c.args.key.now in
    let e = c.child_of.ensures in
    c.child.ensures ∙ child_is (first_of page) (branches_of page) key c.child_of.result
    (place_for page key c.child_of.result e.number e.before e.behind)
