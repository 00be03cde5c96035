use Rattle.std.proofs.Common.{◌∙◌}
use Rattle.gx_bnode.specs.Page.{first_of, branches_of}
use Rattle.gx_btree.proofs.BranchLemmas.{place_for}
use Rattle.gx_bplus.proofs.RemovalLemmas.{other_is}
use Rattle.gx_bplus.proofs.removal.other_child.Goals as goal

pub returns-then-child_of-eq0 : goal.returns-then-child_of-eq0
returns-then-child_of-eq0 c =
    let page = c.args.page.now in
    let key = c.args.key.now in
    let e = c.child_of.ensures in
    c.child.ensures
    ∙ (other_is (first_of page) (branches_of page) key c.child_of.result
    (place_for page key c.child_of.result e.number e.before e.behind)
    c.requires.one).0 c.if-child_of-eq0.true

pub returns : goal.returns
returns c =
    let page = c.args.page.now in
    let key = c.args.key.now in
    let e = c.child_of.ensures in
    c.child-2.ensures
    ∙ (other_is (first_of page) (branches_of page) key c.child_of.result
    (place_for page key c.child_of.result e.number e.before e.behind)
    c.requires.one).1 c.if-child_of-eq0.false
