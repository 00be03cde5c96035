use Rattle.std.proofs.Common.{◌∙◌, sym, subst, arith}
use Rattle.std.proofs.lemmas.Bool.{false≢true}
use Rattle.std.proofs.lemmas.List.{length-map}
use Rattle.gx_bnode.specs.Page.{branches_of, first_of}
use Rattle.gx_btree.specs.Tree.{ShowsInner, with_branch}
use Rattle.gx_btree.proofs.BranchLemmas.{place_for, with_is}
use Rattle.gx_btree.proofs.EntryLemmas.{shows_inner}
use Rattle.gx_bplus.proofs.SeparatorLemmas.{may_insert}
use Rattle.gx_bplus.proofs.splitting.put_child.Goals as goal

pub is_between-requires-clause-place : goal.is_between-requires-clause-place
is_between-requires-clause-place c =
    let page = c.args.page.now in
    let e = c.child_of-i.ensures in
    let at = place_for page c.args.key.now c.child_of-i.result e.number e.before e.behind in
    let n = length-map (branches_of page) (λ b. b.separator) in
    let w = at.within in
    omega (arith, w, n)

pub returns-then-not-is_between-clause-refused : goal.returns-then-not-is_between-clause-refused
returns-then-not-is_between-clause-refused c may =
    let page = c.args.page.now in
    let e = c.child_of-i.ensures in
    let at = place_for page c.args.key.now c.child_of-i.result e.number e.before e.behind in
    false≢true (sym c.if-not-is_between.true
    ∙ c.is_between.ensures.1
    (may_insert page c.args.key.now c.args.separator.now c.child_of-i.result at may))

pub returns-clause-put : goal.returns-clause-put
returns-clause-put c =
    let page = c.args.page.now in
    let new = c.insert.new.page in
    let key = c.args.key.now in
    let e = c.child_of-i.ensures in
    let at = place_for page key c.child_of-i.result e.number e.before e.behind in
    let is = with_is page new key c.args.separator.now c.child_of-i.result c.args.right at
    c.insert.ensures.separators
    c.insert.ensures.children in
    subst (λ f. ShowsInner new f
    (with_branch (branches_of page) key
    (record { separator = c.args.separator.now; child = c.args.right })))
    is.0 (subst (ShowsInner new (first_of new)) is.1 (shows_inner new c.insert.ensures.page))
