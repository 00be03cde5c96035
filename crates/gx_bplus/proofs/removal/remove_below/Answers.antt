use Rattle.std.proofs.Common.{◌∙◌, refl, subst, arith}
use Rattle.std.proofs.lemmas.List.{length-map}
use Rattle.gx_slots.specs.Page.{entries_of}
use Rattle.gx_bnode.specs.Page.{branches_of}
use Rattle.gx_btree.proofs.EntryLemmas.{some_of, none_of}
use Rattle.gx_btree.proofs.CallLemmas.{ends_weaker}
use Rattle.gx_btree.proofs.SheetLemmas.{written_here, written_other, written_owned, written_others}
use Rattle.gx_bplus.specs.Changes.{IsTakenFrom}
use Rattle.gx_bplus.proofs.RemovalLemmas.{keep_sheets, reached_sibling, some_branch}
use Rattle.gx_bplus.proofs.removal.remove_below.Goals as goal
use Rattle.gx_ports.proofs.PageLemmas.{others_itself}

pub returns-then-not-take_key-clause-removed : goal.returns-then-not-take_key-clause-removed
returns-then-not-take_key-clause-removed g c told owner root steps tree reached =
    let old = g.P.PageView.working c.args.pages.now in
    let ground = g.P.PageView.ground c.args.pages.now in
    let below = c.args.below.now in
    keep_sheets ground owner root c.args.at c.args.child c.args.key.now tree steps c.args.page.now
    below below old old reached
    c.requires.page c.requires.below c.requires.below
    (subst (λ new. IsTakenFrom c.args.key.now (entries_of below) (entries_of new))
    (c.if-not-take_key.ensures.same)
    c.take_key.ensures.taken) (λ s. s) c.requires.way
    reached.below_are (λ q d. refl) (λ q. (λ o. o, λ o. o)) (λ _. others_itself ground owner old)

pub returns-then-count-gt0-clause-removed : goal.returns-then-count-gt0-clause-removed
returns-then-count-gt0-clause-removed g c told owner root steps tree reached =
    let old = g.P.PageView.working c.args.pages.now in
    let new = g.P.PageView.working c.write.new.self in
    let ground = g.P.PageView.ground c.args.pages.now in
    let bytes = c.take_key.new.page in
    let child = c.args.child in
    let written = c.in_ok-write.ensures.written told in
    keep_sheets ground owner root c.args.at child c.args.key.now tree steps c.args.page.now
    c.args.below.now bytes old new reached
    c.requires.page c.requires.below c.take_key.ensures.shown c.take_key.ensures.taken
    (λ _. some_of (entries_of bytes) (let n = c.count.ensures in let p = c.if-count-gt0.true in
    omega (arith, n, p))) c.requires.way
    (written_here child bytes old new written (let l = c.requires.child.below in let m =
    (g.met.P.Pages.many c.args.pages.now told).1 in
    omega (arith, l, m)))
    (written_other child bytes old new written) (written_owned child bytes old new written owner)
    (written_others ground owner child bytes old new written)

pub returns-then-separators-gt1-clause-removed : goal.returns-then-separators-gt1-clause-removed
returns-then-separators-gt1-clause-removed g c told owner root steps tree reached =
    let none = none_of (entries_of c.take_key.new.page) (let n = c.count.ensures in let p =
    c.if-count-gt0.false in omega (arith, n, p)) in
    c.in_ok-drop_page.ensures.removed told owner root steps tree c.args.below.now reached
    c.requires.below
    (subst (IsTakenFrom c.args.key.now (entries_of c.args.below.now)) none c.take_key.ensures.taken)

pub other_child-other-requires-clause-one : goal.other_child-other-requires-clause-one
other_child-other-requires-clause-one g c =
    let counted = c.separators.ensures ∙ length-map (branches_of c.args.page.now) (λ b. b.separator)
    in
    omega (arith, counted, c.if-separators-gt1.false, some_branch c.args.page.now c.requires.page)

pub replace_page-requires-clause-one : goal.replace_page-requires-clause-one
replace_page-requires-clause-one g c =
    let counted = c.separators.ensures ∙ length-map (branches_of c.args.page.now) (λ b. b.separator)
    in
    omega (arith, counted, c.if-separators-gt1.false, some_branch c.args.page.now c.requires.page)

pub returns-clause-removed : goal.returns-clause-removed
returns-clause-removed g c told owner root steps tree reached =
    let none = none_of (entries_of c.take_key.new.page) (let n = c.count.ensures in let p =
    c.if-count-gt0.false in omega (arith, n, p)) in
    c.replace_page.ensures.removed told owner root steps tree c.args.below.now reached
    c.requires.below
    (subst (IsTakenFrom c.args.key.now (entries_of c.args.below.now)) none c.take_key.ensures.taken)

pub returns-clause-ends : goal.returns-clause-ends
returns-clause-ends g c =
    let page = c.args.page.now in
    ends_weaker g.P.PageView _ _ c.args.pages.now c.replace_page.new.pages c.replace_page.result
    (λ h. let r = h.1 in (
      h.0,
      (reached_sibling (g.P.PageView.ground c.args.pages.now) r.owner
          (g.P.PageView.working c.args.pages.now) r.root c.args.at c.args.child
          c.other_child-other.result c.args.key.now r.tree r.steps page c.args.below.now r.reached
          c.requires.page
          (some_branch page c.requires.page) c.requires.way c.other_child-other.ensures).page,
    ))
    c.replace_page.ensures.ends
