use Rattle.std.proofs.Common.{◌+◌, sym, ◌∙◌, subst, arith}
use Rattle.gx_bytes.proofs.SearchLemmas.{HasTaken, at_next, at_all, taken_start, taken_next, taken_more, taken_end}
use Rattle.gx_bnode.specs.Branches.{IsFit, branch_len, lent}
use Rattle.gx_bnode.specs.Page.{branches_of}
use Rattle.gx_bnode.proofs.PageLemmas.{page_of, six_each, used_most}
use Rattle.gx_bnode.proofs.SplitLemmas.{full_is}
use Rattle.gx_bnode.proofs.splitting.middle.Goals as goal

pub loop-separator-init : goal.loop-separator-init
loop-separator-init c =
    taken_start branch_len 2044 (branches_of c.args.page.now) c.into_iter-separator-iterator.result
    (c.into_iter-separator-iterator.ensures.into_iter_gives ∙ c.branches-separator-items.ensures)

pub branch_len-taken-requires : goal.branch_len-taken-requires
branch_len-taken-requires c =
    let page = c.args.page.now in
    let fit = at_all IsFit (branches_of page) c.loop-separator.place
    c.loop-separator.separator-iterator
    (lent (c.in-Some.separator, c.in-Some.field-0-1)) c.next.new.self
    (page_of page c.requires.page).page.holds.fit c.loop-separator.invariant.at
    c.in-Some.ensures.steps in
    fit.separator

pub overflow_add-taken : goal.overflow_add-taken
overflow_add-taken c =
    let page = c.args.page.now in
    let fit = at_all IsFit (branches_of page) c.loop-separator.place
    c.loop-separator.separator-iterator
    (lent (c.in-Some.separator, c.in-Some.field-0-1)) c.next.new.self
    (page_of page c.requires.page).page.holds.fit c.loop-separator.invariant.at
    c.in-Some.ensures.steps in
    omega (arith, fit.separator, c.branch_len-taken.ensures, c.loop-separator.invariant.below)

pub returns-then-taken-gt-HALF : goal.returns-then-taken-gt-HALF
returns-then-taken-gt-HALF c =
    let branches = branches_of c.args.page.now in
    let has = c.loop-separator.invariant in
    let next = at_next branches c.loop-separator.place c.loop-separator.separator-iterator
    (lent (c.in-Some.separator, c.in-Some.field-0-1)) c.next.new.self has.at
    c.in-Some.ensures.steps in
    let taken = taken_next branch_len 2044 branches c.loop-separator.place c.loop-separator.taken
    c.loop-separator.separator-iterator (lent (c.in-Some.separator, c.in-Some.field-0-1))
    c.next.new.self has c.in-Some.ensures.steps in
    record {
      place = next.0;
      before = omega (arith, has.below, has.taken_is);
      across = omega (arith, taken, c.branch_len-taken.ensures);
    }

pub overflow_add-place : goal.overflow_add-place
overflow_add-place c =
    let page = c.args.page.now in
    let next = at_next (branches_of page) c.loop-separator.place c.loop-separator.separator-iterator
    (lent (c.in-Some.separator, c.in-Some.field-0-1)) c.next.new.self c.loop-separator.invariant.at
    c.in-Some.ensures.steps in
    omega (arith, next.0, six_each (branches_of page), used_most page c.requires.page)

pub loop-separator-preserved : goal.loop-separator-preserved
loop-separator-preserved c =
    let branches = branches_of c.args.page.now in
    let len = c.branch_len-taken.ensures in
    let more = taken_more branch_len 2044 branches c.loop-separator.place c.loop-separator.taken
    c.loop-separator.separator-iterator (lent (c.in-Some.separator, c.in-Some.field-0-1))
    c.next.new.self c.loop-separator.invariant c.in-Some.ensures.steps (omega (arith, len)) in
    subst (λ n. HasTaken branch_len 2044 branches (c.loop-separator.place + 1)
    (c.loop-separator.taken + n) c.next.new.self) (sym len) more

pub returns : goal.returns
returns c =
    let branches = branches_of c.args.page.now in
    let most = taken_end branch_len 2044 branches c.loop-separator.place c.loop-separator.taken
    c.loop-separator.separator-iterator c.loop-separator.invariant c.in-None.ensures.steps.0 in
    absurd (omega (arith, most, full_is branches c.requires.full))
