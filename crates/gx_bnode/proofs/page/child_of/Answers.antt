use Rattle.std.proofs.Common.{◌∙◌, arith}
use Rattle.gx_bytes.proofs.SearchLemmas.{at_next, passed_start, passed_more}
use Rattle.gx_order.proofs.BelowLemmas.{below_is_less, not_below_is_le}
use Rattle.gx_bnode.specs.Branches.{lent}
use Rattle.gx_bnode.specs.Page.{branches_of}
use Rattle.gx_bnode.proofs.OrderLemmas.{IsUpTo, passed_before, passed_number, at_behind, none_behind}
use Rattle.gx_bnode.proofs.PageLemmas.{page_of, six_each, used_most}
use Rattle.gx_bnode.proofs.page.child_of.Goals as goal

pub loop-separator-init : goal.loop-separator-init
loop-separator-init c =
    passed_start (IsUpTo c.args.key.now) (branches_of c.args.page.now)
    c.into_iter-separator-iterator.result
    (c.into_iter-separator-iterator.ensures.into_iter_gives ∙ c.branches-separator-items.ensures)

pub returns-then-is_below : goal.returns-then-is_below
returns-then-is_below c =
    let page = c.args.page.now in
    let key = c.args.key.now in
    let branches = branches_of page in
    let left = c.loop-separator.separator-iterator in
    let passed = c.loop-separator.invariant in
    let less = below_is_less key c.in-Some.separator.now c.is_below.result c.is_below.ensures
    c.if-is_below.true in
    let behind = at_behind branches key c.loop-separator.place left
    (lent (c.in-Some.separator, c.in-Some.field-0-1)) c.next.new.self
    (page_of page c.requires).ascending passed.at c.in-Some.ensures.steps less in
    record {
      number = passed_number branches key c.loop-separator.place left passed behind;
      before = passed_before branches key c.loop-separator.place left passed;
      behind = behind;
    }

pub overflow_add-place : goal.overflow_add-place
overflow_add-place c =
    let page = c.args.page.now in
    let next = at_next (branches_of page) c.loop-separator.place c.loop-separator.separator-iterator
    (lent (c.in-Some.separator, c.in-Some.field-0-1)) c.next.new.self
    c.loop-separator.invariant.at c.in-Some.ensures.steps in
    omega (arith, next.0, six_each (branches_of page), used_most page c.requires)

pub loop-separator-preserved : goal.loop-separator-preserved
loop-separator-preserved c =
    let upto = not_below_is_le c.args.key.now c.in-Some.separator.now c.is_below.result
    c.is_below.ensures c.if-is_below.false in
    passed_more (IsUpTo c.args.key.now) (branches_of c.args.page.now) c.loop-separator.place
    c.loop-separator.separator-iterator (lent (c.in-Some.separator, c.in-Some.field-0-1))
    c.next.new.self c.loop-separator.invariant c.in-Some.ensures.steps upto

pub returns : goal.returns
returns c =
    let key = c.args.key.now in
    let branches = branches_of c.args.page.now in
    let left = c.loop-separator.separator-iterator in
    let passed = c.loop-separator.invariant in
    let behind = none_behind branches key c.loop-separator.place left passed.at
    c.in-None.ensures.steps.0 in
    record {
      number = passed_number branches key c.loop-separator.place left passed behind;
      before = passed_before branches key c.loop-separator.place left passed;
      behind = behind;
    }
