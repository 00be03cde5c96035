use Rattle.std.proofs.Common.{drop, subst, arith}
use Rattle.std.specs.Bool.{OnFalse}
use Rattle.gx_slots.specs.Entries.{lent}
use Rattle.gx_btree.specs.Selection.{IsPastSpan}
use Rattle.gx_btree.proofs.GiveLemmas.{giving_starts, giving_cut, giving_more, giving_past, giving_ended}
use Rattle.gx_btree.proofs.selection.give.Goals as goal

pub loop-init : goal.loop-init
loop-init c =
    giving_starts c.args.out.now c.args.from.now c.args.span.now.lo c.args.span.now.hi
    c.args.page.now
    c.page_body-rest.result.now c.page_body-rest.ensures

pub returns-in_default-clause-ok : goal.returns-in_default-clause-ok
returns-in_default-clause-ok c up =
    absurd
    (giving_cut c.args.out.now c.args.from.now c.args.span.now.lo c.args.span.now.hi c.args.page.now
    (drop 8 c.args.page.now) c.loop.counter c.loop.out c.loop.rest.now c.record_count-end.result
    c.loop.invariant c.record_count-end.ensures
    c.loop-test.true c.in_default.ensures up)

pub returns-in_default-clause-sound : goal.returns-in_default-clause-sound
returns-in_default-clause-sound c up =
    absurd
    (giving_cut c.args.out.now c.args.from.now c.args.span.now.lo c.args.span.now.hi c.args.page.now
    (drop 8 c.args.page.now) c.loop.counter c.loop.out c.loop.rest.now c.record_count-end.result
    c.loop.invariant c.record_count-end.ensures
    c.loop-test.true c.in_default.ensures up)

pub returns-then-not-branch-clause-ok : goal.returns-then-not-branch-clause-ok
returns-then-not-branch-clause-ok c up =
    let found = c.in-Some.ensures in
    giving_past c.args.out.now c.args.from.now c.args.span.now.lo c.args.span.now.hi c.args.page.now
    (drop 8 c.args.page.now) c.loop.counter c.loop.out c.loop.rest.now c.record_count-end.result
    c.loop.invariant c.record_count-end.ensures
    (lent (c.in-Some.key, c.in-Some.body)) c.in-Some.behind.now c.loop-test.true found.0 found.1
    c.give_entry.new.out c.in_ok-give_entry.ensures.ok
    (subst (λ b. OnFalse b (IsPastSpan c.args.span.now.hi c.in-Some.key.now)) c.if-not-branch.true
    c.in_ok-give_entry.ensures.past) up

pub loop-preserved : goal.loop-preserved
loop-preserved c =
    let found = c.in-Some.ensures in
    giving_more c.args.out.now c.args.from.now c.args.span.now.lo c.args.span.now.hi c.args.page.now
    (drop 8 c.args.page.now) c.loop.counter c.loop.out c.loop.rest.now c.record_count-end.result
    c.loop.invariant c.record_count-end.ensures
    (lent (c.in-Some.key, c.in-Some.body)) c.in-Some.behind.now c.loop-test.true found.0 found.1
    c.give_entry.new.out c.in_ok-give_entry.ensures.ok

pub returns-clause-ok : goal.returns-clause-ok
returns-clause-ok c up =
    giving_ended c.args.out.now c.args.from.now c.args.span.now.lo c.args.span.now.hi
    c.args.page.now
    (drop 8 c.args.page.now) c.loop.counter c.loop.out c.loop.rest.now c.record_count-end.result
    c.loop.invariant c.record_count-end.ensures
    (let over = c.loop-test.false in omega (arith, over)) up
