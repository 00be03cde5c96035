use Rattle.std.proofs.Common.{drop, arith}
use Rattle.gx_slots.specs.Entries.{lent}
use Rattle.gx_chain.proofs.GatherLemmas.{passed_starts, passed_cut, passed_on, passed_end}
use Rattle.gx_chain.proofs.gather.copy_inside.Goals as goal

pub loop-init : goal.loop-init
loop-init c is =
    passed_starts c.args.found.now.items c.args.span.now.lo c.args.span.now.hi c.args.page.now
    c.page_body-rest.result.now c.page_body-rest.ensures is

pub returns-in_default-clause-ok : goal.returns-in_default-clause-ok
returns-in_default-clause-ok c is =
    absurd
    (passed_cut c.args.found.now.items c.args.span.now.lo c.args.span.now.hi c.args.page.now
    (drop 8 c.args.page.now) c.loop.counter
    c.loop.found.items c.loop.rest.now c.record_count-end.result c.loop.invariant
    c.record_count-end.ensures is
    c.loop-test.true c.in_default.ensures)

pub returns-in_default-clause-sound : goal.returns-in_default-clause-sound
returns-in_default-clause-sound c is =
    absurd
    (passed_cut c.args.found.now.items c.args.span.now.lo c.args.span.now.hi c.args.page.now
    (drop 8 c.args.page.now) c.loop.counter
    c.loop.found.items c.loop.rest.now c.record_count-end.result c.loop.invariant
    c.record_count-end.ensures is
    c.loop-test.true c.in_default.ensures)

pub loop-preserved : goal.loop-preserved
loop-preserved c is =
    let found = c.in-Some.ensures in
    passed_on c.args.found.now.items c.args.span.now.lo c.args.span.now.hi c.args.page.now
    (drop 8 c.args.page.now) c.loop.counter c.loop.found.items c.loop.rest.now
    c.record_count-end.result c.loop.invariant c.record_count-end.ensures is
    (lent (c.in-Some.key, c.in-Some.body)) c.in-Some.behind.now c.copy_entry.new.found.items
    c.loop-test.true found.0 found.1 c.in_ok-copy_entry.ensures

pub returns-clause-ok : goal.returns-clause-ok
returns-clause-ok c is =
    passed_end c.args.found.now.items c.args.span.now.lo c.args.span.now.hi c.args.page.now
    (drop 8 c.args.page.now) c.loop.counter c.loop.found.items c.loop.rest.now
    c.record_count-end.result c.loop.invariant c.record_count-end.ensures is
    (let over = c.loop-test.false in omega (arith, over))
