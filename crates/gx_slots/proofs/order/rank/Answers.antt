use Rattle.std.proofs.Common.{◌∙◌, arith}
use Rattle.gx_bytes.proofs.SearchLemmas.{at_end, at_next, passed_start, passed_more}
use Rattle.gx_order.proofs.BelowLemmas.{below_is_less, not_below_is_le}
use Rattle.gx_slots.specs.Entries.{lent}
use Rattle.gx_slots.specs.Page.{entries_of}
use Rattle.gx_slots.proofs.OrderLemmas.{IsBefore, at_behind, none_behind, stops_at}
use Rattle.gx_slots.proofs.PageLemmas.{four_each, used_most}
use Rattle.gx_slots.proofs.order.rank.Goals as goal

pub loop-found-init : goal.loop-found-init
loop-found-init c =
    passed_start (IsBefore c.args.key.now) (entries_of c.args.page.now)
    c.into_iter-found-iterator.result
    (c.into_iter-found-iterator.ensures.into_iter_gives ∙ c.entries-found-items.ensures)

pub returns-then-not-is_below : goal.returns-then-not-is_below
returns-then-not-is_below c =
    let passed = c.loop-found.invariant in
    let le = not_below_is_le c.in-Some.found.now c.args.key.now c.is_below.result c.is_below.ensures
    c.if-not-is_below.true in
    record {
      place = passed.at.within;
      before = passed.before;
      stops = λ _. stops_at (entries_of c.args.page.now) c.args.key.now c.loop-found.place
          c.loop-found.found-iterator (lent (c.in-Some.found, c.in-Some.field-0-1)) c.next.new.self
          passed.at c.in-Some.ensures.steps le;
      behind = at_behind (entries_of c.args.page.now) c.args.key.now c.loop-found.place
          c.loop-found.found-iterator (lent (c.in-Some.found, c.in-Some.field-0-1)) c.next.new.self
          passed.at c.in-Some.ensures.steps le;
    }

pub overflow_add-place : goal.overflow_add-place
overflow_add-place c =
    let page = c.args.page.now in
    let next = at_next (entries_of page) c.loop-found.place c.loop-found.found-iterator
    (lent (c.in-Some.found, c.in-Some.field-0-1)) c.next.new.self c.loop-found.invariant.at
    c.in-Some.ensures.steps in
    omega (arith, next.0, four_each (entries_of page), used_most page c.requires)

pub loop-found-preserved : goal.loop-found-preserved
loop-found-preserved c =
    let less = below_is_less c.in-Some.found.now c.args.key.now c.is_below.result c.is_below.ensures
    c.if-not-is_below.false in
    passed_more (IsBefore c.args.key.now) (entries_of c.args.page.now) c.loop-found.place
    c.loop-found.found-iterator (lent (c.in-Some.found, c.in-Some.field-0-1)) c.next.new.self
    c.loop-found.invariant c.in-Some.ensures.steps less

pub returns : goal.returns
returns c =
    let passed = c.loop-found.invariant in
    record {
      place = passed.at.within;
      before = passed.before;
      stops = λ below. absurd (omega (
        arith,
        below,
        at_end (entries_of c.args.page.now)
            c.loop-found.place c.loop-found.found-iterator passed.at c.in-None.ensures.steps.0,
      ));
      behind = λ _. none_behind (entries_of c.args.page.now) c.args.key.now c.loop-found.place
          c.loop-found.found-iterator passed.at c.in-None.ensures.steps.0;
    }
