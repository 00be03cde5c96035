use Rattle.std.proofs.Common.{◌+◌, sym, ◌∙◌, subst, arith}
use Rattle.gx_bytes.proofs.SearchLemmas.{HasTaken, at_next, at_all, taken_start, taken_next, taken_more, taken_end}
use Rattle.gx_slots.specs.Entries.{IsFit, entry_len, lent}
use Rattle.gx_slots.specs.Page.{entries_of}
use Rattle.gx_slots.proofs.PageLemmas.{page_of, four_each, used_most}
use Rattle.gx_slots.proofs.splitting.middle.Goals as goal

pub loop-key-init : goal.loop-key-init
loop-key-init c =
    taken_start entry_len 2044 (entries_of c.args.page.now) c.into_iter-key-iterator.result
    (c.into_iter-key-iterator.ensures.into_iter_gives ∙ c.entries-key-items.ensures)

pub entry_len-taken-requires : goal.entry_len-taken-requires
entry_len-taken-requires c =
    let page = c.args.page.now in
    let fit = at_all IsFit (entries_of page) c.loop-key.place c.loop-key.key-iterator
    (lent (c.in-Some.key, c.in-Some.body)) c.next.new.self
    (page_of page c.requires.page).page.holds.fit c.loop-key.invariant.at c.in-Some.ensures.steps in
    record { key = fit.key; whole = fit.whole }

pub overflow_add-taken : goal.overflow_add-taken
overflow_add-taken c =
    let page = c.args.page.now in
    let fit = at_all IsFit (entries_of page) c.loop-key.place c.loop-key.key-iterator
    (lent (c.in-Some.key, c.in-Some.body)) c.next.new.self
    (page_of page c.requires.page).page.holds.fit c.loop-key.invariant.at c.in-Some.ensures.steps in
    omega (arith, fit.whole, c.entry_len-taken.ensures, c.loop-key.invariant.below)

pub returns-then-taken-gt-HALF : goal.returns-then-taken-gt-HALF
returns-then-taken-gt-HALF c =
    let entries = entries_of c.args.page.now in
    let has = c.loop-key.invariant in
    let next = at_next entries c.loop-key.place c.loop-key.key-iterator
    (lent (c.in-Some.key, c.in-Some.body)) c.next.new.self has.at c.in-Some.ensures.steps in
    let taken = taken_next entry_len 2044 entries c.loop-key.place c.loop-key.taken
    c.loop-key.key-iterator (lent (c.in-Some.key, c.in-Some.body)) c.next.new.self has
    c.in-Some.ensures.steps in
    record {
      place = next.0;
      before = omega (arith, has.below, has.taken_is);
      across = omega (arith, taken, c.entry_len-taken.ensures);
    }

pub overflow_add-place : goal.overflow_add-place
overflow_add-place c =
    let page = c.args.page.now in
    let next = at_next (entries_of page) c.loop-key.place c.loop-key.key-iterator
    (lent (c.in-Some.key, c.in-Some.body)) c.next.new.self c.loop-key.invariant.at
    c.in-Some.ensures.steps in
    omega (arith, next.0, four_each (entries_of page), used_most page c.requires.page)

pub loop-key-preserved : goal.loop-key-preserved
loop-key-preserved c =
    let entries = entries_of c.args.page.now in
    let len = c.entry_len-taken.ensures in
    let more = taken_more entry_len 2044 entries c.loop-key.place c.loop-key.taken
    c.loop-key.key-iterator (lent (c.in-Some.key, c.in-Some.body)) c.next.new.self
    c.loop-key.invariant c.in-Some.ensures.steps (omega (arith, len)) in
    subst (λ n. HasTaken entry_len 2044 entries (c.loop-key.place + 1) (c.loop-key.taken + n)
    c.next.new.self) (sym len) more

pub returns : goal.returns
returns c =
    let entries = entries_of c.args.page.now in
    let most = taken_end entry_len 2044 entries c.loop-key.place c.loop-key.taken
    c.loop-key.key-iterator c.loop-key.invariant c.in-None.ensures.steps.0 in
    absurd (omega (arith, most, c.requires.more))
