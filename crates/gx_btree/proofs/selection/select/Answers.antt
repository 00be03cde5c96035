use Rattle.std.proofs.Common.{◌≡◌, ◌+◌, ◌++◌, ◌∙◌, refl, subst, sym, arith, rules}
use Rattle.std.proofs.lemmas.Bool.{false≢true}
use Rattle.gx_slots.specs.Page.{entries_of}
use Rattle.gx_btree.specs.Search.{IsFound}
use Rattle.gx_btree.specs.Selection.{given_from}
use Rattle.gx_btree.proofs.CallLemmas.{ends_handed}
use Rattle.gx_btree.proofs.EntryLemmas.{entries_up}
use Rattle.gx_btree.proofs.SelectingLemmas.{IsSelecting, holds_now, selecting_starts, selecting_ends, selecting_goes, selecting_all, selecting_past, selecting_front, selecting_torn, selecting_lost}
use Rattle.gx_ports.specs.Sheets.{IsHome}
use Rattle.gx_btree.proofs.selection.select.Goals as goal

pub loop-init : goal.loop-init
loop-init g c =
    selecting_starts g.P.PageView c.args.place.now c.args.span.now.lo c.args.span.now.hi
    c.args.pages.now
    c.args.out.now c.from_slice-key.result (c.from_slice-key.ensures ∙ c.as_slice.ensures.value)

pub returns-in_err-at : goal.returns-in_err-at
returns-in_err-at g c =
    record {
      ok = search rules;
      extends = search rules;
      reads = search rules;
      ends =
          ends_handed g.P.PageView _ _ _ c.args.pages.now c.find.new.pages _ c.from_residual.result
          (selecting_ends g.P.PageView c.args.place.now c.args.span.now.lo c.args.span.now.hi
          c.args.pages.now
          c.args.out.now c.loop.pages c.loop.out c.loop.key c.loop.invariant c.find.new.pages _
          c.in_err-at.ensures.ends)
          c.from_residual.ensures.1;
      not_full = search rules;
    }

pub returns-then-not-branch : goal.returns-then-not-branch
returns-then-not-branch g c =
    let i = c.loop.invariant in
    let e = c.in_ok-at.ensures in
    record {
      ok = search rules;
      extends =
          selecting_front g.P.PageView c.args.place.now c.args.span.now.lo c.args.span.now.hi
          c.args.pages.now
          c.args.out.now c.loop.pages c.loop.out c.loop.key i c.give.new.out c.give.ensures.extends;
      reads = search rules;
      ends =
          selecting_torn g.P.PageView c.args.place.now c.args.span.now.lo c.args.span.now.hi
          c.args.pages.now
          c.args.out.now c.loop.pages c.loop.out c.loop.key i c.find.new.pages c.block.result
          (e.ends.cause.counted refl)
          (subst (λ x. IsHome x c.block.result) (e.reads.keeps.ground ∙ i.reads.keeps.ground)
          (_, c.block.ensures.home))
          (λ m holds.
          let here =
          holds_now g.P.PageView c.args.place.now c.args.span.now.lo c.args.span.now.hi
          c.args.pages.now
          c.args.out.now c.loop.pages c.loop.out c.loop.key i m holds in
          false≢true (sym c.if-not-branch.true ∙ c.in_ok-give.ensures.sound (e.shown m here).0));
      not_full = search rules;
    }

pub returns-in_default : goal.returns-in_default
returns-in_default g c =
    let lo = c.args.span.now.lo in
    let hi = c.args.span.now.hi in
    let key = c.loop.key in
    let i = c.loop.invariant in
    let page = c.find.new.page in
    let es = entries_of page in
    record {
      ok = λ m holds.
          let here = holds_now g.P.PageView c.args.place.now lo hi c.args.pages.now c.args.out.now
          c.loop.pages c.loop.out key i m holds in
          let shown = c.in_ok-at.ensures.shown m here in
          let found =
          subst (λ b. IsFound holds.file.tree key b es) c.in_default.is
          (subst (λ k. IsFound holds.file.tree k c.find.new.bound es)
          c.as_slice-in-loop.ensures.value
          (c.in_ok-at.ensures.found m here)) in
          selecting_all g.P.PageView c.args.place.now lo hi c.args.pages.now c.args.out.now
          c.loop.pages
          c.loop.out key i
          m holds es c.give.new.out (entries_up page shown) found
          (subst (λ k. c.give.new.out ≡ c.loop.out ++ given_from k lo hi es)
          c.as_slice-in-loop-2.ensures.value (c.in_ok-give.ensures.ok shown.0));
      extends =
          selecting_front g.P.PageView c.args.place.now lo hi c.args.pages.now c.args.out.now
          c.loop.pages c.loop.out key i c.give.new.out c.give.ensures.extends;
      reads = search rules;
      ends = search rules;
      not_full = search rules;
    }

pub returns-then-is_past : goal.returns-then-is_past
returns-then-is_past g c =
    let lo = c.args.span.now.lo in
    let hi = c.args.span.now.hi in
    let key = c.loop.key in
    let i = c.loop.invariant in
    let page = c.find.new.page in
    let es = entries_of page in
    let next = c.in-Some.next in
    record {
      ok = λ m holds.
          let here = holds_now g.P.PageView c.args.place.now lo hi c.args.pages.now c.args.out.now
          c.loop.pages c.loop.out key i m holds in
          let shown = c.in_ok-at.ensures.shown m here in
          let found =
          subst (λ b. IsFound holds.file.tree key b es) c.in-Some.is
          (subst (λ k. IsFound holds.file.tree k c.find.new.bound es)
          c.as_slice-in-loop.ensures.value
          (c.in_ok-at.ensures.found m here)) in
          selecting_past g.P.PageView c.args.place.now lo hi c.args.pages.now c.args.out.now
          c.loop.pages
          c.loop.out key i
          m holds es next c.give.new.out (entries_up page shown) found
          (subst (λ k. c.give.new.out ≡ c.loop.out ++ given_from k lo hi es)
          c.as_slice-in-loop-2.ensures.value (c.in_ok-give.ensures.ok shown.0))
          (rw (sym c.as_slice-in-loop-3.ensures.value) (sym c.is_past.ensures ∙ c.if-is_past.true));
      extends =
          selecting_front g.P.PageView c.args.place.now lo hi c.args.pages.now c.args.out.now
          c.loop.pages c.loop.out key i c.give.new.out c.give.ensures.extends;
      reads = search rules;
      ends = search rules;
      not_full = search rules;
    }

pub loop-preserved : goal.loop-preserved
loop-preserved g c =
    let lo = c.args.span.now.lo in
    let hi = c.args.span.now.hi in
    let key = c.loop.key in
    let i = c.loop.invariant in
    let page = c.find.new.page in
    let es = entries_of page in
    let next = c.in-Some.next in
    let e = c.in_ok-at.ensures in
    subst
    (λ k. IsSelecting g.P.PageView c.args.place.now lo hi c.args.pages.now c.find.new.pages
    c.args.out.now c.give.new.out k (c.loop.counter + 1))
    (sym (c.from_slice-key-in-loop.ensures ∙ c.as_slice-in-loop-4.ensures.value))
    (selecting_goes g.P.PageView c.args.place.now lo hi c.args.pages.now c.args.out.now
    c.loop.pages c.loop.out key i
    c.find.new.pages es next c.give.new.out e.reads (e.ends.cause.counted refl)
    c.give.ensures.extends
    (λ m holds.
    let here = holds_now g.P.PageView c.args.place.now lo hi c.args.pages.now c.args.out.now
    c.loop.pages c.loop.out key i m holds in
    let shown = e.shown m here in (
      entries_up page shown,
      subst (λ k. c.give.new.out ≡ c.loop.out ++ given_from k lo hi es)
          c.as_slice-in-loop-2.ensures.value
          (c.in_ok-give.ensures.ok shown.0),
      subst (λ b. IsFound holds.file.tree key b es) c.in-Some.is
          (subst (λ k. IsFound holds.file.tree k c.find.new.bound es)
          c.as_slice-in-loop.ensures.value (e.found m here)),
    )))

pub returns : goal.returns
returns g c =
    let i = c.loop.invariant in
    record {
      ok = search rules;
      extends = search rules;
      reads = search rules;
      ends =
          selecting_lost g.P.PageView c.args.place.now c.args.span.now.lo c.args.span.now.hi
          c.args.pages.now
          c.args.out.now c.loop.pages c.loop.out c.loop.key i c.block-2.result
          (let n = c.pages-end.ensures in let o = c.loop-test.false in omega (arith, n, o))
          (subst (λ x. IsHome x c.block-2.result) i.reads.keeps.ground (_, c.block-2.ensures.home));
      not_full = search rules;
    }
