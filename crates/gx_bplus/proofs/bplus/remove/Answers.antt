use Rattle.std.proofs.Common.{inl, inr, not, refl, sym, ap, ◌∙◌, rules, arith}
use Rattle.std.proofs.lemmas.Bool.{cases_Bool, false≢true}
use Rattle.gx_btree.proofs.CallLemmas.{ends_handed}
use Rattle.gx_bplus.proofs.FileLemmas.{removed_file}
use Rattle.gx_bplus.proofs.LandingLemmas.{landed_absent, landed_removed, removed_after}
use Rattle.gx_bplus.proofs.bplus.remove.Goals as goal

pub returns-in_err-landing : goal.returns-in_err-landing
returns-in_err-landing g c =
    record {
      ok = search rules;
      others = search rules;
      keeps = search rules;
      ends =
          ends_handed g.P.PageView _ _ _ c.args.pages.now c.land.new.pages _
          c.from_residual.result c.in_err-landing.ensures.ends c.from_residual.ensures.1;
      not_full = search rules;
      frugal = search rules;
    }

pub returns-then-not-landing : goal.returns-then-not-landing
returns-then-not-landing g c =
    let v = g.P.PageView in
    let place = c.args.place.now in
    let old = c.args.pages.now in
    let b = c.land.new.pages in
    let l = c.in_ok-landing.ensures in
    let key = c.args.key.now in
    record {
      ok = λ map holds.
          removed_file (v.ground old) place (v.working old) (v.working b) map key holds.file
          (landed_absent v place key old b c.in_ok-landing.landing.page
          c.land.new.page l.reads map holds (l.landed map holds) l.shown
          (l.sought.missing (elim (cases_Bool c.in_ok-landing.landing.sought.is_there) [
            | inl there ↦ absurd (false≢true (sym (ap not there) ∙ c.if-not-landing.true))
            | inr absent ↦ absent
          ])));
      others = search rules;
      keeps = search rules;
      ends = search rules;
      not_full = search rules;
      frugal = search rules;
    }

pub returns-then-count-eq0 : goal.returns-then-count-eq0
returns-then-count-eq0 g c =
    let l = c.in_ok-landing.ensures in
    removed_after g.P.PageView c.args.place.now c.args.key.now c.args.pages.now
    c.land.new.pages c.shrink.new.pages l.reads (l.ends.cause.counted refl)
    c.shrink.result c.shrink.ensures

pub returns : goal.returns
returns g c =
    let v = g.P.PageView in
    let place = c.args.place.now in
    let old = c.args.pages.now in
    let b = c.land.new.pages in
    let new = c.write.new.self in
    let l = c.in_ok-landing.ensures in
    let key = c.args.key.now in
    record {
      ok = λ map holds.
          removed_file (v.ground old) place (v.working old) (v.working new) map key holds.file
          (landed_removed v place key old b new c.in_ok-landing.landing.page
          c.land.new.page c.take_sought.new.page l.reads map holds (l.landed map holds)
          l.past (g.met.P.Pages.many old holds.told).1 l.shown c.take_sought.ensures.shown
          c.take_sought.ensures.taken
          (let n = c.count.ensures in let p = c.if-count-eq0.false in omega (arith, n, p))
          (c.in_ok-write.ensures.written holds.told));
      others = λ whole fault.
          (landed_removed v place key old b new c.in_ok-landing.landing.page
          c.land.new.page c.take_sought.new.page l.reads whole.0 whole.1
          (l.landed whole.0 whole.1)
          l.past (g.met.P.Pages.many old whole.1.told).1 l.shown c.take_sought.ensures.shown
          c.take_sought.ensures.taken
          (let n = c.count.ensures in let p = c.if-count-eq0.false in omega (arith, n, p))
          (c.in_ok-write.ensures.written whole.1.told)).others;
      keeps = search rules;
      ends = search rules;
      not_full = search rules;
      frugal = search rules;
    }
