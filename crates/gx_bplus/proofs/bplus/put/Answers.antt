use Rattle.std.proofs.Common.{refl, rules}
use Rattle.gx_btree.proofs.CallLemmas.{ends_handed}
use Rattle.gx_bplus.proofs.LandingLemmas.{landed_written, put_after}
use Rattle.gx_bplus.proofs.PuttingLemmas.{put_file, never_full, full_never}
use Rattle.gx_bplus.proofs.bplus.put.Goals as goal

pub returns-in_err-landing : goal.returns-in_err-landing
returns-in_err-landing g c =
    record {
      ok = search rules;
      others = search rules;
      full =
          full_never g.P.PageView _ c.args.place.now c.args.pages.now c.land.new.pages
          c.from_residual.result
          (never_full _ c.from_residual.result c.from_residual.ensures.1
          c.in_err-landing.ensures.not_full);
      keeps = search rules;
      ends =
          ends_handed g.P.PageView _ _ _ c.args.pages.now c.land.new.pages _
          c.from_residual.result c.in_err-landing.ensures.ends c.from_residual.ensures.1;
      frugal = search rules;
    }

pub returns-then-set_sought : goal.returns-then-set_sought
returns-then-set_sought g c =
    let v = g.P.PageView in
    let place = c.args.place.now in
    let old = c.args.pages.now in
    let b = c.land.new.pages in
    let new = c.write.new.self in
    let l = c.in_ok-landing.ensures in
    let key = c.args.key.now in
    let body = c.args.body.now in
    record {
      ok = λ map holds.
          put_file (v.ground old) place (v.working old) (v.working new) map key body holds.file
          (landed_written v place key body old b new c.in_ok-landing.landing.page
          c.land.new.page c.set_sought.new.page l.reads map holds (l.landed map holds)
          l.past (g.met.P.Pages.many old holds.told).1 l.shown c.set_sought.ensures.shown
          c.if-set_sought.ensures.set (c.in_ok-write.ensures.written holds.told));
      others = λ whole fault.
          (landed_written v place key body old b new c.in_ok-landing.landing.page
          c.land.new.page c.set_sought.new.page l.reads whole.0 whole.1
          (l.landed whole.0 whole.1)
          l.past (g.met.P.Pages.many old whole.1.told).1 l.shown c.set_sought.ensures.shown
          c.if-set_sought.ensures.set (c.in_ok-write.ensures.written whole.1.told)).others;
      full = search rules;
      keeps = search rules;
      ends = search rules;
      frugal = search rules;
    }

pub returns-then-not-landing : goal.returns-then-not-landing
returns-then-not-landing g c =
    let l = c.in_ok-landing.ensures in
    put_after g.P.PageView c.args.place.now c.args.key.now c.args.pages.now
    c.land.new.pages c.grow.new.pages l.reads (l.ends.cause.counted refl)
    c.args.body.now c.grow.result c.grow.ensures

pub returns : goal.returns
returns g c =
    let l = c.in_ok-landing.ensures in
    put_after g.P.PageView c.args.place.now c.args.key.now c.args.pages.now
    c.land.new.pages c.grow-2.new.pages l.reads (l.ends.cause.counted refl)
    c.args.body.now c.grow-2.result c.grow-2.ensures
