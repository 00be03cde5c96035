use Rattle.std.proofs.Common.{refl, ap, ◌∙◌, subst, arith}
use Rattle.gx_btree.specs.Reading.{Tells}
use Rattle.gx_btree.proofs.CallLemmas.{ends_handed}
use Rattle.gx_btree.proofs.FileLemmas.{place_past}
use Rattle.gx_bplus.proofs.FileLemmas.{root_ends}
use Rattle.gx_bplus.proofs.LandingLemmas.{landing_starts, landing_reads, landing_goes, landing_lands, landing_lost, IsLanding}
use Rattle.gx_ports.specs.Sheets.{IsHome}
use Rattle.gx_bplus.proofs.landing.land.Goals as goal

pub returns-in_err-step-clause-ends : goal.returns-in_err-step-clause-ends
returns-in_err-step-clause-ends g c =
    ends_handed g.P.PageView _ _ _ c.args.pages.now c.read_step.new.pages _
    c.from_residual.result
    (root_ends g.P.PageView c.args.place.now c.args.key.now c.args.pages.now
    c.read_step.new.pages _ c.in_err-step.ensures.ends)
    c.from_residual.ensures.1

pub loop-init : goal.loop-init
loop-init g c =
    let e = c.in_ok-step.ensures in (
      e.bytes,
      landing_starts g.P.PageView c.args.place.now c.args.key.now c.args.pages.now
          c.read_step.new.pages c.read_step.new.into c.in_ok-step.step e.reads
          (e.ends.cause.counted refl) e.past e.shape e.read,
    )

pub loop-preserved : goal.loop-preserved
loop-preserved g c =
    let e = c.in_ok-step-in-Inner.ensures in (
      e.bytes,
      landing_goes g.P.PageView c.args.place.now c.args.key.now c.args.pages.now c.loop.pages
          c.loop.at c.loop.page c.in-Inner.fork
          (subst (λ s. IsLanding g.P.PageView c.args.place.now c.args.key.now c.args.pages.now
          c.loop.pages c.loop.at c.loop.page s c.loop.counter) c.in-Inner.is c.loop.invariant.1)
          c.read_step-in-Inner.new.pages c.read_step-in-Inner.new.into c.in_ok-step-in-Inner.step
          e.reads (e.ends.cause.counted refl) e.past e.shape e.read,
    )

pub returns-in-Entries-clause-past : goal.returns-in-Entries-clause-past
returns-in-Entries-clause-past g c = c.loop.invariant.1.past

pub returns-in-Entries-clause-shown : goal.returns-in-Entries-clause-shown
returns-in-Entries-clause-shown g c =
    (subst (λ s. Tells c.args.key.now s c.loop.page) c.in-Entries.is c.loop.invariant.1.tells).0

pub returns-in-Entries-clause-sought : goal.returns-in-Entries-clause-sought
returns-in-Entries-clause-sought g c =
    (subst (λ s. Tells c.args.key.now s c.loop.page) c.in-Entries.is c.loop.invariant.1.tells).1

pub returns-in-Entries-clause-landed : goal.returns-in-Entries-clause-landed
returns-in-Entries-clause-landed g c map holds =
    landing_lands g.P.PageView c.args.place.now c.args.key.now c.args.pages.now c.loop.pages
    c.loop.at c.loop.page c.loop.step c.loop.invariant.1 map holds

pub returns-in_err-step-in-Inner-clause-ends : goal.returns-in_err-step-in-Inner-clause-ends
returns-in_err-step-in-Inner-clause-ends g c =
    ends_handed g.P.PageView _ _ _ c.args.pages.now c.read_step-in-Inner.new.pages _
    c.from_residual-in_err-step-in-Inner.result
    (landing_reads g.P.PageView c.args.place.now c.args.key.now c.args.pages.now c.loop.pages
    c.loop.at c.loop.page c.in-Inner.fork
    (subst (λ s. IsLanding g.P.PageView c.args.place.now c.args.key.now c.args.pages.now
    c.loop.pages c.loop.at c.loop.page s c.loop.counter) c.in-Inner.is c.loop.invariant.1)
    c.read_step-in-Inner.new.pages _ c.in_err-step-in-Inner.ensures.ends)
    c.from_residual-in_err-step-in-Inner.ensures.1

pub returns-clause-ends : goal.returns-clause-ends
returns-clause-ends g c =
    let i = c.loop.invariant.1 in
    landing_lost g.P.PageView c.args.place.now c.args.key.now c.args.pages.now c.loop.pages
    c.loop.at c.loop.page c.loop.step c.block.result i
    (let s = ap (λ e. e.size) c.in_ok-step.ensures.reads.keeps.ground in let n =
    c.pages-end.ensures in let o = c.loop-test.false in omega (arith, s, n, o))
    (subst (λ x. IsHome x c.block.result) i.reads.keeps.ground (_, c.block.ensures.home))
