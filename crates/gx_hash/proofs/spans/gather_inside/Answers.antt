use Rattle.std.proofs.Common.{rules, ◌≡◌, ◌+◌, ◌<◌, [], refl, sym, subst, arith}
use Rattle.gx_ports.specs.Files.{IsWhole}
use Rattle.gx_ports.specs.Roots.{roots_of}
use Rattle.gx_ports.proofs.PageLemmas.{pages_read_themselves, read_pages_joined, ends_handed_on}
use Rattle.gx_chain.specs.Chain.{IsChain, HasChain}
use Rattle.gx_chain.proofs.SpanLemmas.{gathering_first, gathering_more, chain_now}
use Rattle.gx_hash.specs.Hash.{IsHash}
use Rattle.gx_hash.proofs.SpanLemmas.{gathered}
use Rattle.gx_hash.proofs.spans.gather_inside.Goals as goal

pub loop-bucket-init : goal.loop-bucket-init
loop-bucket-init g c =
    let p = c.args.pages.now in
    let place = c.args.place.now in
    let none : c.new-found.result.items ≡ [] = search rules in
    let ordered = c.buckets_inside-from.ensures.ordered in
    let within = c.buckets_inside-from.ensures.within in
    gathering_first g.P.PageView place.owner (λ n. place.root + n)
    (roots_of place.spec) c.args.span.now.lo c.args.span.now.hi p
    c.buckets_inside-from.result.0 p c.new-found.result.items
    (pages_read_themselves g.P.PageView p) refl (omega (arith, ordered, within)) none

pub returns-in_err-gather_from-clause-reads : goal.returns-in_err-gather_from-clause-reads
returns-in_err-gather_from-clause-reads g c =
    read_pages_joined g.P.PageView c.loop-bucket.invariant.reads c.gather_from.ensures.reads

pub returns-in_err-gather_from-clause-ends : goal.returns-in_err-gather_from-clause-ends
returns-in_err-gather_from-clause-ends g c =
    let i = c.loop-bucket.invariant in
    let p = c.args.pages.now in
    let now = c.loop-bucket.pages in
    let place = c.args.place.now in
    let n = c.loop-bucket.bucket in
    let within = c.buckets_inside-from.ensures.within in
    let below : n < roots_of place.spec = omega (arith, c.loop-bucket-test.true, within) in
    ends_handed_on {T = Unit {0}} g.P.PageView
    (IsWhole g.P.PageView (IsHash (g.P.PageView.ground p) place) p)
    (HasChain g.P.PageView now c.root-first.result) p now c.gather_from.new.pages _
    c.from_residual.result
    i.faults i.reads.keeps.ground
    (λ whole. (let h = whole.1.file in (
      whole.1.told,
      place.owner,
      h.pages n,
      subst (λ m. IsChain (g.P.PageView.ground now) place.owner (g.P.PageView.working now) m
          (h.pages n)) (sym c.root-first.ensures)
          (chain_now g.P.PageView place.owner (λ m. place.root + m)
          (roots_of place.spec) c.args.span.now.lo c.args.span.now.hi p
          c.buckets_inside-from.result.0 now n (h.pages n) i.reads (h.chains n below)),
    )))
    c.in_err-gather_from.ensures.ends c.from_residual.ensures.1

pub loop-bucket-preserved : goal.loop-bucket-preserved
loop-bucket-preserved g c =
    let place = c.args.place.now in
    let now = c.loop-bucket.pages in
    let within = c.buckets_inside-from.ensures.within in
    gathering_more g.P.PageView place.owner (λ n. place.root + n)
    (roots_of place.spec) c.args.span.now.lo c.args.span.now.hi
    c.args.pages.now c.buckets_inside-from.result.0
    now c.gather_from.new.pages c.loop-bucket.found.items c.gather_from.new.found.items
    c.loop-bucket.bucket c.loop-bucket.invariant
    (omega (arith, c.loop-bucket-test.true, within)) c.gather_from.ensures.reads
    (c.in_ok-gather_from.ensures.ends.cause.counted refl)
    (λ told all chain. c.in_ok-gather_from.ensures.found told place.owner all
    (subst (λ m. IsChain (g.P.PageView.ground now) place.owner (g.P.PageView.working now) m all)
    (sym c.root-first.ensures) chain))

pub returns-clause-found : goal.returns-clause-found
returns-clause-found g c map holds =
    let i = c.loop-bucket.invariant in
    let p = c.args.pages.now in
    let low = i.low in
    let within = c.buckets_inside-from.ensures.within in
    let ordered = c.buckets_inside-from.ensures.ordered in
    let over = c.loop-bucket-test.false in
    gathered (g.P.PageView.ground p) c.args.place.now (g.P.PageView.working p) map holds.file
    c.args.span.now.lo c.args.span.now.hi
    c.loop-bucket.found.items c.buckets_inside-from.result.0 c.loop-bucket.bucket low i.within
    (λ key inside. (let at = c.buckets_inside-from.ensures.inside key inside in let most = at.1 in
    (at.0, omega (arith, most, over))))
    (i.found_is holds.told holds.file.pages holds.file.chains)
