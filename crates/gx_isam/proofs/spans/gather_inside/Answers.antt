use Rattle.std.proofs.Common.{rules, ◌≡◌, ◌<◌, [], ap, refl, ◌∙◌, arith}
use Rattle.gx_ports.specs.Files.{IsWhole}
use Rattle.gx_ports.proofs.PageLemmas.{read_pages_joined, ends_handed_on}
use Rattle.gx_chain.specs.Chain.{HasChain}
use Rattle.gx_chain.proofs.SpanLemmas.{gathering_first, gathering_more, chain_now}
use Rattle.gx_isam_index.specs.Index.{bucket_count, bucket_of, first_page_of, last_bucket}
use Rattle.gx_isam.specs.Isam.{IsIsam}
use Rattle.gx_isam.proofs.SpanLemmas.{index_chains, gathered}
use Rattle.gx_isam.proofs.spans.gather_inside.Goals as goal

pub loop-bucket-init : goal.loop-bucket-init
loop-bucket-init g c =
    let index = c.read_index.new.page in
    let first = c.bucket_of-from.ensures.below in
    let none : c.new-found.result.items ≡ [] = search rules in
    gathering_first g.P.PageView c.args.place.now.owner (first_page_of index)
    (bucket_count index) c.args.span.now.lo c.args.span.now.hi
    c.args.pages.now c.bucket_of-from.result c.read_index.new.pages c.new-found.result.items
    c.read_index.ensures.reads (c.in_ok-read_index.ensures.ends.cause.counted refl)
    (omega (arith, first)) none

pub returns-in_err-gather_bucket-clause-reads : goal.returns-in_err-gather_bucket-clause-reads
returns-in_err-gather_bucket-clause-reads g c =
    read_pages_joined g.P.PageView c.loop-bucket.invariant.reads c.gather_bucket.ensures.reads

pub gather_bucket-requires-clause-bucket : goal.gather_bucket-requires-clause-bucket
gather_bucket-requires-clause-bucket g c =
    let last = c.last_bucket-last.ensures.below in
    let test = c.loop-bucket-test.true in
    omega (arith, last, test)

pub returns-in_err-gather_bucket-clause-ends : goal.returns-in_err-gather_bucket-clause-ends
returns-in_err-gather_bucket-clause-ends g c =
    let i = c.loop-bucket.invariant in
    let p = c.args.pages.now in
    let now = c.loop-bucket.pages in
    let place = c.args.place.now in
    let n = c.loop-bucket.bucket in
    let index = c.read_index.new.page in
    let last = c.last_bucket-last.ensures.below in
    let test = c.loop-bucket-test.true in
    let below : n < bucket_count index = omega (arith, last, test) in
    ends_handed_on {T = Unit {0}} g.P.PageView
    (IsWhole g.P.PageView (IsIsam (g.P.PageView.ground p) place) p)
    (HasChain g.P.PageView now (first_page_of index n)) p now c.gather_bucket.new.pages _
    c.from_residual-in_err-gather_bucket.result
    i.faults i.reads.keeps.ground
    (λ whole. (let h = whole.1.file in
    let chains = index_chains (g.P.PageView.ground p) place (g.P.PageView.working p) whole.0 index
    (c.in_ok-read_index.ensures.bytes whole.1.told) h in (
      whole.1.told,
      place.owner,
      h.pages n,
      chain_now g.P.PageView place.owner (first_page_of index)
          (bucket_count index) c.args.span.now.lo
          c.args.span.now.hi p c.bucket_of-from.result now n (h.pages n) i.reads
          (chains.chains n below),
    )))
    c.in_err-gather_bucket.ensures.ends c.from_residual-in_err-gather_bucket.ensures.1

pub loop-bucket-preserved : goal.loop-bucket-preserved
loop-bucket-preserved g c =
    let owner = c.args.place.now.owner in
    let index = c.read_index.new.page in
    let last = c.last_bucket-last.ensures.below in
    let test = c.loop-bucket-test.true in
    gathering_more g.P.PageView owner (first_page_of index) (bucket_count index) c.args.span.now.lo
    c.args.span.now.hi c.args.pages.now
    c.bucket_of-from.result
    c.loop-bucket.pages c.gather_bucket.new.pages c.loop-bucket.found.items
    c.gather_bucket.new.found.items c.loop-bucket.bucket
    c.loop-bucket.invariant (omega (arith, last, test)) c.gather_bucket.ensures.reads
    (c.in_ok-gather_bucket.ensures.ends.cause.counted refl)
    (λ told. c.in_ok-gather_bucket.ensures.found told owner)

pub returns-clause-found : goal.returns-clause-found
returns-clause-found g c map holds =
    let i = c.loop-bucket.invariant in
    let ground = g.P.PageView.ground c.args.pages.now in
    let s = g.P.PageView.working c.args.pages.now in
    let place = c.args.place.now in
    let h = holds.file in
    let index = c.read_index.new.page in
    let index_is = c.in_ok-read_index.ensures.bytes holds.told in
    let over = c.loop-bucket-test.false in
    let from_is = c.bucket_of-from.ensures.value ∙ ap (bucket_of index) c.as_slice.ensures.value in
    let last_is = c.last_bucket-last.ensures.value
    ∙ ap (last_bucket index) c.as_slice-2.ensures.value in
    gathered ground place s map index index_is h c.args.span.now.lo c.args.span.now.hi
    c.loop-bucket.found.items c.bucket_of-from.result
    c.loop-bucket.bucket i.low i.within from_is (omega (arith, over, last_is))
    (i.found_is holds.told h.pages (index_chains ground place s map index index_is h).chains)
