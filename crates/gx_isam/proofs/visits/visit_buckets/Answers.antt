use Rattle.std.proofs.Common.{◌≡◌, ap, refl, sym, subst, ◌∙◌, arith}
use Rattle.gx_ports.specs.Files.{IsWhole}
use Rattle.gx_ports.specs.Sheets.{Ground, IsPast}
use Rattle.gx_ports.proofs.PageLemmas.{read_pages_joined, ends_handed_on}
use Rattle.gx_chain.proofs.PlacedChainLemmas.{visiting_first, visiting_more, visiting_last}
use Rattle.gx_isam_index.specs.Index.{bucket_count, first_page_of}
use Rattle.gx_isam.specs.Isam.{IsIsam}
use Rattle.gx_isam.specs.Visited.{ArePlaced, HasUnseenBucket}
use Rattle.gx_isam.proofs.VisitedLemmas.{bucket_there}
use Rattle.gx_isam.proofs.visits.visit_buckets.Goals as goal

pub loop-bucket-init : goal.loop-bucket-init
loop-bucket-init g c =
    let index = c.args.index.now in
    visiting_first g.P.PageView c.args.place.now.owner (first_page_of index)
    (ArePlaced index) c.args.pages.now
    (bucket_count index) c.args.visits.now.seen.items c.requires.none

pub visit_bucket-requires-clause-root : goal.visit_bucket-requires-clause-root
visit_bucket-requires-clause-root g c = subst (λ (x : Ground). IsPast x c.args.place.now.root)
    (sym c.loop-bucket.invariant.reads.keeps.ground) c.requires.root

pub visit_bucket-requires-clause-seen : goal.visit_bucket-requires-clause-seen
visit_bucket-requires-clause-seen g c = c.loop-bucket.invariant.long
    ∙ sym (ap (λ (x : Ground). x.size) c.loop-bucket.invariant.reads.keeps.ground)

pub returns-in_err-visit_bucket-clause-seen : goal.returns-in_err-visit_bucket-clause-seen
returns-in_err-visit_bucket-clause-seen g c = c.visit_bucket.ensures.seen
    ∙ ap (λ (x : Ground). x.size) c.loop-bucket.invariant.reads.keeps.ground

pub returns-in_err-visit_bucket-clause-reads : goal.returns-in_err-visit_bucket-clause-reads
returns-in_err-visit_bucket-clause-reads g c =
    read_pages_joined g.P.PageView c.loop-bucket.invariant.reads c.visit_bucket.ensures.reads

pub returns-in_err-visit_bucket-clause-ends : goal.returns-in_err-visit_bucket-clause-ends
returns-in_err-visit_bucket-clause-ends g c =
    let i = c.loop-bucket.invariant in
    let p = c.args.pages.now in
    let now = c.loop-bucket.pages in
    let place = c.args.place.now in
    let index = c.args.index.now in
    let seen = c.loop-bucket.visits.seen.items in
    ends_handed_on {T = Unit {0}} g.P.PageView
    (IsWhole g.P.PageView (IsIsam (g.P.PageView.ground p) place) p)
    (HasUnseenBucket g.P.PageView now place.owner index c.loop-bucket.bucket seen) p now
    c.visit_bucket.new.pages _ c.from_residual.result
    i.faults i.reads.keeps.ground
    (bucket_there g.P.PageView place index p now c.loop-bucket.bucket seen c.requires.read
    (omega (arith, c.loop-bucket-test.true, c.buckets-bucket-end.ensures.value)) i)
    c.in_err-visit_bucket.ensures.ends c.from_residual.ensures.1

pub loop-bucket-preserved : goal.loop-bucket-preserved
loop-bucket-preserved g c =
    let index = c.args.index.now in
    visiting_more g.P.PageView c.args.place.now.owner (first_page_of index)
    (ArePlaced index) c.args.pages.now (bucket_count index)
    c.loop-bucket.pages c.loop-bucket.bucket c.loop-bucket.visits.seen.items c.loop-bucket.invariant
    c.visit_bucket.new.pages
    c.visit_bucket.new.visits.seen.items
    (omega (arith, c.loop-bucket-test.true, c.buckets-bucket-end.ensures.value))
    c.visit_bucket.ensures.reads
    (c.in_ok-visit_bucket.ensures.ends.cause.counted refl) c.visit_bucket.ensures.seen
    c.in_ok-visit_bucket.ensures.visited

pub returns-clause-visited : goal.returns-clause-visited
returns-clause-visited g c =
    let index = c.args.index.now in
    let within = c.loop-bucket.invariant.within in
    let over = c.loop-bucket-test.false in
    let end : c.loop-bucket.bucket ≡ bucket_count index =
    omega (arith, within, over, c.buckets-bucket-end.ensures.value) in
    visiting_last g.P.PageView c.args.place.now.owner (first_page_of index)
    (ArePlaced index) c.args.pages.now
    (bucket_count index) c.loop-bucket.pages c.loop-bucket.bucket c.loop-bucket.visits.seen.items
    c.loop-bucket.invariant end
