use Rattle.std.proofs.Common.{◌≡◌, ◌+◌, ap, refl, sym, subst, ◌∙◌, arith}
use Rattle.gx_ports.specs.Files.{IsPlace, IsWhole}
use Rattle.gx_ports.specs.Roots.{roots_of}
use Rattle.gx_ports.specs.Sheets.{Ground}
use Rattle.gx_ports.proofs.PageLemmas.{read_pages_joined, ends_handed_on}
use Rattle.gx_chain.proofs.PlacedChainLemmas.{visiting_first, visiting_more, visiting_last}
use Rattle.gx_hash.specs.Hash.{IsHash}
use Rattle.gx_hash.specs.Visited.{ArePlaced, HasUnseenBucket}
use Rattle.gx_hash.proofs.VisitedLemmas.{bucket_there}
use Rattle.gx_hash.proofs.visits.visit_buckets.Goals as goal

pub loop-bucket-init : goal.loop-bucket-init
loop-bucket-init g c =
    let place = c.args.place.now in
    visiting_first g.P.PageView place.owner (λ n. place.root + n) (ArePlaced place) c.args.pages.now
    (roots_of place.spec) c.args.visits.now.seen.items c.requires.none

pub visit_bucket-requires-clause-place : goal.visit_bucket-requires-clause-place
visit_bucket-requires-clause-place g c = subst (λ (x : Ground). IsPlace x c.args.place.now)
    (sym c.loop-bucket.invariant.reads.keeps.ground) c.requires.place

pub visit_bucket-requires-clause-seen : goal.visit_bucket-requires-clause-seen
visit_bucket-requires-clause-seen g c = c.loop-bucket.invariant.long
    ∙ sym (ap (λ (x : Ground). x.size) c.loop-bucket.invariant.reads.keeps.ground)

pub returns-in_err-visit_bucket-clause-seen : goal.returns-in_err-visit_bucket-clause-seen
returns-in_err-visit_bucket-clause-seen g c = c.visit_bucket.ensures.seen
    ∙ ap (λ (x : Ground). x.size) c.loop-bucket.invariant.reads.keeps.ground

pub returns-in_err-visit_bucket-clause-reads : goal.returns-in_err-visit_bucket-clause-reads
returns-in_err-visit_bucket-clause-reads g c =
    read_pages_joined g.P.PageView c.loop-bucket.invariant.reads c.visit_bucket.ensures.reads

pub returns-in_err-visit_bucket-clause-ends : goal.returns-in_err-visit_bucket-clause-ends
returns-in_err-visit_bucket-clause-ends g c =
    let i = c.loop-bucket.invariant in
    let p = c.args.pages.now in
    let now = c.loop-bucket.pages in
    let place = c.args.place.now in
    let seen = c.loop-bucket.visits.seen.items in
    ends_handed_on {T = Unit {0}} g.P.PageView
    (IsWhole g.P.PageView (IsHash (g.P.PageView.ground p) place) p)
    (HasUnseenBucket g.P.PageView now place c.loop-bucket.bucket seen) p now
    c.visit_bucket.new.pages _ c.from_residual.result
    i.faults i.reads.keeps.ground
    (bucket_there g.P.PageView place p now c.loop-bucket.bucket seen
    (omega (arith, c.loop-bucket-test.true, c.roots-bucket-end.ensures.value)) i)
    c.in_err-visit_bucket.ensures.ends c.from_residual.ensures.1

pub loop-bucket-preserved : goal.loop-bucket-preserved
loop-bucket-preserved g c =
    let place = c.args.place.now in
    visiting_more g.P.PageView place.owner (λ n. place.root + n) (ArePlaced place) c.args.pages.now
    (roots_of place.spec)
    c.loop-bucket.pages c.loop-bucket.bucket c.loop-bucket.visits.seen.items c.loop-bucket.invariant
    c.visit_bucket.new.pages
    c.visit_bucket.new.visits.seen.items
    (omega (arith, c.loop-bucket-test.true, c.roots-bucket-end.ensures.value))
    c.visit_bucket.ensures.reads
    (c.in_ok-visit_bucket.ensures.ends.cause.counted refl) c.visit_bucket.ensures.seen
    c.in_ok-visit_bucket.ensures.visited

pub returns-clause-visited : goal.returns-clause-visited
returns-clause-visited g c =
    let place = c.args.place.now in
    let within = c.loop-bucket.invariant.within in
    let over = c.loop-bucket-test.false in
    let end : c.loop-bucket.bucket ≡ roots_of place.spec =
    omega (arith, within, over, c.roots-bucket-end.ensures.value) in
    visiting_last g.P.PageView place.owner (λ n. place.root + n) (ArePlaced place) c.args.pages.now
    (roots_of place.spec) c.loop-bucket.pages c.loop-bucket.bucket c.loop-bucket.visits.seen.items
    c.loop-bucket.invariant end
