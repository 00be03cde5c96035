use Rattle.std.proofs.Common.{◌+◌, refl, sym, subst, ◌∙◌}
use Rattle.std.proofs.lemmas.Bool.{false≢true}
use Rattle.gx_ports.specs.Sheets.{Ground, IsHome}
use Rattle.gx_ports.proofs.PageLemmas.{ends_handed_on}
use Rattle.gx_chain.specs.Check.{HasUnseenChain}
use Rattle.gx_chain.proofs.PlacedChainLemmas.{placed_chain, keys_have, keys_placed, unseen_chain}
use Rattle.gx_seen.proofs.EndLemmas.{ends_shown}
use Rattle.gx_hash.specs.Buckets.{hash_bucket}
use Rattle.gx_hash.specs.Visited.{ArePlaced, HasUnseenBucket}
use Rattle.gx_hash.proofs.visits.visit_bucket.Goals as goal

pub returns-in_err-visit_chain-clause-ends : goal.returns-in_err-visit_chain-clause-ends
returns-in_err-visit_chain-clause-ends g c =
    let p = c.args.pages.now in
    let place = c.args.place.now in
    let seen = c.args.visits.now.seen.items in
    ends_handed_on {T = Unit {0}} g.P.PageView
    (HasUnseenBucket g.P.PageView p place c.args.bucket seen)
    (HasUnseenChain g.P.PageView p place.owner c.root-first.result seen) p p
    c.visit_chain.new.pages _ c.from_residual.result
    refl refl (unseen_chain g.P.PageView p place.owner (place.root + c.args.bucket)
    c.root-first.result
    (ArePlaced place (g.P.PageView.working p) c.args.bucket) seen (sym c.root-first.ensures))
    c.in_err-visit_chain.ensures.ends c.from_residual.ensures.1

pub returns-then-not-are_placed-clause-ends : goal.returns-then-not-are_placed-clause-ends
returns-then-not-are_placed-clause-ends g c =
    let p = c.args.pages.now in
    let place = c.args.place.now in
    let seen = c.args.visits.now.seen.items in
    ends_shown g.P.PageView (HasUnseenBucket g.P.PageView p place c.args.bucket seen) p
    c.visit_chain.new.pages c.block.result
    (c.in_ok-visit_chain.ensures.ends.cause.counted refl)
    (subst (λ (x : Ground). IsHome x c.block.result) c.visit_chain.ensures.reads.keeps.ground
    (_, c.block.ensures.home))
    (λ n. false≢true (sym c.if-not-are_placed.true ∙ c.are_placed.ensures
    ∙ keys_placed (g.P.PageView.ground p) place.owner (g.P.PageView.working p)
    (place.root + c.args.bucket) c.root-first.result seen
    c.visit_chain.new.visits (sym c.root-first.ensures) (c.in_ok-visit_chain.ensures.visited n.told)
    (hash_bucket place.spec) c.args.bucket n.pages n.chain n.placed))

pub returns-clause-visited : goal.returns-clause-visited
returns-clause-visited g c told =
    let ground = g.P.PageView.ground c.args.pages.now in
    let s = g.P.PageView.working c.args.pages.now in
    let place = c.args.place.now in
    let at = place.root + c.args.bucket in
    let seen = c.args.visits.now.seen.items in
    let v = c.in_ok-visit_chain.ensures.visited told in
    placed_chain ground place.owner s at c.root-first.result seen c.visit_chain.new.visits
    (sym c.root-first.ensures) v
    (ArePlaced place s c.args.bucket)
    (keys_have ground place.owner s at c.root-first.result seen c.visit_chain.new.visits
    (sym c.root-first.ensures) v
    (hash_bucket place.spec) c.args.bucket (sym c.are_placed.ensures ∙ c.if-not-are_placed.false))
