use Rattle.std.proofs.Common.{◌≡◌, ◌≢◌, [], refl, sym, subst, ◌∙◌}
use Rattle.std.proofs.lemmas.Bool.{false≢true}
use Rattle.std.proofs.lemmas.Option.{MatchOption-at_none, MatchOption-at_some}
use Rattle.std.proofs.lemmas.Result.{on_ok_weaker}
use Rattle.gx_bytes.specs.declared.page.TheConstants.{NONE}
use Rattle.gx_ports.specs.Sheets.{Sheets, Ground, IsPast, IsHome, bytes_at}
use Rattle.gx_ports.proofs.PageLemmas.{ends_as, ends_handed_on}
use Rattle.gx_slots.specs.Page.{IsEntryPage}
use Rattle.gx_chain.specs.Chain.{entries_at, LeadsOn}
use Rattle.gx_seen.proofs.EndLemmas.{ends_shown}
use Rattle.gx_chain.proofs.PlacedChainLemmas.{placed_chain, keys_have, keys_placed}
use Rattle.gx_isam_index.specs.Index.{bucket_of, first_page_of}
use Rattle.gx_isam.specs.Visited.{ArePlaced, HasUnseenBucket, HasEntryAt}
use Rattle.gx_isam.proofs.ChangeLemmas.{leads_on}
use Rattle.gx_isam.proofs.VisitedLemmas.{visited_nothing, filled_chain, entry_there}
use Rattle.gx_isam.proofs.visits.visit_bucket.Goals as goal

pub returns-in_err-first-clause-ends : goal.returns-in_err-first-clause-ends
returns-in_err-first-clause-ends g c =
    let p = c.args.pages.now in
    let owner = c.args.place.now.owner in
    let at = first_page_of c.args.index.now c.args.bucket in
    ends_handed_on g.P.PageView
    (HasUnseenBucket g.P.PageView p owner c.args.index.now c.args.bucket
    c.args.visits.now.seen.items)
    (LeadsOn (g.P.PageView.ground p) at) p p p _ c.from_residual.result
    refl refl
    (λ has. leads_on (g.P.PageView.ground p) owner (g.P.PageView.working p) at has.pages has.chain)
    c.in_err-first.ensures.ends c.from_residual.ensures.1

pub returns-in_default-clause-visited : goal.returns-in_default-clause-visited
returns-in_default-clause-visited g c told =
    let p = c.args.pages.now in
    let at = first_page_of c.args.index.now c.args.bucket in
    let none = MatchOption-at_none (at ≡ NONE) (λ n. (at ≡ n) × IsPast (g.P.PageView.ground p) n
    × (n ≢ NONE)) c.in_default.is
    c.in_ok-first.ensures.first in
    visited_nothing (g.P.PageView.ground p) c.args.place.now.owner (g.P.PageView.working p)
    c.args.index.now c.args.bucket
    c.args.visits.now.seen.items c.in_ok-first.ensures.small none

pub returns-then-not-are_placed-clause-ends : goal.returns-then-not-are_placed-clause-ends
returns-then-not-are_placed-clause-ends g c =
    let p = c.args.pages.now in
    let owner = c.args.place.now.owner in
    let index = c.args.index.now in
    let seen = c.args.visits.now.seen.items in
    let at = first_page_of index c.args.bucket in
    let found = MatchOption-at_some (at ≡ NONE) (λ n. (at ≡ n) × IsPast (g.P.PageView.ground p) n
    × (n ≢ NONE)) c.in-Some.first
    c.in-Some.is c.in_ok-first.ensures.first in
    ends_shown g.P.PageView (HasUnseenBucket g.P.PageView p owner index c.args.bucket seen) p
    c.visit_chain.new.pages c.block.result
    (c.in_ok-visit_chain.ensures.ends.cause.counted refl)
    (subst (λ (x : Ground). IsHome x c.block.result) c.visit_chain.ensures.reads.keeps.ground
    (_, c.block.ensures.home))
    (λ n. false≢true (sym c.if-not-are_placed.true ∙ c.are_placed.ensures
    ∙ keys_placed (g.P.PageView.ground p) owner (g.P.PageView.working p) at c.in-Some.first seen
    c.visit_chain.new.visits found.0
    (c.in_ok-visit_chain.ensures.visited n.told)
    (bucket_of index) c.args.bucket n.pages n.chain n.placed.placed))

pub returns-clause-visited : goal.returns-clause-visited
returns-clause-visited g c told =
    let p = c.args.pages.now in
    let index = c.args.index.now in
    let at = first_page_of index c.args.bucket in
    let found = MatchOption-at_some (at ≡ NONE) (λ n. (at ≡ n) × IsPast (g.P.PageView.ground p) n
    × (n ≢ NONE)) c.in-Some.first
    c.in-Some.is c.in_ok-first.ensures.first in
    let ground = g.P.PageView.ground p in
    let s = g.P.PageView.working p in
    let owner = c.args.place.now.owner in
    let first = c.in-Some.first in
    let seen = c.args.visits.now.seen.items in
    let v = c.in_ok-visit_chain.ensures.visited told in
    on_ok_weaker c.seek_entry.result
    (λ some. placed_chain ground owner s at first seen c.visit_chain.new.visits found.0 v
    (ArePlaced index s c.args.bucket)
    (filled_chain ground owner s index c.args.bucket first v.pages v.chain
    (keys_have ground owner s at first seen c.visit_chain.new.visits found.0 v
    (bucket_of index) c.args.bucket
    (sym c.are_placed.ensures ∙ c.if-not-are_placed.false))
    (subst (λ (x : Sheets). entries_at x first ≢ []) c.visit_chain.ensures.reads.working some)))
    (c.seek_entry.ensures.some told)

pub returns-clause-ends : goal.returns-clause-ends
returns-clause-ends g c =
    let p = c.args.pages.now in
    let r = c.visit_chain.new.pages in
    let owner = c.args.place.now.owner in
    let index = c.args.index.now in
    let first = c.in-Some.first in
    let seen = c.args.visits.now.seen.items in
    let at = first_page_of index c.args.bucket in
    let reads = c.visit_chain.ensures.reads in
    let found = MatchOption-at_some (at ≡ NONE) (λ n. (at ≡ n) × IsPast (g.P.PageView.ground p) n
    × (n ≢ NONE)) first c.in-Some.is
    c.in_ok-first.ensures.first in
    ends_as g.P.PageView (HasUnseenBucket g.P.PageView p owner index c.args.bucket seen)
    (HasEntryAt g.P.PageView r first) p r
    c.seek_entry.new.pages c.seek_entry.result
    (c.in_ok-visit_chain.ensures.ends.cause.counted refl) reads.keeps.ground
    (λ has. (let e = entry_there g.P.PageView p owner index c.args.bucket first seen found.0 has
    found.2 in (
      e.0,
      subst (λ (x : Sheets). IsEntryPage (bytes_at x first)) (sym reads.working) e.1,
      subst (λ (x : Sheets). entries_at x first ≢ [])
          (sym reads.working) e.2,
    )))
    c.seek_entry.ensures.ends
