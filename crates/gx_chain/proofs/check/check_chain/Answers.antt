use Rattle.std.proofs.Common.{List, Bool, false, length, refl, sym, ap, subst, ◌∙◌}
use Rattle.std.proofs.lemmas.List.{length-replicate}
use Rattle.std.proofs.lemmas.Result.{on_ok_weaker}
use Rattle.gx_ports.specs.Sheets.{Sheets}
use Rattle.gx_ports.proofs.PageLemmas.{ends_as}
use Rattle.gx_chain.specs.Check.{HasWholeChain}
use Rattle.gx_seen.specs.Seen.{HasAllSeen, AreAllSeen}
use Rattle.gx_chain.proofs.VisitLemmas.{whole_chain, whole_seen}
use Rattle.gx_chain.proofs.check.check_chain.Goals as goal

pub visit_chain-requires-clause-seen : goal.visit_chain-requires-clause-seen
visit_chain-requires-clause-seen g c =
    ap length c.in_ok-visits.ensures.seen ∙ length-replicate c.pages-count.result false
    ∙ c.pages-count.ensures

pub returns-clause-whole : goal.returns-clause-whole
returns-clause-whole g c told =
    let p = c.args.pages.now in
    let s = g.P.PageView.working p in
    let ground = g.P.PageView.ground p in
    on_ok_weaker c.seek_unseen.result
    (λ all. whole_chain ground c.args.owner s c.args.first c.pages-count.result
    c.in_ok-visits.visits.seen.items c.visit_chain.new.visits c.in_ok-visits.ensures.seen
    (c.in_ok-visit_chain.ensures.visited told)
    (subst (λ (x : List Bool). AreAllSeen s c.args.owner x) c.deref.ensures.value
    (subst (λ (x : Sheets). AreAllSeen x c.args.owner c.deref.result.now)
    c.visit_chain.ensures.reads.working all)))
    (c.seek_unseen.ensures.all told)

pub returns-clause-ends : goal.returns-clause-ends
returns-clause-ends g c =
    let p = c.args.pages.now in
    let now = c.visit_chain.new.pages in
    let s = g.P.PageView.working p in
    let ground = g.P.PageView.ground p in
    ends_as g.P.PageView (HasWholeChain g.P.PageView p c.args.owner c.args.first)
    (HasAllSeen g.P.PageView now c.args.owner c.deref.result.now) p now c.seek_unseen.new.pages
    c.seek_unseen.result
    (c.in_ok-visit_chain.ensures.ends.cause.counted refl) c.visit_chain.ensures.reads.keeps.ground
    (λ has. (
      has.told,
      subst (λ (x : Sheets). AreAllSeen x c.args.owner c.deref.result.now)
          (sym c.visit_chain.ensures.reads.working)
          (subst (λ (x : List Bool). AreAllSeen s c.args.owner x) (sym c.deref.ensures.value)
          (whole_seen ground c.args.owner s c.args.first c.pages-count.result
          c.in_ok-visits.visits.seen.items c.visit_chain.new.visits
          c.in_ok-visits.ensures.seen (c.in_ok-visit_chain.ensures.visited has.told) has.whole)),
    ))
    c.seek_unseen.ensures.ends
