use Rattle.std.proofs.Common.{◌≡◌, ◌≢◌, sym, subst, ◌∙◌, refl, rules}
use Rattle.std.specs.List.{Contains}
use Rattle.gx_ports.proofs.PageLemmas.{ends_handed_on}
use Rattle.gx_ports.specs.Sheets.{Ground}
use Rattle.gx_chain.specs.Chain.{IsChain, IsEntryAt}
use Rattle.gx_chain.specs.Changes.{HasRoomAt}
use Rattle.gx_chain.specs.Walk.{IsReadyToDrop, IsReadyToPut, IsDropped}
use Rattle.gx_chain.proofs.ChainLemmas.{linked_page}
use Rattle.gx_chain.proofs.PutLemmas.{still_room, room_there, last_among, put_there, put_behind, fresh_off, claimed_chain, claimed_old}
use Rattle.gx_chain.proofs.put.put_away.Goals as goal

pub returns-in_err-add_to-clause-claims : goal.returns-in_err-add_to-clause-claims
returns-in_err-add_to-clause-claims g c =
    let p = c.args.pages.now in
    let u = c.drop_old.new.pages in
    let ground = g.P.PageView.ground p in
    let s = g.P.PageView.working p in
    record {
      full = search rules;
      unchanged = search rules;
      keeps = search rules;
      ends =
          ends_handed_on g.P.PageView
          (IsReadyToPut g.P.PageView p c.args.owner c.args.key.now c.args.body.now c.args.away)
          (HasRoomAt g.P.PageView u c.in-Some.room c.args.key.now c.args.body.now) p u
          c.add_to.new.pages
          _ c.from_residual-in_err-add_to.result
          (c.in_ok-drop_old.ensures.ends.cause.counted refl) c.drop_old.ensures.keeps.ground
          (λ r. (let there = room_there s c.args.key.now c.args.body.now r.pages c.args.away.old
          c.args.away.room
          c.in-Some.room r.ready.noted c.in-Some.is in (
            r.told,
            still_room ground c.args.owner r.first c.args.key.now c.args.body.now s
                (g.P.PageView.working u) r.pages
                (c.in_ok-drop_old.ensures.dropped r.told c.args.owner r.first r.pages r.ready.chain
                r.ready.noted.old_is)
                c.in-Some.room there.0 there.1,
          )))
          c.in_err-add_to.ensures.ends c.from_residual-in_err-add_to.ensures.1;
      frugal = search rules;
    }

pub returns-in-Some-clause-put : goal.returns-in-Some-clause-put
returns-in-Some-clause-put g c told first before ready =
    let p = c.args.pages.now in
    let s = g.P.PageView.working p in
    let there = room_there s c.args.key.now c.args.body.now before c.args.away.old c.args.away.room
    c.in-Some.room ready.noted c.in-Some.is in
    put_there (g.P.PageView.ground p) c.args.owner first c.args.key.now c.args.body.now s
    (g.P.PageView.working c.drop_old.new.pages) (g.P.PageView.working c.add_to.new.pages) before
    (c.in_ok-drop_old.ensures.dropped told c.args.owner first before ready.chain ready.noted.old_is)
    c.in-Some.room there.0 (c.in_ok-add_to.ensures.added told)

pub returns-in_err-drop_old-2-clause-claims : goal.returns-in_err-drop_old-2-clause-claims
returns-in_err-drop_old-2-clause-claims g c =
    let p = c.args.pages.now in
    let u = c.claim.new.self in
    let ground = g.P.PageView.ground p in
    let s = g.P.PageView.working p in
    record {
      full = search rules;
      unchanged = search rules;
      keeps = search rules;
      ends =
          ends_handed_on {T = Unit {0}} g.P.PageView
          (IsReadyToPut g.P.PageView p c.args.owner c.args.key.now c.args.body.now c.args.away)
          (IsReadyToDrop g.P.PageView u c.args.key.now c.args.away.old) p u c.drop_old-2.new.pages _
          c.from_residual-in_err-drop_old-2.result
          (c.in_ok-fresh.ensures.cause.counted refl) c.claim.ensures.keeps.ground
          (λ r. (let claimed = c.in_ok-fresh.ensures.claimed r.told in record {
            told = r.told;
            owner = c.args.owner;
            first = r.first;
            pages = r.pages;
            chain =
                subst (λ (x : Ground). IsChain x c.args.owner (g.P.PageView.working u) r.first
                r.pages)
                (sym c.claim.ensures.keeps.ground)
                (claimed_chain ground c.args.owner r.first s (g.P.PageView.working u) r.pages
                c.in_ok-fresh.fresh
                r.ready.chain c.requires.least claimed);
            has = claimed_old ground c.args.owner r.first s (g.P.PageView.working u) r.pages
                c.in_ok-fresh.fresh r.ready.chain c.requires.least claimed c.args.key.now
                c.args.away.old
                r.ready.noted.old_is;
          }))
          c.in_err-drop_old-2.ensures.ends c.from_residual-in_err-drop_old-2.ensures.1;
      frugal = search rules;
    }

pub returns-in_err-append-clause-claims : goal.returns-in_err-append-clause-claims
returns-in_err-append-clause-claims g c =
    let p = c.args.pages.now in
    let u = c.claim.new.self in
    let v = c.drop_old-2.new.pages in
    let ground = g.P.PageView.ground p in
    let s = g.P.PageView.working p in
    let gr = c.claim.ensures.keeps.ground in
    record {
      full = search rules;
      unchanged = search rules;
      keeps = search rules;
      ends =
          ends_handed_on g.P.PageView
          (IsReadyToPut g.P.PageView p c.args.owner c.args.key.now c.args.body.now c.args.away)
          (IsEntryAt g.P.PageView v c.args.away.last × (c.args.away.last ≢ c.in_ok-fresh.fresh)) p v
          c.append.new.pages _ c.from_residual-in_err-append.result
          (c.in_ok-drop_old-2.ensures.ends.cause.counted refl
          ∙ c.in_ok-fresh.ensures.cause.counted refl)
          (c.drop_old-2.ensures.keeps.ground ∙ gr)
          (λ r. (let claimed = c.in_ok-fresh.ensures.claimed r.told in
          let chain = claimed_chain ground c.args.owner r.first s (g.P.PageView.working u) r.pages
          c.in_ok-fresh.fresh r.ready.chain c.requires.least claimed in
          let old = claimed_old ground c.args.owner r.first s (g.P.PageView.working u) r.pages
          c.in_ok-fresh.fresh r.ready.chain c.requires.least claimed c.args.key.now c.args.away.old
          r.ready.noted.old_is in
          let d = c.in_ok-drop_old-2.ensures.dropped r.told c.args.owner r.first r.pages
          (subst (λ (x : Ground). IsChain x c.args.owner (g.P.PageView.working u) r.first r.pages)
          (sym gr) chain) old in
          let among = last_among r.pages r.ready.front c.args.away.last r.ready.ended in (
            (
              r.told,
              linked_page (g.P.PageView.working v) r.first r.pages c.args.away.last
                  d.chain.linked among,
            ),
            λ e. fresh_off ground c.args.owner r.first s (g.P.PageView.working u) r.pages
                c.in_ok-fresh.fresh r.ready.chain c.requires.least claimed
                (subst (Contains r.pages) e among),
          )))
          c.in_err-append.ensures.ends c.from_residual-in_err-append.ensures.1;
      frugal = search rules;
    }

pub returns-clause-put : goal.returns-clause-put
returns-clause-put g c told first before ready =
    let p = c.args.pages.now in
    let u = g.P.PageView.working c.claim.new.self in
    let v = g.P.PageView.working c.drop_old-2.new.pages in
    let ground = g.P.PageView.ground p in
    let s = g.P.PageView.working p in
    let gr = c.claim.ensures.keeps.ground in
    let claimed = c.in_ok-fresh.ensures.claimed told in
    let chain = claimed_chain ground c.args.owner first s u before c.in_ok-fresh.fresh ready.chain
    c.requires.least claimed in
    let old = claimed_old ground c.args.owner first s u before c.in_ok-fresh.fresh ready.chain
    c.requires.least claimed c.args.key.now c.args.away.old ready.noted.old_is in
    let d = subst (λ (x : Ground). IsDropped x c.args.owner first c.args.key.now u v before) gr
    (c.in_ok-drop_old-2.ensures.dropped told c.args.owner first before
    (subst (λ (x : Ground). IsChain x c.args.owner u first before) (sym gr) chain) old) in
    let among = last_among before ready.front c.args.away.last ready.ended in
    let apart = λ (e : c.args.away.last ≡ c.in_ok-fresh.fresh). fresh_off ground c.args.owner first
    s u before c.in_ok-fresh.fresh ready.chain c.requires.least claimed
    (subst (Contains before) e among) in
    put_behind ground c.args.owner first s u before c.in_ok-fresh.fresh ready.chain c.requires.least
    claimed c.args.key.now c.args.body.now v (g.P.PageView.working c.append.new.pages) d ready.front
    c.args.away.last ready.ended
    (c.in_ok-append.ensures.appended told apart)
