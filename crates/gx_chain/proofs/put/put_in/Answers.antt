use Rattle.std.proofs.Common.{sym, subst, refl, arith, rules}
use Rattle.std.specs.Prelude.{OnOk}
use Rattle.gx_ports.proofs.PageLemmas.{ends_as}
use Rattle.gx_ports.specs.Sheets.{Sheets, Ground}
use Rattle.gx_slots.specs.Page.{entries_of}
use Rattle.gx_chain.specs.Chain.{next_at, HasChainOf}
use Rattle.gx_chain.specs.Changes.{IsPutIn}
use Rattle.gx_chain.specs.Walk.{IsSpot, IsReady, IsReadyToPut}
use Rattle.gx_chain.proofs.PutLemmas.{put_here}
use Rattle.gx_chain.proofs.WriteLemmas.{written}
use Rattle.gx_chain.proofs.put.put_in.Goals as goal

pub returns-in_ok-write-in-Here-clause-put : goal.returns-in_ok-write-in-Here-clause-put
returns-in_ok-write-in-Here-clause-put g c told before chain =
    let p = c.args.pages.now in
    let s = g.P.PageView.working p in
    let m = g.P.PageView.working c.find_spot.new.pages in
    let t = g.P.PageView.working c.write.new.self in
    let page = c.find_spot.new.page in
    let many = g.met.P.Pages.many p told in
    let spot = subst (IsSpot s c.args.key.now c.args.body.now before page) c.in-Here.is
    (c.in_ok-number.ensures.found told c.args.owner before chain) in
    let below = (chain.fit.past c.in-Here.number spot.0).below in
    put_here (g.P.PageView.ground p) c.args.owner c.args.first c.args.key.now c.args.body.now s t
    before c.in-Here.number (entries_of page) chain spot.0 spot.1.entries_are
    (written s m t c.in-Here.number (next_at s c.in-Here.number) page (entries_of page)
    c.find_spot.ensures.reads.working (omega (arith, below, many.1))
    (c.in_ok-write-in-Here.ensures.written told) spot.1.is_page refl spot.1.next_is)

pub returns-in-Away-clause-put : goal.returns-in-Away-clause-put
returns-in-Away-clause-put g c told before chain =
    let p = c.args.pages.now in
    let q = c.find_spot.new.pages in
    let s = g.P.PageView.working p in
    let m = g.P.PageView.working q in
    let t = g.P.PageView.working c.put_away.new.pages in
    let reads = c.find_spot.ensures.reads in
    let spot = subst (IsSpot s c.args.key.now c.args.body.now before c.find_spot.new.page)
    c.in-Away.is (c.in_ok-number.ensures.found told c.args.owner before chain) in
    let ready : IsReady (g.P.PageView.ground p) c.args.owner s c.args.first c.args.key.now
    c.args.body.now c.in-Away.away before =
    record { chain = chain; noted = spot.0; front = spot.1.0; ended = spot.1.1 } in
    subst (λ (x : Ground). OnOk c.put_away.result
    (IsPutIn x c.args.owner c.args.first c.args.key.now c.args.body.now s t before))
    reads.keeps.ground
    (subst (λ (x : Sheets). OnOk c.put_away.result
    (IsPutIn (g.P.PageView.ground q) c.args.owner c.args.first c.args.key.now c.args.body.now x t
    before)) reads.working
    (c.put_away.ensures.put told c.args.first before
    (subst (λ (x : Sheets). IsReady (g.P.PageView.ground q) c.args.owner x c.args.first
    c.args.key.now c.args.body.now c.in-Away.away before) (sym reads.working)
    (subst (λ (x : Ground). IsReady x c.args.owner s c.args.first c.args.key.now c.args.body.now
    c.in-Away.away before)
    (sym reads.keeps.ground) ready))))

pub returns-in-Away-clause-claims : goal.returns-in-Away-clause-claims
returns-in-Away-clause-claims g c =
    let p = c.args.pages.now in
    let q = c.find_spot.new.pages in
    let s = g.P.PageView.working p in
    let reads = c.find_spot.ensures.reads in
    record {
      full = search rules;
      unchanged = search rules;
      keeps = search rules;
      ends =
          ends_as g.P.PageView (HasChainOf g.P.PageView p c.args.owner c.args.first)
          (IsReadyToPut g.P.PageView q c.args.owner c.args.key.now c.args.body.now c.in-Away.away) p
          q
          c.put_away.new.pages c.put_away.result
          (c.in_ok-number.ensures.ends.cause.counted refl) reads.keeps.ground
          (λ has. (let spot = subst (IsSpot s c.args.key.now c.args.body.now has.pages
          c.find_spot.new.page) c.in-Away.is
          (c.in_ok-number.ensures.found has.told c.args.owner has.pages has.chain) in record {
            told = has.told;
            first = c.args.first;
            pages = has.pages;
            ready =
                subst (λ (x : Sheets). IsReady (g.P.PageView.ground q) c.args.owner x c.args.first
                c.args.key.now c.args.body.now c.in-Away.away has.pages) (sym reads.working)
                (subst (λ (x : Ground). IsReady x c.args.owner s c.args.first c.args.key.now
                c.args.body.now c.in-Away.away has.pages) (sym reads.keeps.ground)
                (record { chain = has.chain; noted = spot.0; front = spot.1.0; ended = spot.1.1 }));
          }))
          c.put_away.ensures.claims.ends;
      frugal = search rules;
    }
