use Rattle.std.proofs.Common.{◌≡◌, ◌+◌, ◌≤◌, [], refl, sym, ap, subst, ◌∙◌, arith}
use Rattle.std.proofs.lemmas.Option.{MatchOption-at_none, MatchOption-at_some}
use Rattle.gx_bytes.specs.declared.page.TheConstants.{NONE}
use Rattle.gx_ports.specs.Sheets.{Sheets, Ground, IsPast, IsHome, bytes_at}
use Rattle.gx_ports.proofs.PageLemmas.{pages_read_themselves, read_pages_joined, ends_handed_on}
use Rattle.gx_slots.specs.Page.{next_of}
use Rattle.gx_chain.specs.Chain.{LeadsOn}
use Rattle.gx_chain.specs.Check.{HasUnseenChain, IsNext}
use Rattle.gx_seen.proofs.EndLemmas.{ends_shown, ends_well}
use Rattle.gx_chain.proofs.VisitLemmas.{visited_none, whole_hand, next_there, came_on, came_to_end}
use Rattle.gx_chain.proofs.WalkLemmas.{hand_ends, hand_leads}
use Rattle.gx_chain.proofs.check.visit_chain.Goals as goal

pub loop-init : goal.loop-init
loop-init g c =
    let ground = g.P.PageView.ground c.args.pages.now in
    let s = g.P.PageView.working c.args.pages.now in
    record {
      reads = pages_read_themselves g.P.PageView c.args.pages.now;
      faults = refl;
      past = c.requires.first;
      len = c.requires.seen;
      so_far = λ told. record {
        front = [];
        steps = refl;
        led = refl;
        visited = visited_none ground c.args.owner s c.args.first c.args.visits.now.seen.items
            (record { seen = c.args.visits.now.seen; keys = c.new.result }) refl
            c.new.ensures.empty;
      };
    }

pub visit-requires-clause-number : goal.visit-requires-clause-number
visit-requires-clause-number g c =
    subst (λ (x : Ground). IsPast x c.loop.number) (sym c.loop.invariant.reads.keeps.ground)
    c.loop.invariant.past

pub visit-requires-clause-seen : goal.visit-requires-clause-seen
visit-requires-clause-seen g c =
    c.loop.invariant.len ∙ sym (ap (λ (x : Ground). x.size) c.loop.invariant.reads.keeps.ground)

pub returns-in_err-visit-clause-reads : goal.returns-in_err-visit-clause-reads
returns-in_err-visit-clause-reads g c =
    read_pages_joined g.P.PageView c.loop.invariant.reads c.visit.ensures.reads

pub returns-in_err-visit-clause-ends : goal.returns-in_err-visit-clause-ends
returns-in_err-visit-clause-ends g c =
    let i = c.loop.invariant in
    let p = c.args.pages.now in
    let now = c.loop.pages in
    let few_pages : (g.P.PageView.ground p).size ≤ NONE = omega (arith, c.pages-end.ensures) in
    ends_handed_on {T = Unit {0}} g.P.PageView
    (HasUnseenChain g.P.PageView p c.args.owner c.args.first c.args.visits.now.seen.items)
    (IsNext g.P.PageView now c.args.owner c.args.first c.loop.visits c.loop.number) p now
    c.visit.new.pages _
    c.from_residual.result i.faults i.reads.keeps.ground
    (next_there g.P.PageView c.args.owner c.args.first c.args.visits.now.seen.items p now i.reads
    few_pages c.loop.counter c.loop.number c.loop.visits i.past i.so_far)
    c.in_err-visit.ensures.ends c.from_residual.ensures.1

pub behind-requires-clause-number : goal.behind-requires-clause-number
behind-requires-clause-number g c =
    let reads = read_pages_joined g.P.PageView c.loop.invariant.reads c.visit.ensures.reads in
    subst (λ (x : Ground). IsPast x c.loop.number) (sym reads.keeps.ground) c.loop.invariant.past

pub returns-in_err-behind-clause-reads : goal.returns-in_err-behind-clause-reads
returns-in_err-behind-clause-reads g c =
    read_pages_joined g.P.PageView c.loop.invariant.reads c.visit.ensures.reads

pub returns-in_err-behind-clause-ends : goal.returns-in_err-behind-clause-ends
returns-in_err-behind-clause-ends g c =
    let i = c.loop.invariant in
    let p = c.args.pages.now in
    let now = c.visit.new.pages in
    let page = c.visit.new.page in
    let s = g.P.PageView.working p in
    let ground = g.P.PageView.ground p in
    let few_pages : ground.size ≤ NONE = omega (arith, c.pages-end.ensures) in
    let reads = read_pages_joined g.P.PageView i.reads c.visit.ensures.reads in
    ends_handed_on g.P.PageView
    (HasUnseenChain g.P.PageView p c.args.owner c.args.first c.args.visits.now.seen.items)
    (LeadsOn (g.P.PageView.ground now) (next_of page)) p now now _
    c.from_residual-in_err-behind.result
    (c.in_ok-visit.ensures.ends.cause.counted refl ∙ i.faults) reads.keeps.ground
    (λ has. (let read = c.in_ok-visit.ensures.bytes has.told
    ∙ ap (λ (x : Sheets). bytes_at x c.loop.number) i.reads.working in
    let hand = whole_hand ground c.args.owner s c.args.first c.args.visits.now.seen.items few_pages
    c.loop.counter c.loop.number c.loop.visits i.past (i.so_far has.told) has.pages has.chain in
    subst (λ (x : Ground). LeadsOn x (next_of page)) (sym reads.keeps.ground)
    (subst (LeadsOn ground) (sym (ap next_of read))
    (hand_leads ground c.args.owner s c.args.first has.pages c.loop.counter c.loop.number has.chain
    hand))))
    c.in_err-behind.ensures.ends c.from_residual-in_err-behind.ensures.1

pub returns-in-None-clause-visited : goal.returns-in-None-clause-visited
returns-in-None-clause-visited g c told =
    let i = c.loop.invariant in
    let p = c.args.pages.now in
    let ground = g.P.PageView.ground p in
    let few_pages : ground.size ≤ NONE = omega (arith, c.pages-end.ensures) in
    let none : next_of c.visit.new.page ≡ NONE =
    MatchOption-at_none _ _ c.in-None.is c.in_ok-behind.ensures.behind in
    came_to_end ground c.args.owner (g.P.PageView.working p) c.args.first
    c.args.visits.now.seen.items (c.loop.counter + 1) c.visit.new.visits few_pages
    (came_on g.P.PageView c.args.owner c.args.first c.args.visits.now.seen.items p c.loop.pages
    i.reads c.loop.counter c.loop.number NONE c.loop.visits c.visit.new.visits c.visit.new.page
    (i.so_far told)
    (c.in_ok-visit.ensures.visited told c.args.visits.now.seen.items)
    (c.in_ok-visit.ensures.bytes told) c.in_ok-visit.ensures.read none)

pub returns-in-None-clause-seen : goal.returns-in-None-clause-seen
returns-in-None-clause-seen g c =
    c.visit.ensures.seen ∙ ap (λ (x : Ground). x.size) c.loop.invariant.reads.keeps.ground

pub returns-in-None-clause-reads : goal.returns-in-None-clause-reads
returns-in-None-clause-reads g c =
    read_pages_joined g.P.PageView c.loop.invariant.reads c.visit.ensures.reads

pub returns-in-None-clause-ends : goal.returns-in-None-clause-ends
returns-in-None-clause-ends g c =
    ends_well g.P.PageView (HasUnseenChain g.P.PageView c.args.pages.now c.args.owner c.args.first
    c.args.visits.now.seen.items) c.args.pages.now c.visit.new.pages _
    (c.in_ok-visit.ensures.ends.cause.counted refl ∙ c.loop.invariant.faults)

pub loop-preserved : goal.loop-preserved
loop-preserved g c =
    let i = c.loop.invariant in
    let p = c.args.pages.now in
    let page = c.visit.new.page in
    let reads = read_pages_joined g.P.PageView i.reads c.visit.ensures.reads in
    let led = MatchOption-at_some (next_of page ≡ NONE)
    (λ q. (next_of page ≡ q) × IsPast (g.P.PageView.ground c.visit.new.pages) q) c.in-Some.next
    c.in-Some.is c.in_ok-behind.ensures.behind in
    record {
      reads = reads;
      faults = c.in_ok-visit.ensures.ends.cause.counted refl ∙ i.faults;
      past = subst (λ (x : Ground). IsPast x c.in-Some.next) reads.keeps.ground led.1;
      len = c.visit.ensures.seen ∙ ap (λ (x : Ground). x.size) i.reads.keeps.ground;
      so_far =
          λ told. came_on g.P.PageView c.args.owner c.args.first c.args.visits.now.seen.items p
          c.loop.pages i.reads c.loop.counter c.loop.number c.in-Some.next c.loop.visits
          c.visit.new.visits page (i.so_far told)
          (c.in_ok-visit.ensures.visited told c.args.visits.now.seen.items)
          (c.in_ok-visit.ensures.bytes told) c.in_ok-visit.ensures.read led.0;
    }

pub block-requires : goal.block-requires
block-requires g c =
    let below = c.loop.invariant.past.below in
    let same = ap (λ (x : Ground). x.size) c.loop.invariant.reads.keeps.ground in
    record { page = omega (arith, below, same) }

pub returns-clause-reads : goal.returns-clause-reads
returns-clause-reads g c = c.loop.invariant.reads

pub returns-clause-ends : goal.returns-clause-ends
returns-clause-ends g c =
    let i = c.loop.invariant in
    let p = c.args.pages.now in
    let s = g.P.PageView.working p in
    let ground = g.P.PageView.ground p in
    let few_pages : ground.size ≤ NONE = omega (arith, c.pages-end.ensures) in
    ends_shown g.P.PageView
    (HasUnseenChain g.P.PageView p c.args.owner c.args.first c.args.visits.now.seen.items) p
    c.loop.pages c.block.result i.faults
    (subst (λ (x : Ground). IsHome x c.block.result) i.reads.keeps.ground (_, c.block.ensures.home))
    (λ has. (let hand = whole_hand ground c.args.owner s c.args.first c.args.visits.now.seen.items
    few_pages c.loop.counter c.loop.number
    c.loop.visits i.past (i.so_far has.told) has.pages has.chain in
    let less = hand_ends ground c.args.owner s c.args.first has.pages c.loop.counter c.loop.number
    has.chain hand in
    let over = c.loop-test.false in
    omega (arith, less, over, c.pages-end.ensures)))
