use Rattle.std.proofs.Common.{◌≡◌, ◌≢◌, ◌≤◌, ◌<◌, ℕ, List, length, refl, sym, ap, subst, ◌∙◌, arith}
use Rattle.std.specs.List.{All, HoldsAt}
use Rattle.std.proofs.lemmas.Option.{MatchOption-at_none, MatchOption-at_some}
use Rattle.gx_bytes.specs.declared.page.TheConstants.{NONE}
use Rattle.gx_ports.specs.Sheets.{IsPast, bytes_at}
use Rattle.gx_ports.proofs.PageLemmas.{pages_read_themselves, read_pages_joined}
use Rattle.gx_slots.specs.Entries.{Entry}
use Rattle.gx_slots.specs.Page.{entries_of, next_of}
use Rattle.gx_chain.specs.Walk.{LackKey}
use Rattle.gx_chain.proofs.WalkEndLemmas.{walk_unread, walk_stopped, walk_over}
use Rattle.gx_chain.proofs.WalkLemmas.{hand_first, hand_next, hand_last, is_some_page, lack_none, lack_more}
use Rattle.gx_chain.proofs.seek.find_key.Goals as goal

pub loop-init : goal.loop-init
loop-init g c =
    let ground = g.P.PageView.ground c.args.pages.now in
    let s = g.P.PageView.working c.args.pages.now in
    let few_pages : ground.size ≤ NONE = omega (arith, c.pages-end.ensures) in
    record {
      reads = pages_read_themselves g.P.PageView c.args.pages.now;
      faults = refl;
      past = c.requires.first;
      past_before = tt;
      way =
          λ told owner all chain.
          (let h = hand_first s c.args.first all
          (is_some_page ground c.args.first few_pages c.requires.first) chain.linked in record {
            hand = h.0;
            lacks = subst (λ (f : List ℕ). LackKey s f c.args.key.now) (sym h.1)
                (lack_none s c.args.key.now);
            before = h.1;
          });
    }

pub returns-in_err-read_entries-clause-ends : goal.returns-in_err-read_entries-clause-ends
returns-in_err-read_entries-clause-ends g c =
    let i = c.loop.invariant in
    walk_unread g.P.PageView c.args.first c.args.pages.now c.loop.pages
    c.loop.counter c.loop.number
    (record {
      reads = i.reads;
      faults = i.faults;
      hand = λ told owner all chain. (i.way told owner all chain).hand;
    })
    {T = Unit {0}} c.read_entries.new.pages _ c.from_residual.result
    c.in_err-read_entries.ensures.ends
    c.from_residual.ensures.1

pub returns-in-Some-clause-found : goal.returns-in-Some-clause-found
returns-in-Some-clause-found g c told owner all chain =
    let i = c.loop.invariant in
    let n = i.way told owner all chain in
    let read =
    c.in_ok-read_entries.ensures.bytes told ∙ ap (λ x. bytes_at x c.loop.number) i.reads.working in
    let found = c.in-Some.ensures.found in
    record {
      front = n.hand.front;
      rest = n.hand.rest;
      is = n.hand.is;
      previous = n.before;
      bytes_are = read;
      within = subst (λ b. c.in-Some.place < length (entries_of b)) read found.0;
      there = subst
          (λ b. HoldsAt (λ (e : Entry). e.key ≡ c.args.key.now) (entries_of b) c.in-Some.place) read
          found.1;
    }

pub returns-in_err-behind-clause-ends : goal.returns-in_err-behind-clause-ends
returns-in_err-behind-clause-ends g c =
    let i = c.loop.invariant in
    walk_stopped g.P.PageView c.args.first c.args.pages.now c.loop.pages c.loop.counter
    c.loop.number
    (record {
      reads = i.reads;
      faults = i.faults;
      hand = λ told owner all chain. (i.way told owner all chain).hand;
    })
    c.read_entries.new.pages c.read_entries.new.pages (next_of c.read_entries.new.page) _
    c.from_residual-in_err-behind.result
    (c.in_ok-read_entries.ensures.ends.cause.counted refl) c.read_entries.ensures.reads
    (λ told. ap next_of
    (c.in_ok-read_entries.ensures.bytes told ∙ ap (λ x. bytes_at x c.loop.number) i.reads.working))
    c.in_err-behind.ensures.ends c.from_residual-in_err-behind.ensures.1

pub returns-in-None-clause-found : goal.returns-in-None-clause-found
returns-in-None-clause-found g c told owner all chain =
    let i = c.loop.invariant in
    let s = g.P.PageView.working c.args.pages.now in
    let ground = g.P.PageView.ground c.args.pages.now in
    let few_pages : ground.size ≤ NONE = omega (arith, c.pages-end.ensures) in
    let n = i.way told owner all chain in
    let read =
    c.in_ok-read_entries.ensures.bytes told ∙ ap (λ x. bytes_at x c.loop.number) i.reads.working in
    let none : next_of c.read_entries.new.page ≡ NONE =
    MatchOption-at_none _ _ c.in-None.is c.in_ok-behind.ensures.behind in
    let all_is = hand_last ground owner s c.args.first all c.loop.counter c.loop.number chain
    few_pages n.hand (sym (ap next_of read) ∙ none) in
    subst (λ (x : List ℕ). LackKey s x c.args.key.now) (sym all_is)
    (lack_more s c.args.key.now n.hand.front c.loop.number n.lacks (subst
    (λ b. All (λ (e : Entry). e.key ≢ c.args.key.now) (entries_of b)) read
    c.in_default.ensures.missing))

pub loop-preserved : goal.loop-preserved
loop-preserved g c =
    let i = c.loop.invariant in
    let s = g.P.PageView.working c.args.pages.now in
    let ground = g.P.PageView.ground c.args.pages.now in
    let few_pages : ground.size ≤ NONE = omega (arith, c.pages-end.ensures) in
    let page = c.read_entries.new.page in
    let reads = read_pages_joined g.P.PageView i.reads c.read_entries.ensures.reads in
    let led = MatchOption-at_some (next_of page ≡ NONE)
    (λ q. (next_of page ≡ q) × IsPast (g.P.PageView.ground c.read_entries.new.pages) q)
    c.in-Some-2.next c.in-Some-2.is c.in_ok-behind.ensures.behind in
    let past_next = subst (λ x. IsPast x c.in-Some-2.next) reads.keeps.ground led.1 in
    record {
      reads = reads;
      faults = c.in_ok-read_entries.ensures.ends.cause.counted refl ∙ i.faults;
      past = past_next;
      past_before = i.past;
      way = λ told owner all chain. (let n = i.way told owner all chain in
          let read =
          c.in_ok-read_entries.ensures.bytes told
          ∙ ap (λ x. bytes_at x c.loop.number) i.reads.working in
          let h = hand_next s all c.loop.counter c.loop.number c.in-Some-2.next n.hand
          (is_some_page ground c.in-Some-2.next few_pages past_next)
          (sym (ap next_of read) ∙ led.0) in
          record {
            hand = h.0;
            lacks = subst (λ (f : List ℕ). LackKey s f c.args.key.now) (sym h.1)
                (lack_more s c.args.key.now n.hand.front c.loop.number n.lacks
                (subst (λ b. All (λ (e : Entry). e.key ≢ c.args.key.now) (entries_of b)) read
                c.in_default.ensures.missing));
            before = (n.hand.front, h.1);
          });
    }

pub returns-clause-ends : goal.returns-clause-ends
returns-clause-ends g c =
    let i = c.loop.invariant in
    walk_over g.P.PageView c.args.first c.args.pages.now c.loop.pages c.loop.counter c.loop.number
    (record {
      reads = i.reads;
      faults = i.faults;
      hand = λ told owner all chain. (i.way told owner all chain).hand;
    })
    c.block.result (omega (arith, c.loop-test.false, c.pages-end.ensures)) (_, c.block.ensures.home)
