use Rattle.std.proofs.Common.{◌≡◌, ◌≤◌, ℕ, List, ◌++◌, refl, sym, ap, subst, ◌∙◌, arith, append-nil}
use Rattle.std.proofs.lemmas.Bool.{false≢true}
use Rattle.std.proofs.lemmas.Option.{MatchOption-at_none, MatchOption-at_some}
use Rattle.gx_bytes.specs.declared.page.TheConstants.{NONE}
use Rattle.gx_ports.specs.Sheets.{IsPast, IsHome, bytes_at}
use Rattle.gx_ports.proofs.PageLemmas.{pages_read_themselves, read_pages_joined}
use Rattle.gx_slots.specs.Page.{IsEntryPage, entries_of, next_of}
use Rattle.gx_chain.specs.Collect.{inside_of, inside_on}
use Rattle.gx_chain.proofs.GatherLemmas.{gathered_more}
use Rattle.gx_chain.proofs.WalkEndLemmas.{walk_unread, walk_stopped, walk_over}
use Rattle.gx_chain.proofs.WalkLemmas.{hand_first, hand_next, hand_last, is_some_page}
use Rattle.gx_chain.proofs.gather.gather_from.Goals as goal

pub loop-init : goal.loop-init
loop-init g c =
    let ground = g.P.PageView.ground c.args.pages.now in
    let s = g.P.PageView.working c.args.pages.now in
    let lo = c.args.span.now.lo in
    let hi = c.args.span.now.hi in
    let found = c.args.found.now.items in
    let few_pages : ground.size ≤ NONE = omega (arith, c.pages-end.ensures) in
    record {
      reads = pages_read_themselves g.P.PageView c.args.pages.now;
      faults = refl;
      past = c.requires.first;
      way =
          λ told owner all chain.
          (let h = hand_first s c.args.first all
          (is_some_page ground c.args.first few_pages c.requires.first) chain.linked in record {
            hand = h.0;
            gave = sym (append-nil found)
                ∙ ap (λ (f : List ℕ). found ++ inside_on s lo hi f) (sym h.1);
          });
    }

pub returns-in_err-read_kind-clause-ends : goal.returns-in_err-read_kind-clause-ends
returns-in_err-read_kind-clause-ends g c =
    let i = c.loop.invariant in
    walk_unread g.P.PageView c.args.first c.args.pages.now c.loop.pages
    c.loop.counter c.loop.number
    (record {
      reads = i.reads;
      faults = i.faults;
      hand = λ told owner all chain. (i.way told owner all chain).hand;
    })
    {T = Unit {0}} c.read_kind.new.pages _ c.from_residual.result c.in_err-read_kind.ensures.ends
    c.from_residual.ensures.1

pub returns-then-not-branch-clause-ends : goal.returns-then-not-branch-clause-ends
returns-then-not-branch-clause-ends g c =
    let i = c.loop.invariant in
    let ground = g.P.PageView.ground c.args.pages.now in
    let e = c.in_ok-read_kind.ensures in
    let faults = e.ends.cause.counted refl ∙ i.faults in
    let reads = read_pages_joined g.P.PageView i.reads c.read_kind.ensures.reads in
    record {
      cause = record {
        later = omega (arith, faults);
        fault = λ is. absurd (cc);
        counted = λ is. faults;
        damaged = λ block is has. (let n = i.way has.0 has.1 has.2 has.3 in
            let read = e.bytes has.0 ∙ ap (λ x. bytes_at x c.loop.number) i.reads.working in
            false≢true
            (sym c.if-not-branch.true
            ∙ c.in_ok-copy_inside.ensures.sound
            (subst IsEntryPage (sym read) n.hand.linked.1)));
      };
      home = λ block is. (let same : c.block.result ≡ block = cc in
          subst (λ n. IsHome ground n) same
          (subst (λ x. IsHome x c.block.result) reads.keeps.ground (_, c.block.ensures.home)));
    }

pub returns-in_err-behind-clause-ends : goal.returns-in_err-behind-clause-ends
returns-in_err-behind-clause-ends g c =
    let i = c.loop.invariant in
    walk_stopped g.P.PageView c.args.first c.args.pages.now c.loop.pages c.loop.counter
    c.loop.number
    (record {
      reads = i.reads;
      faults = i.faults;
      hand = λ told owner all chain. (i.way told owner all chain).hand;
    })
    c.read_kind.new.pages c.read_kind.new.pages (next_of c.read_kind.new.page) _
    c.from_residual-in_err-behind.result
    (c.in_ok-read_kind.ensures.ends.cause.counted refl) c.read_kind.ensures.reads
    (λ told. ap next_of
    (c.in_ok-read_kind.ensures.bytes told ∙ ap (λ x. bytes_at x c.loop.number) i.reads.working))
    c.in_err-behind.ensures.ends c.from_residual-in_err-behind.ensures.1

pub returns-in-None-clause-found : goal.returns-in-None-clause-found
returns-in-None-clause-found g c told owner all chain =
    let i = c.loop.invariant in
    let s = g.P.PageView.working c.args.pages.now in
    let ground = g.P.PageView.ground c.args.pages.now in
    let lo = c.args.span.now.lo in
    let hi = c.args.span.now.hi in
    let few_pages : ground.size ≤ NONE = omega (arith, c.pages-end.ensures) in
    let n = i.way told owner all chain in
    let read =
    c.in_ok-read_kind.ensures.bytes told ∙ ap (λ x. bytes_at x c.loop.number) i.reads.working in
    let none : next_of c.read_kind.new.page ≡ NONE =
    MatchOption-at_none _ _ c.in-None.is c.in_ok-behind.ensures.behind in
    let all_is = hand_last ground owner s c.args.first all c.loop.counter c.loop.number chain
    few_pages n.hand (sym (ap next_of read) ∙ none) in
    c.in_ok-copy_inside.ensures.ok (subst IsEntryPage (sym read) n.hand.linked.1)
    ∙ ap (λ b. c.loop.found.items ++ inside_of lo hi (entries_of b)) read
    ∙ gathered_more s lo hi c.args.found.now.items c.loop.found.items n.hand.front c.loop.number
    n.gave
    ∙ ap (λ (x : List ℕ). c.args.found.now.items ++ inside_on s lo hi x) (sym all_is)

pub loop-preserved : goal.loop-preserved
loop-preserved g c =
    let i = c.loop.invariant in
    let s = g.P.PageView.working c.args.pages.now in
    let ground = g.P.PageView.ground c.args.pages.now in
    let lo = c.args.span.now.lo in
    let hi = c.args.span.now.hi in
    let few_pages : ground.size ≤ NONE = omega (arith, c.pages-end.ensures) in
    let page = c.read_kind.new.page in
    let reads = read_pages_joined g.P.PageView i.reads c.read_kind.ensures.reads in
    let led = MatchOption-at_some (next_of page ≡ NONE)
    (λ q. (next_of page ≡ q) × IsPast (g.P.PageView.ground c.read_kind.new.pages) q) c.in-Some.next
    c.in-Some.is c.in_ok-behind.ensures.behind in
    let past_next = subst (λ x. IsPast x c.in-Some.next) reads.keeps.ground led.1 in
    record {
      reads = reads;
      faults = c.in_ok-read_kind.ensures.ends.cause.counted refl ∙ i.faults;
      past = past_next;
      way = λ told owner all chain. (let n = i.way told owner all chain in
          let read =
          c.in_ok-read_kind.ensures.bytes told
          ∙ ap (λ x. bytes_at x c.loop.number) i.reads.working in
          let h = hand_next s all c.loop.counter c.loop.number c.in-Some.next n.hand
          (is_some_page ground c.in-Some.next few_pages past_next)
          (sym (ap next_of read) ∙ led.0) in
          record {
            hand = h.0;
            gave = c.in_ok-copy_inside.ensures.ok (subst IsEntryPage (sym read) n.hand.linked.1)
                ∙ ap (λ b. c.loop.found.items ++ inside_of lo hi (entries_of b)) read
                ∙ gathered_more s lo hi c.args.found.now.items c.loop.found.items n.hand.front
                c.loop.number n.gave
                ∙ ap (λ (x : List ℕ). c.args.found.now.items ++ inside_on s lo hi x) (sym h.1);
          });
    }

pub returns-clause-ends : goal.returns-clause-ends
returns-clause-ends g c =
    let i = c.loop.invariant in
    walk_over g.P.PageView c.args.first c.args.pages.now c.loop.pages c.loop.counter c.loop.number
    (record {
      reads = i.reads;
      faults = i.faults;
      hand = λ told owner all chain. (i.way told owner all chain).hand;
    })
    c.block-2.result (omega (arith, c.loop-test.false, c.pages-end.ensures))
    (_, c.block-2.ensures.home)
