use Rattle.std.proofs.Common.{◌≡◌, ◌≤◌, ℕ, List, [], ◌∷◌, ◌++◌, None, refl, sym, ap, subst, ◌∙◌, arith}
use Rattle.std.proofs.lemmas.Option.{MatchOption-at_none, MatchOption-at_some}
use Rattle.gx_bytes.specs.declared.page.TheConstants.{NONE}
use Rattle.gx_ports.specs.Sheets.{IsPast, bytes_at}
use Rattle.gx_ports.proofs.PageLemmas.{pages_read_themselves, read_pages_joined}
use Rattle.gx_slots.specs.Page.{entries_of, next_of}
use Rattle.gx_chain.specs.Walk.{IsTrial, AreNoted, IsAwayPast, IsExchanged, noted}
use Rattle.gx_chain.specs.declared.walk.Away.{Away}
use Rattle.gx_chain.proofs.WalkEndLemmas.{walk_unread, walk_stopped, walk_over}
use Rattle.gx_chain.proofs.WalkLemmas.{hand_first, hand_in, hand_next, hand_last, is_some_page, none_noted, noted_more, noted_past, noted_last}
use Rattle.gx_chain.proofs.walk.find_spot.Goals as goal

pub loop-init : goal.loop-init
loop-init g c =
    let ground = g.P.PageView.ground c.args.pages.now in
    let s = g.P.PageView.working c.args.pages.now in
    let few_pages : ground.size ≤ NONE = omega (arith, c.pages-end.ensures) in
    record {
      reads = pages_read_themselves g.P.PageView c.args.pages.now;
      faults = refl;
      past = record { old = tt; room = tt; last = c.requires.first };
      way =
          λ told owner all chain.
          (let h = hand_first s c.args.first all
          (is_some_page ground c.args.first few_pages c.requires.first) chain.linked in record {
            hand = h.0;
            noted = subst (λ (f : List ℕ). AreNoted s c.args.key.now c.args.body.now f None None)
                (sym h.1) (none_noted s c.args.key.now c.args.body.now);
          });
    }

pub returns-in_err-read_entries-clause-ends : goal.returns-in_err-read_entries-clause-ends
returns-in_err-read_entries-clause-ends g c =
    let i = c.loop.invariant in
    walk_unread g.P.PageView c.args.first c.args.pages.now c.loop.pages
    c.loop.counter c.loop.away.last
    (record {
      reads = i.reads;
      faults = i.faults;
      hand = λ told owner all chain. (i.way told owner all chain).hand;
    })
    {T = Unit {0}} c.read_entries.new.pages _ c.from_residual.result
    c.in_err-read_entries.ensures.ends
    c.from_residual.ensures.1

pub returns-in-Replaced-clause-found : goal.returns-in-Replaced-clause-found
returns-in-Replaced-clause-found g c told owner all chain =
    let i = c.loop.invariant in
    let s = g.P.PageView.working c.args.pages.now in
    let n = i.way told owner all chain in
    let read = c.in_ok-read_entries.ensures.bytes told
    ∙ ap (λ x. bytes_at x c.loop.away.last) i.reads.working in (
      hand_in s all c.loop.counter c.loop.away.last n.hand,
      record {
        is_page = c.try_entry-trial.ensures.page;
        entries_are = subst (λ b. IsExchanged (entries_of b) (entries_of c.try_entry-trial.new.page)
            c.args.key.now c.args.body.now) read c.in-Replaced.ensures.trial;
        next_is = c.try_entry-trial.ensures.next ∙ ap next_of read;
      },
    )

pub returns-in_err-behind-clause-ends : goal.returns-in_err-behind-clause-ends
returns-in_err-behind-clause-ends g c =
    let i = c.loop.invariant in
    walk_stopped g.P.PageView c.args.first c.args.pages.now c.loop.pages c.loop.counter
    c.loop.away.last
    (record {
      reads = i.reads;
      faults = i.faults;
      hand = λ told owner all chain. (i.way told owner all chain).hand;
    })
    c.read_entries.new.pages c.read_entries.new.pages (next_of c.try_entry-trial.new.page) _
    c.from_residual-in_err-behind.result
    (c.in_ok-read_entries.ensures.ends.cause.counted refl) c.read_entries.ensures.reads
    (λ told. c.try_entry-trial.ensures.next
    ∙ ap next_of
    (c.in_ok-read_entries.ensures.bytes told
    ∙ ap (λ x. bytes_at x c.loop.away.last) i.reads.working))
    c.in_err-behind.ensures.ends c.from_residual-in_err-behind.ensures.1

pub returns-in-None-clause-found : goal.returns-in-None-clause-found
returns-in-None-clause-found g c told owner all chain =
    let i = c.loop.invariant in
    let s = g.P.PageView.working c.args.pages.now in
    let ground = g.P.PageView.ground c.args.pages.now in
    let few_pages : ground.size ≤ NONE = omega (arith, c.pages-end.ensures) in
    let n = i.way told owner all chain in
    let read =
    c.in_ok-read_entries.ensures.bytes told
    ∙ ap (λ x. bytes_at x c.loop.away.last) i.reads.working in
    let next = c.try_entry-trial.ensures.next ∙ ap next_of read in
    let none : next_of c.try_entry-trial.new.page ≡ NONE =
    MatchOption-at_none _ _ c.in-None.is c.in_ok-behind.ensures.behind in
    let all_is = hand_last ground owner s c.args.first all c.loop.counter c.loop.away.last chain
    few_pages n.hand (sym next ∙ none) in
    let trial = subst (λ b. IsTrial c.try_entry-trial.result (entries_of b)
    (entries_of c.try_entry-trial.new.page) c.args.key.now c.args.body.now) read
    c.try_entry-trial.ensures.trial in
    let more = noted_more s c.args.key.now c.args.body.now n.hand.front c.loop.away.last c.loop.away
    c.try_entry-trial.result
    (entries_of c.try_entry-trial.new.page) refl c.in_default.not-Replaced trial n.noted in (
      subst (λ (a : Away). AreNoted s c.args.key.now c.args.body.now all a.old a.room)
          (sym c.note-away.ensures)
          (subst (λ (x : List ℕ). AreNoted s c.args.key.now c.args.body.now x
          (noted c.loop.away c.try_entry-trial.result).old
          (noted c.loop.away c.try_entry-trial.result).room) (sym all_is) more),
      (
        n.hand.front,
        all_is ∙ ap (λ q. n.hand.front ++ q ∷ [])
            (sym (ap (λ (a : Away). a.last) c.note-away.ensures
            ∙ noted_last c.loop.away c.try_entry-trial.result)),
      ),
    )

pub loop-preserved : goal.loop-preserved
loop-preserved g c =
    let i = c.loop.invariant in
    let s = g.P.PageView.working c.args.pages.now in
    let ground = g.P.PageView.ground c.args.pages.now in
    let few_pages : ground.size ≤ NONE = omega (arith, c.pages-end.ensures) in
    let reads = read_pages_joined g.P.PageView i.reads c.read_entries.ensures.reads in
    let led = MatchOption-at_some (next_of c.try_entry-trial.new.page ≡ NONE)
    (λ page. (next_of c.try_entry-trial.new.page ≡ page)
    × IsPast (g.P.PageView.ground c.read_entries.new.pages) page) c.in-Some.next c.in-Some.is
    c.in_ok-behind.ensures.behind in
    let past_next = subst (λ x. IsPast x c.in-Some.next) reads.keeps.ground led.1 in
    let past = subst (IsAwayPast ground) (sym c.note-away.ensures)
    (noted_past ground c.loop.away c.try_entry-trial.result i.past) in
    record {
      reads = reads;
      faults = c.in_ok-read_entries.ensures.ends.cause.counted refl ∙ i.faults;
      past = record { old = past.old; room = past.room; last = past_next };
      way = λ told owner all chain. (let n = i.way told owner all chain in
          let read =
          c.in_ok-read_entries.ensures.bytes told
          ∙ ap (λ x. bytes_at x c.loop.away.last) i.reads.working in
          let next = c.try_entry-trial.ensures.next ∙ ap next_of read in
          let trial = subst (λ b. IsTrial c.try_entry-trial.result (entries_of b)
          (entries_of c.try_entry-trial.new.page) c.args.key.now c.args.body.now) read
          c.try_entry-trial.ensures.trial in
          let more = noted_more s c.args.key.now c.args.body.now n.hand.front c.loop.away.last
          c.loop.away c.try_entry-trial.result (entries_of c.try_entry-trial.new.page) refl
          c.in_default.not-Replaced trial n.noted in
          let h = hand_next s all c.loop.counter c.loop.away.last c.in-Some.next n.hand
          (is_some_page ground c.in-Some.next few_pages past_next) (sym next ∙ led.0) in
          record {
            hand = h.0;
            noted =
                subst (λ (f : List ℕ). AreNoted s c.args.key.now c.args.body.now f
                c.note-away.result.old c.note-away.result.room) (sym h.1)
                (subst (λ (a : Away). AreNoted s c.args.key.now c.args.body.now
                (n.hand.front ++ c.loop.away.last ∷ []) a.old a.room)
                (sym c.note-away.ensures) more);
          });
    }

pub returns-clause-ends : goal.returns-clause-ends
returns-clause-ends g c =
    let i = c.loop.invariant in
    walk_over g.P.PageView c.args.first c.args.pages.now c.loop.pages c.loop.counter
    c.loop.away.last
    (record {
      reads = i.reads;
      faults = i.faults;
      hand = λ told owner all chain. (i.way told owner all chain).hand;
    })
    c.block.result (omega (arith, c.loop-test.false, c.pages-end.ensures)) (_, c.block.ensures.home)
