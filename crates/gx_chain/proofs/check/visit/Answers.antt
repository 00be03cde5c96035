use Rattle.std.proofs.Common.{◌≢◌, ℕ, Bool, List, [], length, refl, sym, ap, subst, ◌∙◌, arith}
use Rattle.std.specs.Bool.{OnTrue, OnFalse}
use Rattle.std.proofs.lemmas.Bool.{false≢true}
use Rattle.gx_laws.proofs.ListLemmas.{none_long}
use Rattle.gx_ports.specs.Sheets.{Sheets, Ground, IsHome, bytes_at}
use Rattle.gx_ports.proofs.PageLemmas.{ends_handed_on, read_pages_joined}
use Rattle.gx_slots.specs.Page.{IsEntryPage, entries_of}
use Rattle.gx_chain.specs.Chain.{IsEntryAt}
use Rattle.gx_chain.specs.Check.{HasAddedKeys, SharesKey, IsNext}
use Rattle.gx_seen.specs.Seen.{IsUnseen}
use Rattle.gx_seen.proofs.EndLemmas.{ends_shown}
use Rattle.gx_chain.proofs.VisitLemmas.{visited_more, next_unseen, next_page, next_filled, next_fresh}
use Rattle.gx_chain.proofs.check.visit.Goals.{else-number-first-via-then-number-first+else-count-eq0, else-number-first-via-else-number-first}
use Rattle.gx_chain.proofs.check.visit.Goals as goal

pub returns-then-not-branch-clause-ends : goal.returns-then-not-branch-clause-ends
returns-then-not-branch-clause-ends g c =
    let p = c.args.pages.now in
    let visits = c.args.visits.now in
    ends_shown g.P.PageView (IsNext g.P.PageView p c.args.owner c.args.first visits c.args.number) p
    c.is_unseen.new.pages c.block.result
    c.in_ok-is_unseen.ensures.faults.counted (subst (λ (x : Ground). IsHome x c.block.result)
    c.is_unseen.ensures.reads.keeps.ground (_, c.block.ensures.home))
    (λ n. (let unseen = subst (λ (x : List Bool). IsUnseen (g.P.PageView.working p) c.args.owner x
    c.args.number)
    (sym c.deref.ensures.value)
    (next_unseen g.P.PageView p c.args.owner c.args.first visits c.args.number n) in
    false≢true (sym c.if-not-branch.true ∙ (c.in_ok-is_unseen.ensures.unseen n.told).1 unseen)))

pub returns-in_err-read_entries-clause-ends : goal.returns-in_err-read_entries-clause-ends
returns-in_err-read_entries-clause-ends g c =
    let p = c.args.pages.now in
    let now = c.is_unseen.new.pages in
    let visits = c.args.visits.now in
    ends_handed_on {T = Unit {0}} g.P.PageView
    (IsNext g.P.PageView p c.args.owner c.args.first visits c.args.number)
    (IsEntryAt g.P.PageView now c.args.number) p now c.read_entries.new.pages _
    c.from_residual-in_err-read_entries.result
    c.in_ok-is_unseen.ensures.faults.counted c.is_unseen.ensures.reads.keeps.ground
    (λ n. (
      n.told,
      subst (λ (x : Sheets). IsEntryPage (bytes_at x c.args.number))
          (sym c.is_unseen.ensures.reads.working)
          (next_page g.P.PageView p c.args.owner c.args.first visits c.args.number n),
    ))
    c.in_err-read_entries.ensures.ends c.from_residual-in_err-read_entries.ensures.1

pub returns-then-count-eq0-clause-ends : goal.returns-then-count-eq0-clause-ends
returns-then-count-eq0-clause-ends g c =
    let p = c.args.pages.now in
    let visits = c.args.visits.now in
    let reads =
    read_pages_joined g.P.PageView c.is_unseen.ensures.reads c.read_entries.ensures.reads in
    ends_shown g.P.PageView (IsNext g.P.PageView p c.args.owner c.args.first visits c.args.number) p
    c.read_entries.new.pages c.block-then-count-eq0.result
    (c.in_ok-read_entries.ensures.ends.cause.counted refl
    ∙ c.in_ok-is_unseen.ensures.faults.counted) (subst
    (λ (x : Ground). IsHome x c.block-then-count-eq0.result) reads.keeps.ground
    (_, c.block-then-count-eq0.ensures.home))
    (λ n. (let read = c.in_ok-read_entries.ensures.bytes n.told
    ∙ ap (λ (x : Sheets). bytes_at x c.args.number) c.is_unseen.ensures.reads.working in
    next_filled g.P.PageView p c.args.owner c.args.first visits c.args.number n
    c.if-number-first.true
    (ap entries_of (sym read)
    ∙ none_long (entries_of c.read_entries.new.page) (sym c.count.ensures
    ∙ c.if-count-eq0.true))))

pub returns-then-not-branch-2-clause-ends : goal.returns-then-not-branch-2-clause-ends
returns-then-not-branch-2-clause-ends g c =
    let p = c.args.pages.now in
    let visits = c.args.visits.now in
    let page = c.read_entries.new.page in
    let reads =
    read_pages_joined g.P.PageView c.is_unseen.ensures.reads c.read_entries.ensures.reads in
    let shared : SharesKey (entries_of page) visits.keys.keys = subst
    (λ (b : Bool). OnFalse b (SharesKey (entries_of page) visits.keys.keys)) c.if-not-branch-2.true
    c.in_ok-add_keys.ensures.shared in
    ends_shown g.P.PageView (IsNext g.P.PageView p c.args.owner c.args.first visits c.args.number) p
    c.read_entries.new.pages c.block-then-not-branch-2.result
    (c.in_ok-read_entries.ensures.ends.cause.counted refl
    ∙ c.in_ok-is_unseen.ensures.faults.counted)
    (subst (λ (x : Ground). IsHome x c.block-then-not-branch-2.result) reads.keeps.ground
    (_, c.block-then-not-branch-2.ensures.home))
    (λ n. (let read = c.in_ok-read_entries.ensures.bytes n.told
    ∙ ap (λ (x : Sheets). bytes_at x c.args.number) c.is_unseen.ensures.reads.working in
    next_fresh g.P.PageView p c.args.owner c.args.first visits c.args.number n
    (subst (λ (b : List ℕ). SharesKey (entries_of b) visits.keys.keys) read shared)))

pub returns-clause-visited : goal.returns-clause-visited
returns-clause-visited g c told before front v =
    let p = c.args.pages.now in
    let s = g.P.PageView.working p in
    let visits = c.args.visits.now in
    let page = c.read_entries.new.page in
    let read =
    c.in_ok-read_entries.ensures.bytes told
    ∙ ap (λ (x : Sheets). bytes_at x c.args.number) c.is_unseen.ensures.reads.working in
    let unseen = subst (λ (x : List Bool). IsUnseen s c.args.owner x c.args.number)
    c.deref.ensures.value ((c.in_ok-is_unseen.ensures.unseen told).0 c.if-not-branch.false) in
    let added : HasAddedKeys (entries_of page) visits.keys.keys c.add_keys.new.keys.keys =
    subst (λ (b : Bool). OnTrue b
    (HasAddedKeys (entries_of page) visits.keys.keys c.add_keys.new.keys.keys))
    c.if-not-branch-2.false c.in_ok-add_keys.ensures.added in
    let filled : c.args.number ≢ c.args.first → entries_of page ≢ [] =
    elim c.else-number-first.branch [
      | else-number-first-via-then-number-first+else-count-eq0 w ↦
          λ d none. w.if-count-eq0.false (w.count.ensures ∙ ap length none)
      | else-number-first-via-else-number-first w ↦ λ d. absurd (d w.if-number-first.false)
    ] in
    visited_more (g.P.PageView.ground p) c.args.owner s c.args.first before front c.args.number
    visits _ v unseen c.requires.number
    (λ d. subst (λ (b : List ℕ). entries_of b ≢ []) read (filled d))
    (subst (λ (b : List ℕ). HasAddedKeys (entries_of b) visits.keys.keys c.add_keys.new.keys.keys)
    read added)
    (let below = c.requires.number.below in omega (arith, below, c.requires.seen)) refl
