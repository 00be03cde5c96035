use Rattle.std.proofs.Common.{◌≡◌, ◌≢◌, ◌<◌, refl, sym, ap, subst, ◌∙◌, arith}
use Rattle.std.proofs.lemmas.Option.{MatchOption-at_none, MatchOption-at_some}
use Rattle.gx_bytes.specs.declared.page.TheConstants.{NONE}
use Rattle.gx_ports.specs.Sheets.{Ground, Sheets, IsPast, IsHome}
use Rattle.gx_ports.proofs.PageLemmas.{ends_handed_on, kept_pages_joined, pages_keep_themselves}
use Rattle.gx_slots.specs.Page.{next_of}
use Rattle.gx_chain.specs.Chain.{IsChain, IsEntryAt, LeadsOn}
use Rattle.gx_seen.proofs.EndLemmas.{ends_shown}
use Rattle.gx_isam_index.specs.Index.{first_page_of}
use Rattle.gx_isam.specs.Change.{IsLeftOut}
use Rattle.gx_isam.specs.Rebuild.{HasIndexAt}
use Rattle.gx_isam.proofs.ChangeLemmas.{leads_on, entry_first}
use Rattle.gx_isam.proofs.RebuildLemmas.{freeing_chain, freeing_cut, freeing_done, freeing_ends, freeing_first}
use Rattle.gx_isam.proofs.rebuild.free_chain.Goals as goal

pub loop-init : goal.loop-init
loop-init g c =
    let p = c.args.pages.now in
    record {
      keeps = pages_keep_themselves g.P.PageView p;
      faults = refl;
      page = c.requires.index;
      count = refl;
      way = λ told whole. freeing_first (g.P.PageView.ground p) c.args.place.now c.args.bucket
          (g.P.PageView.working p) c.args.index.now
          (g.met.P.Pages.many p told).0 whole;
    }

pub returns-in_err-first-clause-ends : goal.returns-in_err-first-clause-ends
returns-in_err-first-clause-ends g c =
    let i = c.loop.invariant in
    let p = c.args.pages.now in
    let now = c.loop.pages in
    let place = c.args.place.now in
    let bucket = c.args.bucket in
    let index = c.loop.index in
    let at = first_page_of index bucket in
    let wanted = c.requires.bucket in
    let count = i.count in
    ends_handed_on g.P.PageView (HasIndexAt g.P.PageView p place c.args.index.now)
    (LeadsOn (g.P.PageView.ground now) at) p now now _
    c.from_residual.result
    i.faults i.keeps.ground
    (λ has. (let chain = freeing_chain (g.P.PageView.ground p) place bucket (g.P.PageView.working p)
    (g.P.PageView.working now) c.args.index.now index c.loop.counter c.requires.place.least
    (i.way has.0 has.1)
    (omega (arith, wanted, count)) in
    subst (λ (x : Ground). LeadsOn x at) (sym i.keeps.ground)
    (leads_on (g.P.PageView.ground p) place.owner (g.P.PageView.working now) at chain.0 chain.1)))
    c.in_err-first.ensures.ends c.from_residual.ensures.1

pub returns-in_default-clause-freed : goal.returns-in_default-clause-freed
returns-in_default-clause-freed g c told whole =
    let i = c.loop.invariant in
    let p = c.args.pages.now in
    let now = c.loop.pages in
    let at = first_page_of c.loop.index c.args.bucket in
    let wanted = c.requires.bucket in
    let count = i.count in
    let none = MatchOption-at_none (at ≡ NONE) (λ n. (at ≡ n) × IsPast (g.P.PageView.ground now) n
    × (n ≢ NONE)) c.in_default.is
    c.in_ok-first.ensures.first in
    freeing_done (g.P.PageView.ground p) c.args.place.now c.args.bucket (g.P.PageView.working p)
    (g.P.PageView.working now)
    c.args.index.now c.loop.index c.loop.counter c.requires.place.least (i.way told whole)
    (omega (arith, wanted, count))
    (subst (λ (x : Ground). x.size < 4294967296) i.keeps.ground c.in_ok-first.ensures.small) i.count
    none

pub returns-in_err-read_entries-clause-ends : goal.returns-in_err-read_entries-clause-ends
returns-in_err-read_entries-clause-ends g c =
    let i = c.loop.invariant in
    let p = c.args.pages.now in
    let now = c.loop.pages in
    let place = c.args.place.now in
    let bucket = c.args.bucket in
    let index = c.loop.index in
    let at = first_page_of index bucket in
    let first = c.in-Some.first in
    let wanted = c.requires.bucket in
    let count = i.count in
    let found = MatchOption-at_some (at ≡ NONE) (λ n. (at ≡ n) × IsPast (g.P.PageView.ground now) n
    × (n ≢ NONE)) first c.in-Some.is
    c.in_ok-first.ensures.first in
    ends_handed_on {T = Unit {0}} g.P.PageView (HasIndexAt g.P.PageView p place c.args.index.now)
    (IsEntryAt g.P.PageView now first) p now
    c.read_entries.new.pages _ c.from_residual-in_err-read_entries.result
    i.faults i.keeps.ground
    (λ has. (let chain = freeing_chain (g.P.PageView.ground p) place bucket (g.P.PageView.working p)
    (g.P.PageView.working now) c.args.index.now index c.loop.counter c.requires.place.least
    (i.way has.0 has.1)
    (omega (arith, wanted, count)) in (
      has.0,
      entry_first (g.P.PageView.ground p) place.owner (g.P.PageView.working now) first chain.0
          (subst (λ n. IsChain (g.P.PageView.ground p) place.owner (g.P.PageView.working now) n
          chain.0) found.0 chain.1) found.2,
    )))
    c.in_err-read_entries.ensures.ends c.from_residual-in_err-read_entries.ensures.1

pub loop-preserved : goal.loop-preserved
loop-preserved g c =
    let i = c.loop.invariant in
    let p = c.args.pages.now in
    let now = c.loop.pages in
    let q = c.read_entries.new.pages in
    let s = g.P.PageView.working now in
    let u = g.P.PageView.working c.leave_out.new.pages in
    let ground = g.P.PageView.ground p in
    let place = c.args.place.now in
    let bucket = c.args.bucket in
    let index = c.loop.index in
    let first = c.in-Some.first in
    let next = c.next.result in
    let at = first_page_of index bucket in
    let wanted = c.requires.bucket in
    let count = i.count in
    let reads = c.read_entries.ensures.reads in
    let found = MatchOption-at_some (at ≡ NONE) (λ n. (at ≡ n) × IsPast (g.P.PageView.ground now) n
    × (n ≢ NONE)) first c.in-Some.is
    c.in_ok-first.ensures.first in
    record {
      keeps = kept_pages_joined g.P.PageView (kept_pages_joined g.P.PageView i.keeps reads.keeps)
          c.leave_out.ensures.keeps;
      faults = c.in_ok-leave_out.ensures.faults.counted
          ∙ c.in_ok-read_entries.ensures.ends.cause.counted refl ∙ i.faults;
      page = c.leave_out.ensures.index;
      count = c.leave_out.ensures.count ∙ i.count;
      way = λ told whole.
          freeing_cut ground place bucket (g.P.PageView.working p) s c.args.index.now index
          c.loop.counter c.requires.place.least
          (i.way told whole) (omega (arith, wanted, count)) c.requires.place.past first next
          c.leave_out.new.index u found.0 found.2
          (c.next.ensures ∙ ap next_of (c.in_ok-read_entries.ensures.bytes told))
          (subst (λ (x : Ground). IsLeftOut x place index bucket first next s u) (reads.keeps.ground
          ∙ i.keeps.ground)
          (subst (λ (x : Sheets). IsLeftOut (g.P.PageView.ground q) place index bucket first next x
          u) reads.working
          (c.in_ok-leave_out.ensures.left_out told)))
          (c.in_ok-leave_out.ensures.written told) i.count;
    }

pub returns-clause-ends : goal.returns-clause-ends
returns-clause-ends g c =
    let i = c.loop.invariant in
    let p = c.args.pages.now in
    let now = c.loop.pages in
    let place = c.args.place.now in
    let over = c.loop-test.false in
    ends_shown g.P.PageView (HasIndexAt g.P.PageView p place c.args.index.now) p now c.block.result
    i.faults
    (subst (λ (x : Ground). IsHome x c.block.result) i.keeps.ground (_, c.block.ensures.home))
    (λ has. (let less = freeing_ends (g.P.PageView.ground p) place c.args.bucket
    (g.P.PageView.working p)
    (g.P.PageView.working now) c.args.index.now c.loop.index c.loop.counter c.requires.place.least
    (i.way has.0 has.1) in
    omega (arith, less, over, c.pages-end.ensures)))
