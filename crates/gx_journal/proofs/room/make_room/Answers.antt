use Rattle.std.proofs.Common.{length, refl, ap, sym, subst, ◌≡◌, ◌∙◌, arith, Option}
use Rattle.std.specs.Prelude.{IsSomeAnd}
use Rattle.gx_frames.specs.Pool.{Resident, Pool, IsChanged}
use Rattle.gx_journal.specs.Working.{IsUnchangedIn}
use Rattle.gx_journal.proofs.CallLemmas.{keeps_placed}
use Rattle.gx_journal.proofs.UnchangedLemmas.{last_unchanged, none_left}
use Rattle.gx_journal.specs.Sources.{page_of, IsCached}
use Rattle.gx_journal.proofs.SourceLemmas.{last_found, found_below, some_found, still_none, fewer_without, evicted_pages, evicted_cached}
use Rattle.gx_journal.proofs.room.make_room.Goals as goal

pub settle-requires-clause-resident : goal.settle-requires-clause-resident
settle-requires-clause-resident g c =
    let last = last_found c.args.working.now.frames c.in-Some.page c.in-Some.changed
    c.victim.ensures.pool c.in-Some.ensures.last in
    subst (λ (o : Option Resident). IsSomeAnd o (λ r. r.changed ≡ c.in-Some.changed)) (sym last.1)
    refl

pub evict-requires-clause-within : goal.evict-requires-clause-within
evict-requires-clause-within g c =
    let last = last_found c.args.working.now.frames c.in-Some.page c.in-Some.changed
    c.victim.ensures.pool c.in-Some.ensures.last in
    let size = c.settle.ensures.keeps.writes.size in
    omega (
      arith,
      found_below c.args.working.now.frames.pages c.in-Some.page
          c.args.working.now.frames.resident _ c.victim.ensures.pool.within last.1,
      c.args.working.now.pages,
      c.settle.new.working.pages,
      size,
    )

pub evict-requires-clause-resident : goal.evict-requires-clause-resident
evict-requires-clause-resident g c =
    let last = last_found c.args.working.now.frames c.in-Some.page c.in-Some.changed
    c.victim.ensures.pool c.in-Some.ensures.last in
    some_found c.in-Some.page c.settle.new.working.frames.resident _
    (c.settle.ensures.frames.found c.in-Some.page ∙ last.1)

pub returns-clause-free : goal.returns-clause-free
returns-clause-free g c =
    let last = last_found c.args.working.now.frames c.in-Some.page c.in-Some.changed
    c.victim.ensures.pool c.in-Some.ensures.last in
    let less = fewer_without c.in-Some.page c.settle.new.working.frames.resident _
    (c.settle.ensures.frames.found c.in-Some.page ∙ last.1) in
    let count = c.settle.ensures.frames.count in
    let frames = c.settle.ensures.frames.frames in
    omega (
      arith,
      less,
      count,
      frames,
      c.victim.ensures.pool.fits,
      ap (λ (x : Pool). length x.resident) c.evict.ensures,
      ap (λ (x : Pool). x.frames) c.evict.ensures,
    )

pub returns-clause-absent : goal.returns-clause-absent
returns-clause-absent g c p none =
    ap (λ (x : Pool). Rattle.gx_frames.specs.Pool.find_page p x.resident) c.evict.ensures
    ∙ still_none c.in-Some.page p c.settle.new.working.frames.resident
    (c.settle.ensures.frames.found p ∙ none)

pub returns-clause-keeps : goal.returns-clause-keeps
returns-clause-keeps g c =
    let last = last_found c.args.working.now.frames c.in-Some.page c.in-Some.changed
    c.victim.ensures.pool c.in-Some.ensures.last in
    let stand = (g.D.Device.content c.settle.new.device).now.blocks in
    let N = g.D.Device.size c.args.device.now in
    let P = length c.args.working.now.spilled.items in
    let spilled = c.settle.new.working.spilled.items in
    let residents = c.settle.new.working.frames.resident in
    keeps_placed g.D.Device _ c.in_ok-settle.ensures.keeps refl
    (ap (λ (x : Pool). x.frames) c.evict.ensures)
    (λ told q. ap (λ (x : Pool). page_of N P stand spilled x.resident q) c.evict.ensures
    ∙ evicted_pages N P stand spilled residents c.in-Some.page _
    (c.settle.ensures.frames.found c.in-Some.page ∙ last.1)
    (sym (c.in_ok-settle.ensures.stored told _ last.1)) q)
    (λ told cached. subst (λ (x : Pool). IsCached N P stand spilled x.resident)
    (sym c.evict.ensures)
    (evicted_cached N P stand spilled residents c.in-Some.page cached))

pub returns-in_err-settle-clause-unchanged : goal.returns-in_err-settle-clause-unchanged
returns-in_err-settle-clause-unchanged g c is =
    subst IsUnchangedIn (sym (c.settle.ensures.untouched (last_unchanged c.args.working.now.frames
    c.in-Some.page c.in-Some.changed c.victim.ensures.pool c.in-Some.ensures.last
    (is.clean c.in-Some.page)))) is

pub returns-clause-unchanged : goal.returns-clause-unchanged
returns-clause-unchanged g c is =
    let settled : IsUnchangedIn c.settle.new.working =
    subst IsUnchangedIn (sym (c.settle.ensures.untouched
    (last_unchanged c.args.working.now.frames c.in-Some.page c.in-Some.changed c.victim.ensures.pool
    c.in-Some.ensures.last (is.clean c.in-Some.page)))) is in
    record {
      clean = λ q. subst (λ (x : Pool). ¬ IsChanged x q) (sym c.evict.ensures)
          (none_left c.settle.new.working.frames.resident c.in-Some.page q (settled.clean q));
      unspilled = settled.unspilled;
    }
