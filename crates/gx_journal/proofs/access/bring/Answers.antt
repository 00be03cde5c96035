use Rattle.std.proofs.Common.{◌≡◌, ◌<◌, ◌∙◌, false, true, [], Option, Some, None, IsTrue, get_or, length, refl, ap, sym, subst, arith}
use Rattle.std.specs.Prelude.{IsSome, if◌then◌else◌}
use Rattle.std.proofs.lemmas.Bool.{true≢false}
use Rattle.std.proofs.lemmas.List.{get_or_default}
use Rattle.gx_device.specs.Content.{Moment}
use Rattle.gx_layout.specs.Layout.{slot, home}
use Rattle.gx_frames.specs.Pool.{Resident, Pool, find_page}
use Rattle.gx_journal.proofs.CallLemmas.{front_residents, keeps_failed, keeps_itself, keeps_joined, keeps_order, keeps_placed, keeps_read}
use Rattle.gx_journal.specs.Sources.{stored, page_of, IsCached}
use Rattle.gx_journal.proofs.SourceLemmas.{admitted_pages, admitted_cached}
use Rattle.gx_journal.proofs.SlotLemmas.{front_found}
use Rattle.gx_journal.proofs.UnchangedLemmas.{still_unchanged}
use Rattle.gx_journal.proofs.access.bring.Goals as goal

none_found : (o : Option Resident) → (IsSome o → false ≡ true) → o ≡ None
none_found None is = refl
none_found (Some r) is = absurd (true≢false (sym (is refl)))

pub returns-then-is_resident-clause-keeps : goal.returns-then-is_resident-clause-keeps
returns-then-is_resident-clause-keeps g c =
    keeps_order g.D.Device _
    (keeps_itself g.D.Device (tt {0}) c.args.device.now c.args.working.now c.requires.backed)
    (front_residents c.args.p c.args.working.now.frames _ c.carry_out.ensures) refl

pub returns-then-is_resident-clause-unchanged : goal.returns-then-is_resident-clause-unchanged
returns-then-is_resident-clause-unchanged g c is =
    let rs = c.args.working.now.frames.resident in
    record {
      clean = λ q. still_unchanged rs _ q
          (front_found c.args.p rs _ (ap (λ (x : Pool). x.resident) c.carry_out.ensures) q)
          (is.clean q);
      unspilled = is.unspilled;
    }

pub returns-then-is_resident-clause-resident : goal.returns-then-is_resident-clause-resident
returns-then-is_resident-clause-resident g c =
    let rs = c.args.working.now.frames.resident in
    subst (λ (o : Option Resident). IsSome o)
    (sym (front_found c.args.p rs _ (ap (λ (x : Pool). x.resident) c.carry_out.ensures) c.args.p))
    (c.is_resident.ensures.0 c.if-is_resident.true)

pub returns-clause-keeps : goal.returns-clause-keeps
returns-clause-keeps g c =
    let N = g.D.Device.size c.args.device.now in
    let P = length c.args.working.now.spilled.items in
    let stand = (g.D.Device.content c.fetch.new.device).now.blocks in
    let spilled = c.make_room.new.working.spilled.items in
    let residents = c.make_room.new.working.frames.resident in
    let rs = c.args.working.now.frames.resident in
    let absent : find_page c.args.p residents ≡ None =
    c.make_room.ensures.absent c.args.p
    (none_found (find_page c.args.p rs) (λ is. sym c.if-is_resident.false
    ∙ c.is_resident.ensures.1 is)) in
    let made = c.make_room.ensures.keeps.writes.size in
    let below : c.args.p < length spilled = omega (arith, c.requires.below, made) in
    let flag : c.index-is_spilled.result.now ≡ get_or spilled c.args.p false =
    c.index-is_spilled.ensures
    ∙ get_or_default spilled c.args.p c.index-is_spilled.result.now false below in
    let now : (g.D.Device.content c.make_room.new.device).now.blocks ≡ stand =
    sym (ap (λ (m : Moment). m.blocks) c.fetch.ensures.reads.rest.now) in
    let count : c.count.result ≡ P = c.count.ensures ∙ made in
    let size = c.make_room.ensures.keeps.writes.blocks in
    let is : IsTrue g.D.Device.tells → c.fetch.new.into ≡ stored N P stand spilled c.args.p =
    λ told. c.in_ok-fetch.ensures.page told
    ∙ (λ i. if flag i then get_or (now i) (slot (size i) c.args.p) []
    else get_or (now i) (home (size i) (count i) c.args.p) []) in
    keeps_placed g.D.Device _
    (keeps_read g.D.Device (keeps_joined g.D.Device
    (keeps_itself g.D.Device (tt {0}) c.args.device.now c.args.working.now c.requires.backed)
    c.in_ok-make_room.ensures.keeps) c.in_ok-fetch.ensures.reads) refl
    (ap (λ (x : Pool). x.frames) c.carry_out-2.ensures)
    (λ told q. ap (λ (x : Pool). page_of N P stand spilled x.resident q) c.carry_out-2.ensures
    ∙ admitted_pages N P stand spilled residents c.args.p c.fetch.new.into (is told) absent q)
    (λ told cached. subst (λ (x : Pool). IsCached N P stand spilled x.resident)
    (sym c.carry_out-2.ensures)
    (admitted_cached N P stand spilled residents c.args.p c.fetch.new.into (is told) cached))

pub returns-in_err-fetch-clause-keeps : goal.returns-in_err-fetch-clause-keeps
returns-in_err-fetch-clause-keeps g c =
    keeps_failed g.D.Device c.from_residual-in_err-fetch.result
    c.from_residual-in_err-fetch.ensures.0
    (keeps_read g.D.Device (keeps_joined g.D.Device
    (keeps_itself g.D.Device (tt {0}) c.args.device.now c.args.working.now c.requires.backed)
    c.in_ok-make_room.ensures.keeps) c.in_err-fetch.ensures.reads)
