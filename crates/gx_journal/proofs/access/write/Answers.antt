use Rattle.std.proofs.Common.{◌∷◌, true, length, refl, ap, sym, subst, ◌∙◌}
use Rattle.std.proofs.lemmas.Bool.{true≢false}
use Rattle.gx_frames.specs.Pool.{Resident, Pool, without}
use Rattle.gx_frames.proofs.PoolLemmas.{find_here}
use Rattle.gx_journal.specs.Sources.{page_of, IsCached}
use Rattle.gx_journal.proofs.CallLemmas.{writes_placed}
use Rattle.gx_journal.proofs.SourceLemmas.{find_past, find_without_other, placed_other, placed_cached}
use Rattle.gx_journal.proofs.access.write.Goals as goal

pub returns-clause-others : goal.returns-clause-others
returns-clause-others g c told q ne =
    let blocks = (g.D.Device.content c.reserve.new.device).now.blocks in
    let N = g.D.Device.size c.args.device.now in
    let P = length c.args.working.now.spilled.items in
    let rs = c.reserve.new.working.frames.resident in
    let p = c.args.p in
    let r : Resident = record { page = p; bytes = c.args.from.now; changed = true } in
    ap (λ (x : Pool). page_of N P blocks c.reserve.new.working.spilled.items x.resident q)
    c.put.ensures
    ∙ placed_other N P blocks c.reserve.new.working.spilled.items rs (r ∷ without p rs) p r
    (find_here p r (without p rs) refl)
    (λ k off. find_past k r (without p rs) off ∙ find_without_other p k rs off) q ne
    ∙ c.reserve.ensures.keeps.same told q

pub returns-clause-writes : goal.returns-clause-writes
returns-clause-writes g c =
    let blocks = (g.D.Device.content c.reserve.new.device).now.blocks in
    let N = g.D.Device.size c.args.device.now in
    let P = length c.args.working.now.spilled.items in
    let spilled = c.reserve.new.working.spilled.items in
    let rs = c.reserve.new.working.frames.resident in
    let p = c.args.p in
    let r : Resident = record { page = p; bytes = c.args.from.now; changed = true } in
    writes_placed g.D.Device _ c.in_ok-reserve.ensures.keeps.writes refl
    (ap (λ (x : Pool). x.frames) c.put.ensures) (λ told cached.
    subst (λ (x : Pool). IsCached N P blocks spilled x.resident) (sym c.put.ensures)
    (placed_cached N P blocks spilled rs (r ∷ without p rs) p r (find_here p r (without p rs) refl)
    (λ k off. find_past k r (without p rs) off ∙ find_without_other p k rs off)
    (λ e. absurd (true≢false e)) cached))
