use Rattle.std.proofs.Common.{refl, ℕ, Option, length, inl, inr, ap, sym, subst, ◌∙◌}
use Rattle.std.specs.Prelude.{IsSomeAnd, IsTrue}
use Rattle.std.proofs.lemmas.Bool.Decides.{eqb_tells}
use Rattle.gx_frames.specs.Pool.{Resident, Pool, find_page, cleaned}
use Rattle.gx_journal.specs.Sources.{page_of, IsCached}
use Rattle.gx_journal.proofs.CallLemmas.{keeps_placed}
use Rattle.gx_journal.proofs.SourceLemmas.{some_found, page_resident, placed_other, placed_cached}
use Rattle.gx_journal.proofs.SlotLemmas.{front_found}
use Rattle.gx_journal.proofs.CleanLemmas.{changed_at, unchanged_at, find_cleaned, find_cleaned_other}
use Rattle.gx_journal.proofs.commit.spill_one.Goals as goal

pub clean-requires-clause-resident : goal.clean-requires-clause-resident
clean-requires-clause-resident g c =
    let rs = c.args.working.now.frames.resident in
    let r = changed_at (find_page c.args.p rs) c.requires.changed in
    some_found c.args.p c.spill.new.working.frames.resident r.0
    (front_found c.args.p rs _ (ap (λ (x : Pool). x.resident) c.spill.ensures.frames) c.args.p
    ∙ r.1)

pub returns-clause-clean : goal.returns-clause-clean
returns-clause-clean g c h =
    let p = c.args.p in
    let rs = c.args.working.now.frames.resident in
    let ss = c.spill.new.working.frames.resident in
    let r = changed_at (find_page p rs) c.requires.changed in
    let order = front_found p rs ss (ap (λ (x : Pool). x.resident) c.spill.ensures.frames) in
    let x = find_cleaned p ss r.0 (order p ∙ r.1) in
    unchanged_at (find_page p c.clean.new.self.resident) x.0
    (ap (λ (y : Pool). find_page p y.resident) c.clean.ensures ∙ x.1) x.3 h

pub returns-clause-still : goal.returns-clause-still
returns-clause-still g c q not h =
    let p = c.args.p in
    let rs = c.args.working.now.frames.resident in
    let ss = c.spill.new.working.frames.resident in
    let r = changed_at (find_page p rs) c.requires.changed in
    let order = front_found p rs ss (ap (λ (x : Pool). x.resident) c.spill.ensures.frames) in
    let x = find_cleaned p ss r.0 (order p ∙ r.1) in
    elim (eqb_tells p q) [
      | inl same ↦ unchanged_at (find_page q c.clean.new.self.resident) x.0
          (ap (λ (y : Pool). find_page q y.resident) c.clean.ensures
          ∙ ap (λ (k : ℕ). find_page k (cleaned p ss)) (sym same.1) ∙ x.1) x.3 h
      | inr other ↦ not (subst (λ (o : Option Resident). IsSomeAnd o (λ y. IsTrue y.changed))
          (ap (λ (y : Pool). find_page q y.resident) c.clean.ensures
          ∙ find_cleaned_other p q ss other.1 ∙ order q) h)
    ]

pub returns-clause-keeps : goal.returns-clause-keeps
returns-clause-keeps g c =
    let p = c.args.p in
    let rs = c.args.working.now.frames.resident in
    let ss = c.spill.new.working.frames.resident in
    let r = changed_at (find_page p rs) c.requires.changed in
    let order = front_found p rs ss (ap (λ (x : Pool). x.resident) c.spill.ensures.frames) in
    let x = find_cleaned p ss r.0 (order p ∙ r.1) in
    let blocks = (g.D.Device.content c.spill.new.device).now.blocks in
    let N = g.D.Device.size c.args.device.now in
    let P = length c.args.working.now.spilled.items in
    let spilled = c.spill.new.working.spilled.items in
    keeps_placed g.D.Device _ c.in_ok-spill.ensures.keeps refl
    (ap (λ (y : Pool). y.frames) c.clean.ensures)
    (λ told q. ap (λ (y : Pool). page_of N P blocks spilled y.resident q) c.clean.ensures ∙ elim
    (eqb_tells p q) [
      | inl same ↦ page_resident N P blocks spilled (cleaned p ss) q x.0
          (ap (λ (k : ℕ). find_page k (cleaned p ss)) (sym same.1) ∙ x.1) ∙ x.2
          ∙ sym (page_resident N P blocks spilled ss q r.0
          (ap (λ (k : ℕ). find_page k ss) (sym same.1) ∙ order p ∙ r.1))
      | inr other ↦ placed_other N P blocks spilled ss (cleaned p ss) p x.0 x.1
          (λ k off. find_cleaned_other p k ss off) q other.1
    ])
    (λ told cached. subst (λ (y : Pool). IsCached N P blocks spilled y.resident) (sym
    c.clean.ensures)
    (placed_cached N P blocks spilled ss (cleaned p ss) p x.0 x.1
    (λ k off. find_cleaned_other p k ss off) (λ e. x.2 ∙ sym
    (c.in_ok-spill.ensures.stored told r.0 r.1)) cached))
