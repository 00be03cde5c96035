use Rattle.std.proofs.Common.{◌≡◌, ◌∙◌, List, [], Ok, Err, true, false, drop, length, get_or, sym, ap, subst}
use Rattle.gx_device.specs.Content.{Silent}
use Rattle.gx_device.specs.Crash.{LeavesOnly}
use Rattle.gx_device.specs.Faults.{Counted}
use Rattle.gx_layout.specs.Besides.{IsUnsealed}
use Rattle.gx_layout.specs.Head.{HasMagic}
use Rattle.gx_layout.specs.Recovered.{view_now}
use Rattle.gx_ports.specs.declared.kinds.LeafSpec.{LeafSpec}
use Rattle.gx_ports.specs.LeafMaps.{LeafMap}
use Rattle.gx_journal.specs.Calls.{KeepsPages}
use Rattle.gx_journal.specs.Journal.{IsCalm, content_of, device_of, kept_of as kept_pages, kept_head}
use Rattle.gx_leaves.specs.Paged.{pages_of, places_in, kept_of}
use Rattle.gx_leaves.specs.Places.{IsRoomFor}
use Rattle.gx_pages.specs.Paged.{ground_of, kept_sheets}
use Rattle.gx_pages.specs.View.{journal_of}
use Rattle.gx_store.specs.Device.{AreMaps}
use Rattle.gx_store.specs.Making.{Seals}
use Rattle.gx_store.specs.declared.unopened.Unopened.TheVariants as unopened
use Rattle.gx_store.proofs.CauseLemmas.{counted_fault, counted_still}
use Rattle.gx_store.proofs.JournalLemmas.{maps_placed}
use Rattle.gx_store.proofs.SealedLemmas.{sealed_done, sealed_failed}
use Rattle.gx_store.proofs.sealing.seal.Goals as goal

pub returns-in-Ok-clause-seals : goal.returns-in-Ok-clause-seals
returns-in-Ok-clause-seals g c = λ schema equation specs maps u.
    let s = c.args.store in
    let j = journal_of (pages_of s) in
    let k = c.seal.new.self in
    let told = u.was_whole.told in
    let is = c.into_journal-journal.ensures ∙ ap (λ p. journal_of p) c.into_pages.ensures in
    subst (λ d. Seals schema equation specs maps (content_of j) (g.M.Device.content d) (Ok tt))
    (sym c.into_device.ensures)
    (sealed_done j k told (g.met.M.Device.sized j.device told) (g.met.M.Device.sized k.device told)
    schema equation specs maps u.was_whole.settled u.calm u.head.texts
    (subst (λ (ss : List LeafSpec). IsRoomFor (ground_of j) ss) u.head.leaves s.laid_out.room)
    (subst (λ (ms : List LeafMap). AreMaps (ground_of j) specs ms (kept_sheets j)) u.kept
    (subst (λ (ss : List LeafSpec). AreMaps (ground_of j) ss (kept_of s) (kept_sheets j))
    u.head.leaves
    (maps_placed (ground_of j) (places_in s) (kept_sheets j) s.laid_out.places_are
    u.was_whole.laid)))
    (subst (λ x. KeepsPages x k) is c.seal.ensures.keeps)
    (subst (λ x. drop 1 (kept_head k) ≡ drop 1 (kept_head x)) is c.seal.ensures.texts)
    (subst (λ x. LeavesOnly (IsUnsealed (view_now (kept_pages x) (content_of x))) (content_of x)
    (content_of k)) is
    (c.seal.ensures.seals.images (content_of c.into_journal-journal.result)
    (subst (λ x. IsCalm x (content_of x)) (sym is) u.calm)))
    (subst (λ x. HasMagic (g.M.Device.size (device_of x)) (get_or (kept_head k) 0 [])) is
    (c.in-Ok.ensures.magic told))
    (c.in-Ok.ensures.seals.calm (content_of c.into_journal-journal.result)
    (subst (λ x. IsCalm x (content_of x)) (sym is) u.calm))
    (c.in-Ok.ensures.seals.none_pending told))

pub returns-in-Err-clause-seals : goal.returns-in-Err-clause-seals
returns-in-Err-clause-seals g c = λ schema equation specs maps u.
    let s = c.args.store in
    let j = journal_of (pages_of s) in
    let k = c.seal.new.self in
    let told = u.was_whole.told in
    let is = c.into_journal-journal.ensures ∙ ap (λ p. journal_of p) c.into_pages.ensures in
    subst (λ d. Seals schema equation specs maps (content_of j) (g.M.Device.content d)
    (Err unopened.Fault))
    (sym c.into_device-in-Err.ensures)
    (sealed_failed j k told (g.met.M.Device.sized j.device told)
    (g.met.M.Device.sized k.device told)
    schema equation specs maps u.was_whole.settled u.calm u.head.texts
    (subst (λ (ss : List LeafSpec). IsRoomFor (ground_of j) ss) u.head.leaves s.laid_out.room)
    (subst (λ (ms : List LeafMap). AreMaps (ground_of j) specs ms (kept_sheets j)) u.kept
    (subst (λ (ss : List LeafSpec). AreMaps (ground_of j) ss (kept_of s) (kept_sheets j))
    u.head.leaves
    (maps_placed (ground_of j) (places_in s) (kept_sheets j) s.laid_out.places_are
    u.was_whole.laid)))
    (subst (λ x. KeepsPages x k) is c.seal.ensures.keeps)
    (subst (λ x. drop 1 (kept_head k) ≡ drop 1 (kept_head x)) is c.seal.ensures.texts)
    unopened.Fault
    (subst (λ x. LeavesOnly (IsUnsealed (view_now (kept_pages x) (content_of x))) (content_of x)
    (content_of k)) is
    (c.seal.ensures.seals.images (content_of c.into_journal-journal.result)
    (subst (λ x. IsCalm x (content_of x)) (sym is) u.calm))))

pub returns-in-Ok-clause-count : goal.returns-in-Ok-clause-count
returns-in-Ok-clause-count g c = λ told.
    ap (λ d. length (g.M.Device.content d).now.blocks) c.into_device.ensures
    ∙ sym (g.met.M.Device.sized c.seal.new.self.device told) ∙ c.seal.ensures.keeps.blocks
    ∙ ap (λ x. g.M.Device.size (device_of x)) (c.into_journal-journal.ensures
    ∙ ap (λ p. journal_of p) c.into_pages.ensures)
    ∙ g.met.M.Device.sized (device_of (journal_of (pages_of c.args.store))) told

pub returns-in-Err-clause-count : goal.returns-in-Err-clause-count
returns-in-Err-clause-count g c = λ told.
    ap (λ d. length (g.M.Device.content d).now.blocks) c.into_device-in-Err.ensures
    ∙ sym (g.met.M.Device.sized c.seal.new.self.device told) ∙ c.seal.ensures.keeps.blocks
    ∙ ap (λ x. g.M.Device.size (device_of x)) (c.into_journal-journal.ensures
    ∙ ap (λ p. journal_of p) c.into_pages.ensures)
    ∙ g.met.M.Device.sized (device_of (journal_of (pages_of c.args.store))) told

pub returns-in-Ok-clause-silent : goal.returns-in-Ok-clause-silent
returns-in-Ok-clause-silent g c =
    subst (λ d. Silent (content_of (journal_of (pages_of c.args.store))) (g.M.Device.content d))
    (sym c.into_device.ensures)
    (subst (λ x. Silent (content_of x) (content_of c.seal.new.self))
    (c.into_journal-journal.ensures ∙ ap (λ p. journal_of p) c.into_pages.ensures)
    c.seal.ensures.touched.silent)

pub returns-in-Err-clause-silent : goal.returns-in-Err-clause-silent
returns-in-Err-clause-silent g c =
    subst (λ d. Silent (content_of (journal_of (pages_of c.args.store))) (g.M.Device.content d))
    (sym c.into_device-in-Err.ensures)
    (subst (λ x. Silent (content_of x) (content_of c.seal.new.self))
    (c.into_journal-journal.ensures ∙ ap (λ p. journal_of p) c.into_pages.ensures)
    c.seal.ensures.touched.silent)

pub returns-in-Ok-clause-faults : goal.returns-in-Ok-clause-faults
returns-in-Ok-clause-faults g c =
    subst (λ d. Counted true (g.M.Device.faults (device_of (journal_of (pages_of c.args.store))))
    (g.M.Device.faults d)) (sym c.into_device.ensures)
    (subst (λ x. Counted true (g.M.Device.faults (device_of x))
    (g.M.Device.faults (device_of c.seal.new.self)))
    (c.into_journal-journal.ensures ∙ ap (λ p. journal_of p) c.into_pages.ensures)
    (counted_still _ _ c.in-Ok.ensures.faults.same))

pub returns-in-Err-clause-faults : goal.returns-in-Err-clause-faults
returns-in-Err-clause-faults g c =
    subst (λ d. Counted false (g.M.Device.faults (device_of (journal_of (pages_of c.args.store))))
    (g.M.Device.faults d)) (sym c.into_device-in-Err.ensures)
    (subst (λ x. Counted false (g.M.Device.faults (device_of x))
    (g.M.Device.faults (device_of c.seal.new.self)))
    (c.into_journal-journal.ensures ∙ ap (λ p. journal_of p) c.into_pages.ensures)
    (counted_fault _ _ c.in-Err.ensures.faults.later c.in-Err.ensures.faults.failed))
