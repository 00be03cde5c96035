use Rattle.std.proofs.Common.{◌≡◌, ◌∙◌, ℕ, Bool, true, None, get_or, refl, sym, ap, subst, rules}
use Rattle.std.specs.Prelude.{IfOk}
use Rattle.std.proofs.lemmas.Result.{IfOk-weaker, IfErr-weaker}
use Rattle.gx_laws.proofs.ResultLemmas.{on_ok_always}
use Rattle.gx_device.specs.Faults.{Counted}
use Rattle.gx_layout.specs.Head.{DifferFirst, text_at, text_area}
use Rattle.gx_journal.specs.Journal.{content_of, kept_head, device_of}
use Rattle.gx_pages.specs.Laws.{calm_later}
use Rattle.gx_leaves.specs.Places.{specs_of}
use Rattle.gx_leaves.proofs.PlaceLemmas.{specs_back}
use Rattle.gx_store.specs.Opening.{AreUnread}
use Rattle.gx_store.specs.Opened.{IsOnlyRead}
use Rattle.gx_store.specs.Store.{machine_left}
use Rattle.gx_store.proofs.HeldLemmas.{adopted, adopted_just, ground_kept, if_ok_both}
use Rattle.gx_store.proofs.LeftLemmas.{left_is, goes_on_is, adopted_over}
use Rattle.gx_store.proofs.CauseLemmas.{counted_still}
use Rattle.gx_store.proofs.CrashLemmas.{only_read}
use Rattle.gx_store.proofs.opening.open_journal.Goals as goal

pub returns-in-Ok-None-clause-holds : goal.returns-in-Ok-None-clause-holds
returns-in-Ok-None-clause-holds g c = λ told same steady maps are.
    if_ok_both c.adopt.result _ _ _
    (adopted (λ p. refl) (λ p. refl) (λ p. refl)
    (λ p h. h) told c.args.journal c.texts_differ.new.self c.texts_differ.ensures.reads.keeps
    c.texts_differ.ensures.reads.working same steady c.args.specs.now maps are)
    c.adopt.ensures.journal c.adopt.ensures.places

pub returns-in-Ok-None-clause-other : goal.returns-in-Ok-None-clause-other
returns-in-Ok-None-clause-other g c = λ told.
    IfErr-weaker c.adopt.result _ _
    (λ e is. subst (λ w. AreUnread c.args.schema.now c.args.equation.now
    (kept_head c.args.journal) w)
    (sym is) tt) c.adopt.ensures.no_memory

pub returns-in-Ok-None-clause-faults : goal.returns-in-Ok-None-clause-faults
returns-in-Ok-None-clause-faults g c =
    subst (λ (b : Bool). Counted b (g.M.Device.faults (device_of c.args.journal))
    (g.M.Device.faults (machine_left c.adopt.result)))
    (sym (goes_on_is c.adopt.result c.adopt.ensures.no_memory))
    (subst (λ d. Counted true (g.M.Device.faults (device_of c.args.journal)) (g.M.Device.faults d))
    (sym (left_is c.adopt.result c.texts_differ.new.self c.adopt.ensures.journal
    c.adopt.ensures.back))
    (counted_still _ _ c.in-Ok-None.ensures.reads.faults.same))

pub returns-in-Ok-None-clause-just_opened : goal.returns-in-Ok-None-clause-just_opened
returns-in-Ok-None-clause-just_opened g c = λ same steady.
    IfOk-weaker c.adopt.result _ _
    (adopted_just (λ p. refl) (λ p. refl) (λ p. refl)
    (λ p h. h) c.args.journal c.texts_differ.new.self c.texts_differ.ensures.reads.keeps
    c.texts_differ.ensures.reads.working same steady)
    c.adopt.ensures.journal

pub returns-in-Ok-None-clause-texts : goal.returns-in-Ok-None-clause-texts
returns-in-Ok-None-clause-texts g c = λ told.
    let head = text_at (kept_head c.args.journal) in
    let area : ℕ → ℕ = λ q. get_or (text_area c.args.schema.now c.args.equation.now) q 0 in
    let none : c.in-Ok-None.field-0 ≡ None = search rules in
    on_ok_always c.adopt.result (subst (DifferFirst head area) none
    (subst (λ r. IfOk r (DifferFirst head area)) c.in-Ok-None.is
    (c.texts_differ.ensures.place told)))

pub returns-in-Ok-None-clause-adopted : goal.returns-in-Ok-None-clause-adopted
returns-in-Ok-None-clause-adopted g c =
    let j = c.args.journal in
    let k = c.texts_differ.new.self in
    adopted_over c.adopt.result c.args.specs.now j k
    (ground_kept j k c.texts_differ.ensures.reads.keeps)
    (λ calm. calm_later k (content_of j) (c.texts_differ.ensures.reads.keeps.calm (content_of j) calm))
    c.adopt.ensures.journal
    (IfOk-weaker c.adopt.result _ _ (λ s is. ap specs_of is ∙ specs_back c.args.specs.now _ 1)
    c.adopt.ensures.places)

pub returns-in-Ok-None-clause-read : goal.returns-in-Ok-None-clause-read
returns-in-Ok-None-clause-read g c =
    subst (λ d. IsOnlyRead c.args.journal d)
    (sym (left_is c.adopt.result c.texts_differ.new.self c.adopt.ensures.journal
    c.adopt.ensures.back))
    (only_read c.args.journal c.texts_differ.new.self c.texts_differ.ensures.reads.keeps
    c.texts_differ.ensures.now c.texts_differ.ensures.reads.silent)

pub returns-in-Ok-Some-clause-read : goal.returns-in-Ok-Some-clause-read
returns-in-Ok-Some-clause-read g c =
    subst (λ d. IsOnlyRead c.args.journal d) (sym c.into_device.ensures)
    (only_read c.args.journal c.texts_differ.new.self c.texts_differ.ensures.reads.keeps
    c.texts_differ.ensures.now c.texts_differ.ensures.reads.silent)

pub returns-in-Err-clause-read : goal.returns-in-Err-clause-read
returns-in-Err-clause-read g c =
    subst (λ d. IsOnlyRead c.args.journal d) (sym c.into_device-in-Err.ensures)
    (only_read c.args.journal c.texts_differ.new.self c.texts_differ.ensures.reads.keeps
    c.texts_differ.ensures.now c.texts_differ.ensures.reads.silent)
