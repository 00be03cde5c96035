use Rattle.std.proofs.Common.{◌≡◌, ◌∙◌, List, [], get_or, refl, sym, ap, subst}
use Rattle.std.specs.Prelude.{IfOk}
use Rattle.gx_device.specs.Crash.{EachImage}
use Rattle.gx_device.proofs.RunLemmas.{joined}
use Rattle.gx_ports.specs.Heads.{Head}
use Rattle.gx_ports.specs.LeafMaps.{LeafMap}
use Rattle.gx_ports.specs.Sheets.{Ground}
use Rattle.gx_layout.specs.Head.{HasMagic}
use Rattle.gx_layout.proofs.BlockLemmas.{silent_twice}
use Rattle.gx_journal.specs.Journal.{IsCalm, content_of, device_of}
use Rattle.gx_leaves.specs.Paged.{pages_of, head_of}
use Rattle.gx_pages.specs.View.{journal_of}
use Rattle.gx_store.specs.Crashes.{HasNoMagic}
use Rattle.gx_store.specs.Opened.{IsAdopted}
use Rattle.gx_store.specs.Store.{HoldsMaps, machine_left}
use Rattle.gx_store.proofs.CauseLemmas.{counted_after}
use Rattle.gx_store.proofs.HeldLemmas.{if_ok_both, if_ok_later}
use Rattle.gx_store.proofs.MadeLemmas.{none_before}
use Rattle.gx_store.proofs.preparing.prepare_over.Goals as goal

pub returns-in-Ok-clause-holds : goal.returns-in-Ok-clause-holds
returns-in-Ok-clause-holds g c = λ told steady.
    let made = c.in-Ok.ensures.made told steady in
    subst (λ (maps : List LeafMap). IfOk c.commit_made.result (HoldsMaps maps)) made.working
    (c.commit_made.ensures.holds made.whole)

pub returns-in-Ok-clause-over : goal.returns-in-Ok-clause-over
returns-in-Ok-clause-over g c =
    let j = c.args.journal in
    let over = c.in-Ok.ensures.over in
    if_ok_both c.commit_made.result (λ s. head_of s ≡ head_of c.in-Ok.leaves)
    (λ s. IsCalm j (content_of j)
    → IsCalm (journal_of (pages_of s)) (content_of (journal_of (pages_of s))))
    (λ s. IsAdopted c.args.specs.now j s)
    (λ s same calm. record {
      specs_are = ap (λ (h : Head). h.leaves) same ∙ over.specs_are;
      ground = ap (λ (h : Head). h.base) same ∙ over.ground;
      calm = calm;
    })
    c.commit_made.ensures.head
    (if_ok_later c.commit_made.result (IsCalm j (content_of j))
    (λ s. IsCalm (journal_of (pages_of s)) (content_of (journal_of (pages_of s))))
    (λ before. c.commit_made.ensures.calm (over.calm before)))

pub returns-in-Ok-clause-silent : goal.returns-in-Ok-clause-silent
returns-in-Ok-clause-silent g c =
    silent_twice _ (content_of (journal_of (pages_of c.in-Ok.leaves))) _ c.in-Ok.ensures.silent
    c.commit_made.ensures.silent

pub returns-in-Ok-clause-faults : goal.returns-in-Ok-clause-faults
returns-in-Ok-clause-faults g c =
    counted_after _ _ _ _ (c.in-Ok.ensures.faults.same refl) c.commit_made.ensures.faults

pub returns-in-Ok-clause-images : goal.returns-in-Ok-clause-images
returns-in-Ok-clause-images g c = λ told calm none.
    let j = c.args.journal in
    let k = journal_of (pages_of c.in-Ok.leaves) in
    let last = g.M.Device.content (machine_left c.commit_made.result) in
    let over = c.in-Ok.ensures.over in
    let silent = c.in-Ok.ensures.silent in
    let count = sym (g.met.M.Device.sized (device_of k) told)
    ∙ ap (λ (b : Ground). b.blocks) over.ground ∙ g.met.M.Device.sized (device_of j) told in
    joined (EachImage (HasNoMagic (content_of j).now)) (content_of j) (content_of k) last
    (c.in-Ok.ensures.images told calm none)
    (none_before (content_of j).now (content_of k).now count silent.said silent.shelf
    (content_of k) last
    (c.commit_made.ensures.images told (over.calm calm)
    (λ has. none (subst (λ (b : Ground). HasMagic b.blocks (get_or b.head 0 [])) over.ground has))))
