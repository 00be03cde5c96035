use Rattle.std.proofs.Common.{◌∙◌, List, ℕ, [], get_or, sym, subst}
use Rattle.std.proofs.lemmas.Result.{IfOk-weaker}
use Rattle.gx_device.specs.Crash.{EachImage, LeavesOnly}
use Rattle.gx_device.proofs.RunLemmas.{joined}
use Rattle.gx_ports.specs.Sheets.{Ground}
use Rattle.gx_layout.specs.Head.{HasMagic}
use Rattle.gx_layout.proofs.BlockLemmas.{silent_twice}
use Rattle.gx_leaves.specs.Places.{IsRoomFor}
use Rattle.gx_journal.specs.Journal.{content_of, size_of, kept_head}
use Rattle.gx_pages.specs.Owners.{IsAllFree}
use Rattle.gx_pages.specs.View.{journal_of}
use Rattle.gx_pages.specs.Laws.{calm_later}
use Rattle.gx_pages.specs.Paged.{working_sheets}
use Rattle.gx_store.specs.Crashes.{HasNoMagic}
use Rattle.gx_store.specs.Store.{machine_left}
use Rattle.gx_store.proofs.HeldLemmas.{ground_kept}
use Rattle.gx_store.proofs.CauseLemmas.{counted_after}
use Rattle.gx_store.proofs.MadeLemmas.{calm_none, none_before}
use Rattle.gx_store.proofs.preparing.make_leaves.Goals as goal

pub make_in-requires : goal.make_in-requires
make_in-requires g c = record {
  room = subst (λ (b : Ground). IsRoomFor b c.args.specs.now)
      (sym (ground_kept c.args.journal (journal_of c.in-Ok.pages) c.in-Ok.ensures.keeps.keeps))
      c.requires.room;
}

pub returns-in-Ok-clause-made : goal.returns-in-Ok-clause-made
returns-in-Ok-clause-made g c = λ told steady.
    let k = journal_of c.in-Ok.pages in
    let keeps = c.in-Ok.ensures.keeps.keeps in
    c.make_in.ensures.made told (keeps.steady ∙ steady)
    (subst (λ (b : Ground). IsAllFree b (working_sheets k))
    (sym (ground_kept c.args.journal k keeps)) (c.in-Ok.ensures.free told))

pub returns-in-Ok-clause-silent : goal.returns-in-Ok-clause-silent
returns-in-Ok-clause-silent g c =
    silent_twice _ (content_of (journal_of c.in-Ok.pages)) _ c.in-Ok.ensures.keeps.silent
    c.make_in.ensures.silent

pub returns-in-Ok-clause-faults : goal.returns-in-Ok-clause-faults
returns-in-Ok-clause-faults g c =
    counted_after _ _ _ _ c.in-Ok.ensures.keeps.faults.same c.make_in.ensures.faults

pub returns-in-Ok-clause-over : goal.returns-in-Ok-clause-over
returns-in-Ok-clause-over g c =
    let j = c.args.journal in
    let k = journal_of c.in-Ok.pages in
    let keeps = c.in-Ok.ensures.keeps.keeps in
    IfOk-weaker c.make_in.result _ _
    (λ s over. record {
      specs_are = over.specs_are;
      ground = over.ground ∙ ground_kept j k keeps;
      calm = λ calm. over.calm (calm_later k (content_of j) (keeps.calm (content_of j) calm));
    })
    c.make_in.ensures.over

pub returns-in-Ok-clause-images : goal.returns-in-Ok-clause-images
returns-in-Ok-clause-images g c = λ told calm none.
    let j = c.args.journal in
    let k = journal_of c.in-Ok.pages in
    let keeps = c.in-Ok.ensures.keeps.keeps in
    let silent = c.in-Ok.ensures.keeps.silent in
    let since = keeps.calm (content_of j) calm in
    let last = g.M.Device.content (machine_left c.make_in.result) in
    let count = sym (g.met.M.Device.sized k.device told) ∙ keeps.blocks
    ∙ g.met.M.Device.sized j.device told in
    joined (EachImage (HasNoMagic (content_of j).now)) (content_of j) (content_of k) last
    (calm_none g.M.Device.tells k.failed (size_of k) (content_of j) (content_of k) since count
    keeps.head silent
    (λ has. none (subst (λ (n : ℕ). HasMagic n (get_or (kept_head j) 0 []))
    (sym (g.met.M.Device.sized j.device told)) has)))
    (none_before (content_of j).now (content_of k).now count silent.said silent.shelf
    (content_of k) last
    (c.make_in.ensures.images told (calm_later k (content_of j) since)
    (λ has. none (subst (λ (n : ℕ). HasMagic n (get_or (kept_head j) 0 [])) keeps.blocks
    (subst (λ (h : List (List ℕ)). HasMagic (g.M.Device.size k.device) (get_or h 0 [])) keeps.head
    has)))))

pub returns-in-Err-clause-images : goal.returns-in-Err-clause-images
returns-in-Err-clause-images g c = λ told calm none.
    let j = c.args.journal in
    let k = c.in-Err.journal in
    let keeps = c.in-Err.ensures.keeps.keeps in
    let count = sym (g.met.M.Device.sized k.device told) ∙ keeps.blocks
    ∙ g.met.M.Device.sized j.device told in
    subst (λ d. LeavesOnly (HasNoMagic (content_of j).now) (content_of j) (g.M.Device.content d))
    (sym c.into_device.ensures)
    (calm_none g.M.Device.tells k.failed (size_of k) (content_of j) (content_of k)
    (keeps.calm (content_of j) calm) count keeps.head c.in-Err.ensures.keeps.silent
    (λ has. none (subst (λ (n : ℕ). HasMagic n (get_or (kept_head j) 0 []))
    (sym (g.met.M.Device.sized j.device told)) has)))
