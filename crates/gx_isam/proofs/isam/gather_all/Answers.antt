use Rattle.std.proofs.Common.{◌≡◌, ◌++◌, [], List, ℕ, refl, sym, ap, subst, ◌∙◌}
use Rattle.std.proofs.lemmas.Bool.{false≢true}
use Rattle.gx_ports.specs.declared.leaves.Entry.{Entry as LeafEntry}
use Rattle.gx_ports.specs.declared.entries.Entries.{Entries}
use Rattle.gx_ports.specs.Files.{IsWhole}
use Rattle.gx_ports.specs.LeafMaps.{selected}
use Rattle.gx_ports.specs.Sheets.{Ground, IsHome}
use Rattle.gx_seen.proofs.EndLemmas.{ends_shown}
use Rattle.gx_isam.specs.Isam.{IsIsam}
use Rattle.gx_isam_index.specs.Layout.{AreOrdered}
use Rattle.gx_isam.proofs.SelectedLemmas.{selected_ordered}
use Rattle.gx_isam.proofs.isam.gather_all.Goals as goal

pub returns-then-not-are_ordered-clause-ends : goal.returns-then-not-are_ordered-clause-ends
returns-then-not-are_ordered-clause-ends g c =
    let p = c.args.pages.now in
    let q = c.select.new.pages in
    let place = c.args.place.now in
    let reads = c.select.ensures.reads in
    ends_shown {T = Entries} g.P.PageView
    (IsWhole g.P.PageView (IsIsam (g.P.PageView.ground p) place) p) p q c.block.result
    (c.in_ok-select.ensures.ends.cause.counted refl)
    (subst (λ (x : Ground). IsHome x c.block.result) reads.keeps.ground (_, c.block.ensures.home))
    (λ whole. (let all : c.select.new.out ≡ selected [] [] whole.0 =
    c.in_ok-select.ensures.ok whole.0 whole.1
    ∙ ap (λ (x : List LeafEntry). x ++ selected c.from_slice.result c.from_slice-2.result whole.0)
    c.new-entries.ensures
    ∙ ap (λ (x : List ℕ). selected x c.from_slice-2.result whole.0) c.from_slice.ensures
    ∙ ap (λ (x : List ℕ). selected [] x whole.0) c.from_slice-2.ensures in
    let ordered = subst AreOrdered (sym all)
    (selected_ordered (g.P.PageView.ground p) place (g.P.PageView.working p) whole.0 whole.1.file)
    in
    false≢true (sym c.if-not-are_ordered.true ∙ c.are_ordered.ensures.1 ordered)))

pub returns-clause-all : goal.returns-clause-all
returns-clause-all g c map holds =
    c.in_ok-select.ensures.ok map holds
    ∙ ap (λ (x : List LeafEntry). x ++ selected c.from_slice.result c.from_slice-2.result map)
    c.new-entries.ensures
    ∙ ap (λ (x : List ℕ). selected x c.from_slice-2.result map) c.from_slice.ensures
    ∙ ap (λ (x : List ℕ). selected [] x map) c.from_slice-2.ensures
