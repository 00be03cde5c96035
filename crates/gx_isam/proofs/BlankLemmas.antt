-- A file whose chains were freed, and to whose root an index without pages was written.
use Rattle.std.proofs.Common.{◌≡◌, ℕ, ◌<◌, List, [], length, set, refl, sym, ap, subst, ◌∙◌, arith}
use Rattle.gx_bytes.specs.declared.page.TheConstants.{NONE}
use Rattle.gx_ports.specs.declared.kinds.LeafKind.TheVariants.{Isam}
use Rattle.gx_ports.specs.declared.leaves.Entry.{Entry as LeafEntry}
use Rattle.gx_ports.specs.declared.page_view.PageView.{Ghosts}
use Rattle.gx_ports.specs.declared.pages.Place.{Place}
use Rattle.gx_ports.specs.Files.{Holds, IsPlace, OthersStay}
use Rattle.gx_ports.specs.LeafMaps.{LeafMap, selected}
use Rattle.gx_ports.specs.PageCalls.{ReadsPages}
use Rattle.gx_ports.specs.Sheets.{Sheets, Ground}
use Rattle.gx_isam_index.specs.Index.{IsIndexPage, bucket_count, first_page_of}
use Rattle.gx_isam.specs.Isam.{IsIsam}
use Rattle.gx_isam.specs.Rebuild.{IsBlankFor, IsEmptied}
use Rattle.gx_isam.proofs.ChangeLemmas.{isam_read}
use Rattle.gx_isam.proofs.MakeLemmas.{one_root}
use Rattle.gx_isam.proofs.RebuildLemmas.{blank_for, blank_others}

module _ {S : Type 0} (g : Ghosts S) (place : Place) (p q r w : S) (reads : ReadsPages g p q)
    (at : IsPlace (g.ground p) place)
    (kind : place.spec.kind ≡ Isam) (on_r : g.ground r ≡ g.ground q)
    (on_w : g.ground w ≡ g.ground r)
    (long : length (g.working r).bytes ≡ (g.ground r).size) (page : List ℕ)
    (entries : List LeafEntry) (map : LeafMap)
    (holds : Holds g (IsIsam (g.ground p) place) p map)
    (freed : Holds g (IsIsam (g.ground q) place) q map
    → IsEmptied (g.ground q) place (g.working q) (g.working r))
    (written : g.working w ≡ record {
      owners = (g.working r).owners;
      bytes = set (g.working r).bytes place.root page;
    })
    (index : IsIndexPage page) (none : (i : ℕ) → i < bucket_count page
    → first_page_of page i ≡ NONE) where
  emptied : IsEmptied (g.ground p) place (g.working p) (g.working r)
  emptied = subst (λ (x : Sheets). IsEmptied (g.ground p) place x (g.working r)) reads.working
      (subst (λ (x : Ground). IsEmptied x place (g.working q) (g.working r)) reads.keeps.ground
      (freed (record { told = holds.told; file = isam_read g place p q reads map holds.file })))

  within : place.root < length (g.working r).bytes
  within =
      let below = at.below in
      let roots = one_root place kind in
      let size = ap (λ (x : Ground). x.size) (on_r ∙ reads.keeps.ground) in
      omega (arith, below, roots, long, size)

  pub blank_there : entries ≡ selected [] [] map
      → IsBlankFor (g.ground w) place (g.working w) page entries map
  blank_there is = subst (λ (x : Ground). IsBlankFor x place (g.working w) page entries map)
      (sym (on_w ∙ on_r ∙ reads.keeps.ground))
      (blank_for (g.ground p) place (g.working p) (g.working r) (g.working w) map page entries
      emptied within written index none is)

  pub others_there : OthersStay (g.ground p) place.owner (g.working p) (g.working w)
  others_there = blank_others (g.ground p) place (g.working p) (g.working r) (g.working r)
      (g.working w) page emptied refl within written
      index none
