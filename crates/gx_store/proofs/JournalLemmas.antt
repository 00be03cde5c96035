-- What a journal of which no commit failed leaves on its device.
use Rattle.std.proofs.Common.{◌≡◌, ◌∙◌, ℕ, ◌+◌, ◌≤◌, Bool, List, [], length, get_or, drop, IsTrue, refl, sym, ap, subst, arith}
use Rattle.gx_device.specs.declared.device.Device as device
use Rattle.gx_device.specs.Content.{block_of}
use Rattle.gx_ports.specs.declared.kinds.LeafSpec.{LeafSpec}
use Rattle.gx_ports.specs.declared.pages.Place.{Place}
use Rattle.gx_ports.specs.LeafMaps.{LeafMap}
use Rattle.gx_ports.specs.Roots.{root_pages}
use Rattle.gx_ports.specs.Sheets.{Sheets, Ground}
use Rattle.gx_layout.specs.Layout.{bitmap_blocks, table_pages, pages_of, head_of}
use Rattle.gx_layout.specs.Head.{HasMagic}
use Rattle.gx_journal.specs.State.{head_told}
use Rattle.gx_journal.specs.declared.journal.Journal.{Journal}
use Rattle.gx_journal.specs.Journal.{IsSteady, content_of, size_of, kept_of, kept_head}
use Rattle.gx_pages.specs.Owners.{sheets_of}
use Rattle.gx_pages.specs.Paged.{ground_of, kept_sheets}
use Rattle.gx_leaves.specs.Places.{specs_of, places_of}
use Rattle.gx_leaves.specs.Wholeness.{AreLaid, maps_of}
use Rattle.gx_store.specs.Device.{AreMaps, AreTexts, IsSettled}
use Rattle.gx_store.specs.Making.{Publishes}
use Rattle.gx_store.proofs.GroundLemmas.{maps_moved}
use Rattle.gx_store.proofs.SettledLemmas.{texts_read, closed_settled}

module _ {M : Type 0} {g : device.Ghosts M} where
  pub journal_settled : (j : Journal M g) → IsTrue g.tells
      → g.size j.device ≡ length (content_of j).now.blocks → IsSteady j
      → (schema equation : List ℕ) (specs : List LeafSpec) (maps : List LeafMap)
      → HasMagic (g.size j.device) (get_or (kept_head j) 0 [])
      → AreTexts schema equation (kept_head j)
      → table_pages (g.size j.device) + root_pages specs ≤ size_of j → AreMaps (ground_of j) specs maps (kept_sheets j)
      → IsSettled schema equation specs maps (content_of j).now.blocks
  journal_settled j told sized steady schema equation specs maps magic texts room are =
      closed_settled schema equation specs maps g.tells (size_of j) (content_of j) told
      (j.count ∙ ap pages_of sized) (j.closed told steady)
      (omega (arith, j.limit, sized))
      (subst (λ (n : ℕ). table_pages n + root_pages specs ≤ size_of j) sized room)
      (subst (λ (n : ℕ). HasMagic n (get_or (kept_head j) 0 [])) sized magic) texts (ground_of j)
      refl (ap table_pages sized) are

  -- the same after the magic was written over another one
  pub sealed_settled : (old new : Journal M g) → IsTrue g.tells
      → g.size new.device ≡ length (content_of new).now.blocks → IsSteady new
      → size_of new ≡ size_of old → g.size new.device ≡ g.size old.device
      → kept_of new ≡ kept_of old
      → drop 1 (kept_head new) ≡ drop 1 (kept_head old)
      → HasMagic (g.size new.device) (block_of (content_of new).now 0)
      → Publishes old (content_of new).now.blocks
  sealed_settled old new told sized steady size many kept texts magic =
      λ schema equation specs maps same room are.
      let c = content_of new in
      let head : kept_head new ≡ head_of c.now.blocks = ap (λ (b : Bool). head_told b c) told in
      let fits = room.room in
      journal_settled new told sized steady schema equation specs maps
      (subst (λ (h : List (List ℕ)). HasMagic (g.size new.device) (get_or h 0 [])) (sym head) magic)
      (subst (λ (h : List (List ℕ)). AreTexts schema equation h) (sym head)
      (texts_read c schema equation (ap (λ (h : List (List ℕ)). drop 1 h) (sym head) ∙ texts
      ∙ same)))
      (omega (arith, fits, size, ap bitmap_blocks many))
      (subst (λ (ps : List (List ℕ)). AreMaps (ground_of new) specs maps (sheets_of ps)) (sym kept)
      (maps_moved (ground_of old) (ground_of new) (sym size) (sym (ap table_pages many)) specs maps
      (sheets_of (kept_of old)) are))

-- leaves that are whole at their places
pub maps_placed : (base : Ground) (places : List Place) (sheets : Sheets)
    → places ≡ places_of base (specs_of places)
    → AreLaid base places sheets
    → AreMaps base (specs_of places) (maps_of base places sheets) sheets
maps_placed base places sheets same laid = record {
  laid = subst (λ (ps : List Place). AreLaid base ps sheets) same laid;
  maps_are = ap (λ (ps : List Place). maps_of base ps sheets) (sym same);
}
