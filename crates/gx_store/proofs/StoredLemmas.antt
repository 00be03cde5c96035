-- From what leaves say of blocks to a database that is opened.
use Rattle.std.proofs.Common.{◌≡◌, ℕ, ◌+◌, List, [], length, get_or, sym, ◌∙◌, ap, subst}
use Rattle.gx_layout.specs.Layout.{head_blocks, table_pages, pages_of, head_of}
use Rattle.gx_layout.specs.Head.{HasMagic}
use Rattle.gx_layout.specs.Recovered.{replayed_pages}
use Rattle.gx_ports.specs.declared.kinds.LeafSpec.{LeafSpec}
use Rattle.gx_ports.specs.Sheets.{Sheets, Ground}
use Rattle.gx_ports.specs.Heads.{Head}
use Rattle.gx_ports.specs.LeafMaps.{LeafMap}
use Rattle.gx_ports.specs.Calm.{IsStored}
use Rattle.gx_pages.specs.Owners.{sheets_of}
use Rattle.gx_pages.specs.Paged as paged
use Rattle.gx_pages.proofs.StandLemmas.{sheets_stand}
use Rattle.gx_leaves.specs.Places.{places_of}
use Rattle.gx_leaves.specs.Wholeness.{AreLaid, StandsFor, IsLaid, maps_of}
use Rattle.gx_store.specs.Device.{IsSize, AreMaps, AreTexts, IsHeadOf, Reopens, ground_on}

grounds_same : (xs ys : List (List ℕ)) → length xs ≡ length ys → head_of xs ≡ head_of ys
    → ground_on xs ≡ ground_on ys
grounds_same xs ys count heads = λ i. record {
  size = pages_of (count i);
  tables = table_pages (count i);
  blocks = count i;
  first = head_blocks (count i) + pages_of (count i);
  head = heads i;
}

-- the blocks are a device of the same number of pages and blocks, and of the same database
module _ (head : Head) (start blocks : List (List ℕ)) (is : head.base ≡ ground_on start)
    (sheets : Sheets) (stands : paged.StandsFor head.base sheets blocks) where
  count_stays : length blocks ≡ length start
  count_stays = stands.shows.count ∙ ap (λ (b : Ground). b.blocks) is

  head_stays : head_of blocks ≡ head_of start
  head_stays = stands.shows.head_is ∙ ap (λ (b : Ground). b.head) is

  ground_stays : head.base ≡ ground_on blocks
  ground_stays = is ∙ grounds_same start blocks (sym count_stays) (sym head_stays)

module _ (schema equation : List ℕ) (specs : List LeafSpec) (head : Head)
    (start blocks : List (List ℕ)) (maps : List LeafMap) (whole : Type 0)
    (is : head.base ≡ ground_on start) (w : whole)
    (s : IsStored (StandsFor paged.StandsFor) (IsLaid paged.StandsFor) head maps whole blocks) where
  -- what stands for whole maps holds them, on the pages that recovery finds
  stored_maps : AreMaps (ground_on blocks) head.leaves maps (sheets_of (replayed_pages blocks))
  stored_maps =
      let l = s.laid_is w in
      let base = ground_stays head start blocks is l.sheets l.is in
      let found : Sheets = sheets_of (replayed_pages blocks) in
      record {
        laid = subst (λ (b : Ground). AreLaid b (places_of b head.leaves) found) base
            (subst (λ (x : Sheets). AreLaid head.base (places_of head.base head.leaves) x)
            (sheets_stand head.base l.sheets blocks l.is) l.laid);
        maps_are = subst (λ (b : Ground). maps_of b (places_of b head.leaves) found ≡ maps) base
            (ap (λ (x : Sheets). maps_of head.base (places_of head.base head.leaves) x)
            (sym (sheets_stand head.base s.is.sheets blocks s.is.is)) ∙ s.is.maps_are);
      }

  -- Blocks that stand for whole maps, under a head that was read from a device of such a size, are
  -- opened with these maps.
  pub stored_reopens : IsHeadOf schema equation specs head → IsSize specs (length start)
      → Reopens schema equation specs maps blocks
  stored_reopens of size =
      let l = s.laid_is w in
      let count = count_stays head start blocks is l.sheets l.is in
      let base = ground_stays head start blocks is l.sheets l.is in
      record {
        size = subst (λ (n : ℕ). IsSize specs n) (sym count) size;
        magic = subst (λ (b : Ground). HasMagic b.blocks (get_or b.head 0 [])) base of.magic;
        texts = subst (λ (b : Ground). AreTexts schema equation b.head) base of.texts;
        leaves = subst (λ (ss : List LeafSpec). AreMaps (ground_on blocks) ss maps
            (sheets_of (replayed_pages blocks))) of.leaves stored_maps;
      }
