-- What every kind of file proves, of heaps.
use Rattle.std.proofs.Common.{◌≡◌, ℕ, ◌≤◌, List, Some, ap, arith}
use Rattle.std.specs.Prelude.{slice_get}
use Rattle.std.specs.List.{Contains}
use Rattle.gx_ports.specs.declared.kinds.LeafKind.TheVariants as kinds
use Rattle.gx_ports.specs.declared.pages.Place.{Place}
use Rattle.gx_ports.specs.Files.{IsPlace, AreFileLaws}
use Rattle.gx_ports.specs.Roots.{roots_of, roots_of_kind}
use Rattle.gx_ports.specs.Sheets.{Sheets, Ground}
use Rattle.gx_chain.specs.Chain.{IsChain}
use Rattle.gx_chain.proofs.CollectLemmas.{chain_apart}
use Rattle.gx_chain.proofs.MapLemmas.{owned_map_is, one_map}
use Rattle.gx_heap.specs.Heap.{IsHeap}
use Rattle.gx_heap.specs.Map.{heap_map}
use Rattle.gx_heap.proofs.HeapLemmas.{heap_few, heap_same}

-- the map that is read is the one of a chain with all pages of its owner
pub heap_read : (ground : Ground) (place : Place) (s : Sheets) (pages : List ℕ) → 1 ≤ place.owner
    → IsChain ground place.owner s place.root pages
    → ((page : ℕ) → slice_get s.owners page ≡ Some place.owner → Contains pages page)
    → IsHeap ground place s (heap_map ground place s)
heap_read ground place s pages some chain all_owned = record {
  pages = pages;
  chain = chain;
  owned = all_owned;
  map_is = owned_map_is place.owner s pages some
      (chain_apart ground place.owner place.root s pages chain) chain.fit.owned all_owned;
}

pub heap_laws : (ground : Ground) (place : Place) → place.spec.kind ≡ kinds.Heap
    → IsPlace ground place
    → AreFileLaws ground place (IsHeap ground place) (heap_map ground place)
heap_laws ground place kind at = record {
  one = λ s m is. one_map place.owner s is.pages at.least
      (chain_apart ground place.owner place.root s is.pages is.chain) is.chain.fit.owned
      is.owned m is.map_is;
  same = λ old new m same is. heap_same ground place old new m same is;
  few = λ s m is.
      let roots : roots_of place.spec ≡ 1 = ap roots_of_kind kind in
      let few = heap_few ground place s m is in
      omega (arith, roots, few);
}
