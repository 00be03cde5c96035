-- What leaves are on pages depends on the numbers of pages alone: on no head, and on no count of
-- blocks.
use Rattle.std.proofs.Common.{◌≡◌, ℕ, ◌<◌, ◌≤◌, List, [], ◌∷◌, refl, sym, ap, subst, ◌∙◌}
use Rattle.gx_ports.specs.declared.kinds.LeafKind.{LeafKind}
use Rattle.gx_ports.specs.declared.kinds.LeafKind.TheVariants as kinds
use Rattle.gx_ports.specs.declared.kinds.LeafSpec.{LeafSpec}
use Rattle.gx_ports.specs.declared.pages.Place.{Place}
use Rattle.gx_ports.specs.LeafMaps.{LeafMap}
use Rattle.gx_ports.specs.Sheets.{Sheets, Ground, IsPast}
use Rattle.gx_btree.specs.Bplus.{IsBplus}
use Rattle.gx_chain.specs.Chain.{IsChain}
use Rattle.gx_hash.specs.Hash.{IsHash}
use Rattle.gx_heap.specs.Heap.{IsHeap}
use Rattle.gx_isam.specs.Isam.{IsIsam}
use Rattle.gx_leaves.specs.Kinds.{IsFileOf, map_of}
use Rattle.gx_leaves.specs.Places.{places_from, places_of}
use Rattle.gx_leaves.specs.Wholeness.{AreLaid, maps_of}
use Rattle.gx_store.specs.Device.{AreMaps}

module _ (a b : Ground) (size : a.size ≡ b.size) (tables : a.tables ≡ b.tables) where
  past_there : (page : ℕ) → IsPast a page → IsPast b page
  past_there page p = record {
    past = subst (λ (n : ℕ). n ≤ page) tables p.past;
    below = subst (λ (n : ℕ). page < n) size p.below;
  }

  past_back : (page : ℕ) → IsPast b page → IsPast a page
  past_back page p = record {
    past = subst (λ (n : ℕ). n ≤ page) (sym tables) p.past;
    below = subst (λ (n : ℕ). page < n) (sym size) p.below;
  }

  chain_there : (owner : ℕ) (sheets : Sheets) (first : ℕ) (pages : List ℕ)
      → IsChain a owner sheets first pages
      → IsChain b owner sheets first pages
  chain_there owner sheets first pages chain = record {
    linked = chain.linked;
    fit = record {
      once = chain.fit.once;
      past = λ page among. past_there page (chain.fit.past page among);
      owned = chain.fit.owned;
      filled = chain.fit.filled;
      apart = chain.fit.apart;
    };
  }

  heap_there : (place : Place) (sheets : Sheets) (m : LeafMap) → IsHeap a place sheets m
      → IsHeap b place sheets m
  heap_there place sheets m h = record {
    pages = h.pages;
    chain = chain_there place.owner sheets place.root h.pages h.chain;
    owned = h.owned;
    map_is = h.map_is;
  }

  bplus_there : (place : Place) (sheets : Sheets) (m : LeafMap) → IsBplus a place sheets m
      → IsBplus b place sheets m
  bplus_there place sheets m h = record {
    tree = h.tree;
    whole = h.whole;
    past = λ page among. past_there page (h.past page among);
    owned = h.owned;
    map_is = h.map_is;
  }

  hash_there : (place : Place) (sheets : Sheets) (m : LeafMap) → IsHash a place sheets m
      → IsHash b place sheets m
  hash_there place sheets m h = record {
    pages = h.pages;
    chains = λ bucket below. chain_there place.owner sheets _ (h.pages bucket)
        (h.chains bucket below);
    once = h.once;
    owned = h.owned;
    placed = h.placed;
    map_is = h.map_is;
  }

  isam_there : (place : Place) (sheets : Sheets) (m : LeafMap) → IsIsam a place sheets m
      → IsIsam b place sheets m
  isam_there place sheets m h = record {
    index = h.index;
    root = h.root;
    pages = h.pages;
    buckets = record {
      chains = λ bucket below. chain_there place.owner sheets _ (h.pages bucket)
          (h.buckets.chains bucket below);
      filled = h.buckets.filled;
      placed = h.buckets.placed;
    };
    owned = h.owned;
    map_is = h.map_is;
  }

  file_there : (kind : LeafKind) (place : Place) (sheets : Sheets) (m : LeafMap)
      → IsFileOf kind a place sheets m
      → IsFileOf kind b place sheets m
  file_there kinds.Heap place sheets m h = heap_there place sheets m h
  file_there (kinds.Hash buckets) place sheets m h = hash_there place sheets m h
  file_there kinds.Isam place sheets m h = isam_there place sheets m h
  file_there kinds.Bplus place sheets m h = bplus_there place sheets m h

  map_there : (kind : LeafKind) (place : Place) (sheets : Sheets)
      → map_of kind a place sheets ≡ map_of kind b place sheets
  map_there kinds.Heap place sheets = refl
  map_there (kinds.Hash buckets) place sheets = refl
  map_there kinds.Isam place sheets = refl
  map_there kinds.Bplus place sheets = refl

  maps_there : (places : List Place) (sheets : Sheets)
      → maps_of a places sheets ≡ maps_of b places sheets
  maps_there [] sheets = refl
  maps_there (place ∷ places) sheets =
      let here = map_there place.spec.kind place sheets in
      let rest = maps_there places sheets in
      λ i. here i ∷ rest i

  laid_there : (places : List Place) (sheets : Sheets) → AreLaid a places sheets
      → AreLaid b places sheets
  laid_there places sheets l = record {
    table = record {
      own = λ page below. l.table.own page (subst (λ (n : ℕ). page < n) (sym tables) below);
      owned = λ page owner past. l.table.owned page owner (past_back page past);
    };
    each = λ leaf place at. (let h = l.each leaf place at in
        (h.0, file_there place.spec.kind place sheets h.0 h.1));
  }

  pub maps_moved : (specs : List LeafSpec) (maps : List LeafMap) (sheets : Sheets)
      → AreMaps a specs maps sheets
      → AreMaps b specs maps sheets
  maps_moved specs maps sheets is =
      let same : places_of a specs ≡ places_of b specs =
      ap (λ (n : ℕ). places_from n 1 specs) tables in
      record {
        laid = subst (λ (ps : List Place). AreLaid b ps sheets) same
            (laid_there (places_of a specs) sheets is.laid);
        maps_are = ap (λ (ps : List Place). maps_of b ps sheets) (sym same)
            ∙ sym (maps_there (places_of a specs) sheets)
            ∙ is.maps_are;
      }
