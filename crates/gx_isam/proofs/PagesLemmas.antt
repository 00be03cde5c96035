-- The pages of all chains of an indexed sequential file, as one list.
use Rattle.std.proofs.Common.{◌≡◌, ◌↔◌, inl, inr, ℕ, ◌+◌, ◌≤◌, List, ◌∷◌, length, Some, sym, subst, arith}
use Rattle.std.specs.Prelude.{slice_get}
use Rattle.std.specs.List.{Contains}
use Rattle.std.specs.FinMap as fin
use Rattle.gx_ports.specs.declared.pages.Place.{Place}
use Rattle.gx_ports.specs.Files.{page_count}
use Rattle.gx_ports.specs.LeafMaps.{LeafMap}
use Rattle.gx_ports.specs.Sheets.{Sheets, Ground, bytes_at}
use Rattle.gx_chain.specs.Chain.{entries_at, IsOn}
use Rattle.gx_chain.specs.Collect.{ArePagesApart}
use Rattle.gx_chain.proofs.ChainsLemmas.{below_to, below_from, map_below}
use Rattle.gx_chain.proofs.CountLemmas.{count_listed, keys_few, first_of as entry_of}
use Rattle.gx_chain.proofs.ListLemmas.{contains_here, contains_later}
use Rattle.gx_chain.proofs.SpanLemmas.{AreBucketChains, across, below_apart as chains_apart}
use Rattle.gx_isam_index.specs.Index.{bucket_count, bucket_of, first_page_of}
use Rattle.gx_isam.specs.Isam.{AreBuckets, IsIsam}
use Rattle.gx_chain.specs.Chains.{pages_below}
use Rattle.gx_isam.proofs.BucketLemmas.{once}

pub bucket_chains : (ground : Ground) (owner : ℕ) (s : Sheets) (index : List ℕ) (pages : ℕ → List ℕ)
    → AreBuckets ground owner s index pages
    → AreBucketChains ground owner s (first_page_of index) (bucket_of index)
    (bucket_count index) pages
bucket_chains ground owner s index pages b =
    record { chains = b.chains; placed = b.placed; once = once ground owner s index pages b }

module _ (ground : Ground) (owner root : ℕ) (s : Sheets) (pages : ℕ
    → List ℕ) (b : AreBuckets ground owner s (bytes_at s root) pages) where
  abbrev count : ℕ
  count = bucket_count (bytes_at s root)

  pub below_apart : ArePagesApart s (pages_below pages count)
  below_apart = chains_apart ground owner s (first_page_of (bytes_at s root))
      (bucket_of (bytes_at s root)) count pages
      (bucket_chains ground owner s (bytes_at s root) pages b)

  -- they are at most as many as there are entries
  pub below_few : (map : LeafMap)
      → ((k c : List ℕ) → IsOn s (pages_below pages count) k c → fin.get map k ≡ Some c)
      → length (pages_below pages count) ≤ fin.len map
  below_few map map_is = keys_few s (pages_below pages count) map (below_apart.once)
      (λ q c. (let r = below_to pages count q c in
      let e = entry_of (entries_at s q) (b.filled r.bucket q r.below r.among) in
      (e.0, e.1, e.2, map_is e.0 e.1 (record { page = q; among = c; here = e.2 }))))
      (across ground owner s (first_page_of (bytes_at s root)) (bucket_of (bytes_at s root)) count
      pages
      (bucket_chains ground owner s (bytes_at s root) pages b))

-- ---- the file

module _ (ground : Ground) (place : Place) (s : Sheets) (map : LeafMap)
    (h : IsIsam ground place s map) where
  abbrev all : List ℕ
  all = pages_below h.pages (bucket_count (bytes_at s place.root))

  pub isam_map_is : (k b : List ℕ) → (fin.get map k ≡ Some b) ↔ IsOn s all k b
  isam_map_is = map_below s h.pages (bucket_count (bytes_at s place.root)) map h.map_is

  all_owned : (q : ℕ) → slice_get s.owners q ≡ Some place.owner → Contains (place.root ∷ all) q
  all_owned q o = elim (h.owned q o) [
    | inl e ↦ subst (Contains (place.root ∷ all)) (sym e) (contains_here place.root all)
    | inr r ↦ contains_later place.root q all
        (below_from h.pages (bucket_count (bytes_at s place.root)) r.bucket q r.below r.among)
  ]

  pub isam_few : page_count place.owner s ≤ 1 + fin.len map
  isam_few =
      let listed = count_listed place.owner s.owners 0 (place.root ∷ all)
      (λ q o. subst (Contains (place.root ∷ all)) (omega arith) (all_owned q o)) in
      let most = below_few ground place.owner place.root s h.pages h.buckets map
      (λ k b. (isam_map_is k b).1) in
      omega (arith, listed, most)
