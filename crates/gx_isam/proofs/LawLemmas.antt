-- What every kind of file promises, of indexed sequential files.
use Rattle.std.proofs.Common.{◌≡◌, ◌≢◌, ◌⊎◌, ◌↔◌, inl, inr, ℕ, ◌<◌, ◌≤◌, List, set, Some, sym, ap, subst, ◌∙◌, arith}
use Rattle.std.specs.Prelude.{slice_get}
use Rattle.std.specs.List.{Contains}
use Rattle.std.specs.FinMap as fin
use Rattle.std.proofs.lemmas.Bool.{cases_eq}
use Rattle.std.proofs.lemmas.Option.{same_Some}
use Rattle.gx_ports.specs.declared.kinds.LeafKind.TheVariants as kinds
use Rattle.gx_ports.specs.declared.pages.Place.{Place}
use Rattle.gx_ports.specs.Files.{IsPlace, AreFileLaws, SameFor}
use Rattle.gx_ports.specs.LeafMaps.{LeafMap}
use Rattle.gx_ports.specs.Sheets.{Sheets, Ground, bytes_at}
use Rattle.gx_ports.proofs.PageLemmas.{bytes_same}
use Rattle.gx_chain.specs.Chain.{IsChain, IsOn}
use Rattle.gx_chain.specs.Collect.{ArePagesApart}
use Rattle.gx_chain.proofs.ChainLemmas.{same_on, same_on_back, same_chain}
use Rattle.gx_chain.proofs.MapLemmas.{owned_map_is, one_map}
use Rattle.gx_chain.proofs.WriteLemmas.{slice_get_set, slice_get_set_same}
use Rattle.gx_slots.specs.Page.{entries_of}
use Rattle.gx_isam_index.specs.Index.{IsIndexPage, bucket_count, bucket_of, first_page_of}
use Rattle.gx_chain.specs.Chains.{pages_below}
use Rattle.gx_chain.specs.Chains.{IsOfChain, IsOnChain}
use Rattle.gx_isam.specs.Isam.{AreBuckets, IsIsam}
use Rattle.gx_isam.specs.Map.{isam_map}
use Rattle.gx_isam.proofs.BucketLemmas.{as_isam, bucket_below, isam_at, root_off}
use Rattle.gx_isam.proofs.MakeLemmas.{one_root}
use Rattle.gx_chain.proofs.ChainsLemmas.{below_to, below_from, on_below}
use Rattle.gx_isam.proofs.PagesLemmas.{below_apart, isam_few, isam_map_is}

module _ (ground : Ground) (place : Place) (s : Sheets) (pages : ℕ
    → List ℕ) (some : 1 ≤ place.owner)
    (index : IsIndexPage (bytes_at s place.root))
    (root_owned : slice_get s.owners place.root ≡ Some place.owner)
    (b : AreBuckets ground place.owner s (bytes_at s place.root) pages)
    (owned : (page : ℕ) → slice_get s.owners page ≡ Some place.owner
    → (page ≡ place.root) ⊎ IsOfChain pages (bucket_count (bytes_at s place.root)) page) where
  abbrev count : ℕ
  count = bucket_count (bytes_at s place.root)

  abbrev all : List ℕ
  all = pages_below pages count

  -- the same sheets, where the root is nobody's
  abbrev rootless : Sheets
  rootless = record { owners = set s.owners place.root 0; bytes = s.bytes }

  apart : ArePagesApart rootless all
  apart = let a = below_apart ground place.owner place.root s pages b in
      record { once = a.once; each = a.each; apart = a.apart }

  off_root : (q : ℕ) → Contains all q → q ≢ place.root
  off_root q c e = let r = below_to pages count q c in
      root_off ground place.owner place.root s pages b index r.bucket r.below
      (subst (Contains (pages r.bucket)) e r.among)

  are_owned : (q : ℕ) → Contains all q → slice_get rootless.owners q ≡ Some place.owner
  are_owned q c = let r = below_to pages count q c in
      slice_get_set s.owners place.root q 0 (off_root q c)
      ∙ (b.chains r.bucket r.below).fit.owned q r.among

  all_owned : (q : ℕ) → slice_get rootless.owners q ≡ Some place.owner → Contains all q
  all_owned q o = elim (cases_eq q place.root) [
    | inl e ↦ (let zero : place.owner ≡ 0 = same_Some place.owner 0
        (sym o ∙ ap (slice_get rootless.owners) e
        ∙ slice_get_set_same s.owners place.root 0 place.owner root_owned) in
        absurd (omega (arith, zero, some)))
    | inr d ↦ elim (owned q (sym (slice_get_set s.owners place.root q 0 d) ∙ o)) [
      | inl e ↦ absurd (d e)
      | inr r ↦ below_from pages count r.bucket q r.below r.among
    ]
  ]

  pub isam_one : (map : LeafMap) → ((k c : List ℕ) → (fin.get map k ≡ Some c) ↔ IsOn s all k c)
      → isam_map place s ≡ map
  isam_one map map_is = one_map place.owner rootless all some apart are_owned all_owned map
      (λ k c. (
        λ is. (let on = (map_is k c).0 is in
            record { page = on.page; among = on.among; here = on.here }),
        λ on. (map_is k c).1 (record { page = on.page; among = on.among; here = on.here }),
      ))

  -- that map has what stands on the chains
  pub isam_map_on : (k c : List ℕ) → (fin.get (isam_map place s) k ≡ Some c)
      ↔ IsOnChain s pages count k c
  isam_map_on k c =
      let is_on = owned_map_is place.owner rootless all some apart are_owned all_owned k c in
      let below = on_below s pages count k c in (
        λ is. (let on = is_on.0 is in
            below.0 (record { page = on.page; among = on.among; here = on.here })),
        λ chain. (let on = below.1 chain in
            is_on.1 (record { page = on.page; among = on.among; here = on.here })),
      )

  -- and they hold it
  pub isam_of : IsIsam ground place s (isam_map place s)
  isam_of = record {
    index = index;
    root = root_owned;
    pages = pages;
    buckets = b;
    owned = owned;
    map_is = isam_map_on;
  }

-- its pages decide
pub isam_same : (ground : Ground) (place : Place) (s t : Sheets) (map : LeafMap)
    → ground.tables ≤ place.root
    → SameFor ground place.owner s t → IsIsam ground place s map → IsIsam ground place t map
isam_same ground place s t map past same h =
    let root = bytes_same s t place.root (same.bytes place.root past h.root) in
    let count = ap bucket_count root in
    let old = λ (i : ℕ) (less : i < bucket_count (bytes_at t place.root)). subst (λ n. i < n) count
    less in
    let bytes =
    λ (i q : ℕ) (in_i : i < bucket_count (bytes_at s place.root)) (c : Contains (h.pages i) q).
    bytes_same s t q
    (same.bytes q ((h.buckets.chains i in_i).fit.past q c).past
    ((h.buckets.chains i in_i).fit.owned q c)) in
    let back = λ (i : ℕ) (k c : List ℕ) (in_i : i < bucket_count (bytes_at s place.root)).
    same_on_back ground place.owner 0 s t
    (h.pages i) (λ q at. bytes i q in_i at) k c in
    as_isam ground place t map h.pages (subst IsIndexPage (sym root) h.index)
    ((same.owned place.root).0 h.root)
    (record {
      chains = λ i less. subst (λ (b : List ℕ). IsChain ground place.owner t (first_page_of b i)
          (h.pages i)) (sym root)
          (same_chain ground place.owner (first_page_of (bytes_at s place.root) i) s t (h.pages i)
          (λ q c. bytes i q (old i less) c)
          (λ q c. (same.owned q).0 ((h.buckets.chains i (old i less)).fit.owned q c))
          (h.buckets.chains i (old i less)));
      filled = λ i q less c none. h.buckets.filled i q (old i less) c
          (ap entries_of (sym (bytes i q (old i less) c)) ∙ none);
      placed = λ i k c less on. ap (λ (b : List ℕ). bucket_of b k) root
          ∙ h.buckets.placed i k c (old i less) (back i k c (old i less) on);
    })
    (λ q o. elim (h.owned q ((same.owned q).1 o)) [
      | inl e ↦ inl e
      | inr r ↦ inr (record {
        bucket = r.bucket;
        below = subst (λ n. r.bucket < n) (sym count) r.below;
        among = r.among;
      })
    ])
    (λ k c.
    let at = ap (λ (b : List ℕ). bucket_of b k) root in
    let in_i = bucket_below (bytes_at s place.root) k h.index.some in (
      λ is. subst (λ i. IsOn t (h.pages i) k c) (sym at)
          (same_on ground place.owner 0 s t (h.pages (bucket_of (bytes_at s place.root) k))
          (λ q c. bytes (bucket_of (bytes_at s place.root) k) q in_i c) k c
          ((isam_at ground place s map h k c).0 is)),
      λ on. (isam_at ground place s map h k c).1
          (back (bucket_of (bytes_at s place.root) k) k c in_i
          (subst (λ i. IsOn t (h.pages i) k c) at on)),
    ))

pub isam_laws : (ground : Ground) (place : Place) → place.spec.kind ≡ kinds.Isam
    → IsPlace ground place
    → AreFileLaws ground place (IsIsam ground place) (isam_map place)
isam_laws ground place kind at = record {
  one = λ s m h. isam_one ground place s h.pages at.least h.index h.root h.buckets h.owned m
      (isam_map_is ground place s m h);
  same = λ old new m same h. isam_same ground place old new m at.past same h;
  few = λ s m h. (let few = isam_few ground place s m h in let roots = one_root place kind in
      omega (arith, few, roots));
}
