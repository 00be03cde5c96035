-- What a change of the chain of one bucket makes of an indexed sequential file.
use Rattle.std.proofs.Common.{◌≡◌, ◌≢◌, ◌⊎◌, ◌↔◌, inl, inr, ℕ, zero, suc, ◌-◌, ◌<◌, ◌≤◌, List, [], ◌∷◌, length, get_or, Some, refl, sym, ap, subst, ◌∙◌, arith}
use Rattle.std.specs.Prelude.{slice_get}
use Rattle.std.specs.List.{Contains}
use Rattle.std.specs.Ordering.{is_le}
use Rattle.std.specs.FinMap as fin
use Rattle.std.proofs.lemmas.Bool.{cases_eq}
use Rattle.std.proofs.lemmas.List.Sums.{count_by-le-length}
use Rattle.gx_ports.specs.declared.pages.Place.{Place}
use Rattle.gx_ports.specs.Files.{OthersStay}
use Rattle.gx_ports.specs.LeafMaps.{LeafMap}
use Rattle.gx_ports.specs.Sheets.{Sheets, Ground, bytes_at}
use Rattle.gx_ports.specs.Keyed.{key_cmp}
use Rattle.gx_slots.specs.Page.{IsEntryPage, entries_of}
use Rattle.gx_chain.specs.Chain.{entries_at, IsChain, IsOn}
use Rattle.gx_chain.specs.Changes.{StaysBeside}
use Rattle.gx_chain.proofs.BucketsLemmas.{IsOneChanged, filled_once, at_bucket, on_chains, bytes_stay, chains_changed, placed_changed, on_changed}
use Rattle.gx_chain.proofs.ChainLemmas.{linked_page}
use Rattle.gx_chain.proofs.ChainsLemmas.{changed, changed_here, changed_other}
use Rattle.gx_chain.proofs.ListLemmas.{contains_here, contains_later, contains_cases}
use Rattle.gx_chain.proofs.OwnerLemmas.{others_beside, owned_after}
use Rattle.gx_isam_index.specs.Index.{IsIndexPage, bucket_among, bucket_count, bucket_of, first_page_of, separators_in, separators_of, behind_firsts}
use Rattle.gx_chain.specs.Chains.{IsOfChain}
use Rattle.gx_isam.specs.Isam.{AreBuckets, IsIsam}

-- ---- the bucket of a key

length_in : (n : ℕ) (bytes : List ℕ) → length (separators_in n bytes) ≡ n
length_in zero bytes = refl
length_in (suc n) bytes = ap suc (length_in n _)

pub bucket_below : (index key : List ℕ) → 1 ≤ bucket_count index
    → bucket_of index key < bucket_count index
bucket_below index key some =
    let most = count_by-le-length (λ (s : List ℕ). is_le (key_cmp s key)) (separators_of index) in
    let size = length_in (bucket_count index - 1) (behind_firsts index) in
    omega (arith, some, most, size)

-- ---- the root is on no chain

pub not_entries : (bytes : List ℕ) → IsIndexPage bytes → IsEntryPage bytes → ⊥
not_entries bytes index page =
    let kind : get_or bytes 0 0 ≡ 0x44 = ap (λ (b : List ℕ). get_or b 0 0) page.is.page.is in
    let other : get_or bytes 0 0 ≡ 0x58 = index.kind in
    omega (arith, kind, other)

-- a page is on one chain
pub once : (ground : Ground) (owner : ℕ) (s : Sheets) (index : List ℕ) (pages : ℕ → List ℕ)
    → AreBuckets ground owner s index pages
    → (i j q : ℕ) → i < bucket_count index → j < bucket_count index → Contains (pages i) q
    → Contains (pages j) q → i ≡ j
once ground owner s index pages b i j q in_i in_j at_i at_j =
    filled_once s pages (bucket_count index) (bucket_of index) b.placed i j q
    in_i in_j at_i at_j (b.filled i q in_i at_i)

module _ (ground : Ground) (owner root : ℕ) (s : Sheets) (pages : ℕ
    → List ℕ) (b : AreBuckets ground owner s (bytes_at s root) pages) where
  pub root_off : IsIndexPage (bytes_at s root) → (i : ℕ) → i < bucket_count (bytes_at s root)
      → Contains (pages i) root → ⊥
  root_off index i in_i c = not_entries (bytes_at s root) index
      (linked_page s (first_page_of (bytes_at s root) i) (pages i) root (b.chains i in_i).linked c)

-- ---- a key is looked up on the chain of its bucket

pub as_isam : (ground : Ground) (place : Place) (s : Sheets) (map : LeafMap) (pages : ℕ → List ℕ)
    → IsIndexPage (bytes_at s place.root)
    → slice_get s.owners place.root ≡ Some place.owner
    → AreBuckets ground place.owner s (bytes_at s place.root) pages
    → ((page : ℕ) → slice_get s.owners page ≡ Some place.owner
    → (page ≡ place.root) ⊎ IsOfChain pages (bucket_count (bytes_at s place.root)) page)
    → ((k b : List ℕ) → (fin.get map k ≡ Some b)
    ↔ IsOn s (pages (bucket_of (bytes_at s place.root) k)) k b)
    → IsIsam ground place s map
as_isam ground place s map pages index root buckets owned found = record {
  index = index;
  root = root;
  pages = pages;
  buckets = buckets;
  owned = owned;
  map_is = on_chains s pages (bucket_count (bytes_at s place.root))
      (bucket_of (bytes_at s place.root)) buckets.placed
      (λ k. bucket_below (bytes_at s place.root) k index.some) map found;
}

pub isam_at : (ground : Ground) (place : Place) (s : Sheets) (map : LeafMap)
    (h : IsIsam ground place s map) → (k b : List ℕ)
    → (fin.get map k ≡ Some b) ↔ IsOn s (h.pages (bucket_of (bytes_at s place.root) k)) k b
isam_at ground place s map h =
    at_bucket s h.pages (bucket_count (bytes_at s place.root)) (bucket_of (bytes_at s place.root))
    h.buckets.placed
    (λ k. bucket_below (bytes_at s place.root) k h.index.some) map h.map_is

-- ---- one chain has changed

-- the chain of a bucket has other pages, each with an entry, and its first page stands in the index
pub record IsBucketChanged (ground : Ground) (place : Place) (j : ℕ) (old new : Sheets)
    (before now : List ℕ) : Type 0 where
  pub index : IsIndexPage (bytes_at new place.root)
  pub count : bucket_count (bytes_at new place.root) ≡ bucket_count (bytes_at old place.root)
  pub separators : separators_of (bytes_at new place.root) ≡ separators_of (bytes_at old place.root)
  pub firsts : (other : ℕ) → other < bucket_count (bytes_at old place.root) → other ≢ j
      → first_page_of (bytes_at new place.root) other ≡ first_page_of (bytes_at old place.root)
      other
  pub root : slice_get new.owners place.root ≡ Some place.owner
  pub chain : IsChain ground place.owner new (first_page_of (bytes_at new place.root) j) now
  pub filled : (page : ℕ) → Contains now page → entries_at new page ≢ []
  pub beside : StaysBeside ground old new (place.root ∷ before) (place.root ∷ now)

module _ (ground : Ground) (place : Place) (s t : Sheets) (map : LeafMap) (some : 1 ≤ place.owner)
    (h : IsIsam ground place s map) (j : ℕ)
    (below : j < bucket_count (bytes_at s place.root)) (now : List ℕ)
    (c : IsBucketChanged ground place j s t (h.pages j) now) where
  abbrev root : ℕ
  root = place.root

  abbrev count : ℕ
  count = bucket_count (bytes_at s place.root)

  abbrev pub pages_now : ℕ → List ℕ
  pages_now = changed h.pages j now

  off_before : (i q : ℕ) → i < count → i ≢ j → Contains (h.pages i) q
      → Contains (root ∷ h.pages j) q → ⊥
  off_before i q in_i d at old = elim (contains_cases root q (h.pages j) old) [
    | inl e ↦ root_off ground place.owner root s h.pages h.buckets h.index i in_i
        (subst (Contains (h.pages i)) (sym e) at)
    | inr in_j ↦ d (once ground place.owner s (bytes_at s root) h.pages h.buckets i j q in_i below
        at in_j)
  ]

  one_changed : IsOneChanged ground place.owner s t (first_page_of (bytes_at s root))
      (first_page_of (bytes_at t root)) h.pages count j now
      (root ∷ h.pages j) (root ∷ now)
  one_changed = record {
    some = some;
    chains = h.buckets.chains;
    firsts = c.firsts;
    chain = c.chain;
    beside = c.beside;
    off = off_before;
  }

  in_old : (i : ℕ) → i < bucket_count (bytes_at t root) → i < count
  in_old i less = let same = c.count in omega (arith, less, same)

  same_bucket : (k : List ℕ) → bucket_of (bytes_at t root) k ≡ bucket_of (bytes_at s root) k
  same_bucket k = ap (λ (x : List (List ℕ)). bucket_among x k) c.separators

  chains_now : (i : ℕ) → i < bucket_count (bytes_at t root)
      → IsChain ground place.owner t (first_page_of (bytes_at t root) i) (pages_now i)
  chains_now i less = chains_changed ground place.owner s t (first_page_of (bytes_at s root))
      (first_page_of (bytes_at t root)) h.pages count j now
      (root ∷ h.pages j) (root ∷ now) one_changed i (in_old i less)

  filled_now : (i q : ℕ) → i < bucket_count (bytes_at t root) → Contains (pages_now i) q
      → entries_at t q ≢ []
  filled_now i q less at = elim (cases_eq i j) [
    | inl e ↦ c.filled q (subst (λ (x : List ℕ). Contains x q) (changed_here h.pages j now i e) at)
    | inr d ↦ (let old = subst (λ (x : List ℕ). Contains x q) (changed_other h.pages j now i d) at
        in
        λ none. h.buckets.filled i q (in_old i less) old
        (ap entries_of
        (sym (bytes_stay ground place.owner s t (first_page_of (bytes_at s root))
        (first_page_of (bytes_at t root)) h.pages count j now
        (root ∷ h.pages j) (root ∷ now) one_changed i q (in_old i less) d old)) ∙ none))
  ]

  pub owned_now : (q : ℕ) → slice_get t.owners q ≡ Some place.owner
      → (q ≡ root) ⊎ IsOfChain pages_now (bucket_count (bytes_at t root)) q
  owned_now q o = elim (owned_after ground place.owner s t (root ∷ h.pages j)
      (root ∷ now) some c.beside q o) [
        | inl at ↦ elim (contains_cases root q now at) [
          | inl e ↦ inl (sym e)
          | inr here ↦
              inr (record {
                bucket = j;
                below = (let same = c.count in omega (arith, same, below));
                among = subst (λ (x : List ℕ). Contains x q)
                    (sym (changed_here h.pages j now j refl))
                    here;
              })
        ]
        | inr old ↦ elim (h.owned q old.1) [
          | inl e ↦ absurd (old.0
              (subst (Contains (root ∷ h.pages j)) (sym e) (contains_here root (h.pages j))))
          | inr was ↦
              (let d : was.bucket ≢ j =
              λ e. old.0 (contains_later root q (h.pages j)
              (subst (λ n. Contains (h.pages n) q) e was.among)) in
              let less = was.below in
              inr (record {
                bucket = was.bucket;
                below = (let same = c.count in omega (arith, same, less));
                among = subst (λ (x : List ℕ). Contains x q)
                    (sym (changed_other h.pages j now was.bucket d)) was.among;
              }))
        ]
      ]

  pub bucket_others : OthersStay ground place.owner s t
  bucket_others = others_beside ground place.owner s t (root ∷ h.pages j) (root ∷ now)
      (λ q at. elim (contains_cases root q (h.pages j) at) [
        | inl e ↦ subst (λ n. slice_get s.owners n ≡ Some place.owner) e h.root
        | inr later ↦ (h.buckets.chains j below).fit.owned q later
      ])
      (λ q at. elim (contains_cases root q now at) [
        | inl e ↦ subst (λ n. slice_get t.owners n ≡ Some place.owner) e c.root
        | inr later ↦ c.chain.fit.owned q later
      ])
      c.beside

  -- The bucket has what was put, and what stays of what it had.
  module _ (Put : List ℕ → List ℕ → Type 0) (put_here : (k b : List ℕ) → Put k b
      → bucket_of (bytes_at s root) k ≡ j)
      (Stays : List ℕ → Type 0) (stays : (k : List ℕ) → bucket_of (bytes_at s root) k ≢ j → Stays k)
      (entries : (k b : List ℕ) → IsOn t now k b ↔ (Put k b ⊎ (Stays k × IsOn s (h.pages j) k b)))
    where
      placed_now : (i : ℕ) (k b : List ℕ) → i < bucket_count (bytes_at t root)
          → IsOn t (pages_now i) k b → bucket_of (bytes_at t root) k ≡ i
      placed_now i k b less on = same_bucket k
          ∙ placed_changed ground place.owner s t (first_page_of (bytes_at s root))
          (first_page_of (bytes_at t root)) h.pages count j now (root ∷ h.pages j)
          (root ∷ now) one_changed
          (bucket_of (bytes_at s root)) h.buckets.placed below Put put_here Stays stays entries i k
          b
          (in_old i less) on

      pub buckets_now : AreBuckets ground place.owner t (bytes_at t root) pages_now
      buckets_now = record { chains = chains_now; filled = filled_now; placed = placed_now }

      pub on_bucket : (k b : List ℕ) → IsOn t (pages_now (bucket_of (bytes_at t root) k)) k b
          ↔ (Put k b ⊎ (Stays k × IsOn s (h.pages (bucket_of (bytes_at s root) k)) k b))
      on_bucket k b = (let on =
          on_changed ground place.owner s t (first_page_of (bytes_at s root))
          (first_page_of (bytes_at t root))
          h.pages count j
          now (root ∷ h.pages j) (root ∷ now) one_changed
          (bucket_of (bytes_at s root)) h.buckets.placed below Put put_here Stays stays entries
          (bucket_of (bytes_at s root) k) k b
          (bucket_below (bytes_at s root) k h.index.some) refl in (
            λ here. on.0 (subst (λ i. IsOn t (pages_now i) k b) (same_bucket k) here),
            λ is. subst (λ i. IsOn t (pages_now i) k b) (sym (same_bucket k)) (on.1 is),
          ))

      pub bucket_isam : (new : LeafMap)
          → ((k b : List ℕ) → (fin.get new k ≡ Some b)
          ↔ (Put k b ⊎ (Stays k × IsOn s (h.pages (bucket_of (bytes_at s root) k)) k b)))
          → IsIsam ground place t new
      bucket_isam new found =
          as_isam ground place t new pages_now c.index c.root buckets_now owned_now
          (λ k b. (
            λ is. (on_bucket k b).1 ((found k b).0 is),
            λ here. (found k b).1 ((on_bucket k b).0 here),
          ))

  -- at one key of the bucket it has what was put, and else what it had
  module _ (key : List ℕ) (its : bucket_of (bytes_at s root) key ≡ j) (Put : List ℕ → List ℕ
      → Type 0)
      (put_key : (k b : List ℕ) → Put k b → k ≡ key)
      (entries : (k b : List ℕ) → IsOn t now k b ↔ (Put k b ⊎ ((k ≢ key) × IsOn s (h.pages j) k b)))
    where
      pub key_isam : (new : LeafMap)
          → ((k b : List ℕ) → (fin.get new k ≡ Some b)
          ↔ (Put k b ⊎ ((k ≢ key) × IsOn s (h.pages (bucket_of (bytes_at s root) k)) k b)))
          → IsIsam ground place t new
      key_isam = bucket_isam Put (λ k b put. ap (bucket_of (bytes_at s root)) (put_key k b put)
          ∙ its)
          (λ k. k ≢ key)
          (λ k d same. d (ap (bucket_of (bytes_at s root)) same ∙ its)) entries
