-- The entries of an indexed sequential file inside a span.
use Rattle.std.proofs.Common.{◌≡◌, ◌↔◌, inl, inr, ℕ, ◌<◌, ◌≤◌, Bool, true, cond, List, [], ◌∷◌, length, take, Some, refl, sym, ap, subst, arith}
use Rattle.std.specs.Cmp.{first_so, second_so}
use Rattle.std.specs.FinMap.{get}
use Rattle.std.specs.List.{count_by}
use Rattle.std.specs.Ordering.{is_eq, is_le}
use Rattle.std.specs.declared.cmp.Ordering.{Ordering}
use Rattle.std.specs.declared.cmp.Ordering.TheVariants.{Less, Equal, Greater}
use Rattle.std.proofs.lemmas.Bool.{cases_Bool}
use Rattle.std.proofs.lemmas.List.Sums.{sum_by-cons}
use Rattle.gx_values.specs.Keys.{is_inside}
use Rattle.gx_ports.specs.declared.leaves.Entry.{Entry as LeafEntry}
use Rattle.gx_ports.specs.declared.pages.Place.{Place}
use Rattle.gx_ports.specs.Keyed.{key_cmp}
use Rattle.gx_ports.specs.LeafMaps.{LeafMap}
use Rattle.gx_ports.specs.Sheets.{Sheets, Ground, bytes_at}
use Rattle.gx_ports.proofs.KeyLemmas.{le_trans, tied, front_le_of}
use Rattle.gx_chain.specs.Chains.{IsOnChain, AreGathered}
use Rattle.gx_chain.specs.Collect.{inside_on}
use Rattle.gx_chain.proofs.SpanLemmas.{AreBucketChains, pages_between, between_gathered}
use Rattle.gx_isam_index.specs.Index.{bucket_among, bucket_count, bucket_of, first_page_of, last_among, last_bucket, separators_of}
use Rattle.gx_isam.specs.Isam.{AreBuckets, IsIsam}
use Rattle.gx_isam.proofs.PagesLemmas.{bucket_chains}

-- ---- the buckets of keys inside a span

count_more : (a b : List ℕ → Bool) (xs : List (List ℕ)) → ((x : List ℕ) → a x ≡ true → b x ≡ true)
    → count_by a xs ≤ count_by b xs
count_more a b [] to = omega arith
count_more a b (x ∷ xs) to =
    let rest = count_more a b xs to in
    let left = sum_by-cons (λ (y : List ℕ). cond {A = ℕ} (a y) 1 0) x xs in
    let right = sum_by-cons (λ (y : List ℕ). cond {A = ℕ} (b y) 1 0) x xs in
    elim (cases_Bool (a x)) [
      | inl e ↦ (let one = ap (λ (t : Bool). cond {A = ℕ} t 1 0) e in let other =
          ap (λ (t : Bool). cond {A = ℕ} t 1 0) (to x e) in
          omega (arith, rest, left, right, one, other))
      | inr e ↦ (let none = ap (λ (t : Bool). cond {A = ℕ} t 1 0) e in
          omega (arith, rest, left, right, none))
    ]

le_of_eq : (r : Ordering) → is_eq r ≡ true → is_le r ≡ true
le_of_eq Less e = refl
le_of_eq Equal e = refl
le_of_eq Greater e = e

le_itself : (k : List ℕ) → is_le (key_cmp k k) ≡ true
le_itself k = le_of_eq (key_cmp k k) (tied k)

-- they are no less than that of its lower end
pub bucket_least : (separators : List (List ℕ)) (lo hi key : List ℕ) → is_inside lo hi key ≡ true
    → bucket_among separators lo ≤ bucket_among separators key
bucket_least separators lo hi key inside =
    count_more (λ s. is_le (key_cmp s lo)) (λ s. is_le (key_cmp s key)) separators
    (λ s e. le_trans s lo key e (first_so _ _ inside))

-- and no greater than the last one by its upper end
pub bucket_most : (separators : List (List ℕ)) (lo hi key : List ℕ) → is_inside lo hi key ≡ true
    → bucket_among separators key ≤ last_among separators hi
bucket_most separators lo hi key inside =
    count_more (λ s. is_le (key_cmp s key)) (λ s. is_le (key_cmp (take (length hi) s) hi))
    separators
    (λ s e. le_trans (take (length hi) s) (take (length hi) key) hi
    (front_le_of (length hi) s key e) (second_so _ _ inside))

inside_buckets : (index lo hi : List ℕ) (from end : ℕ) → from ≡ bucket_of index lo
    → last_bucket index hi < end → (key : List ℕ)
    → is_inside lo hi key ≡ true → (from ≤ bucket_of index key) × (bucket_of index key < end)
inside_buckets index lo hi from end first last key inside =
    let least = bucket_least (separators_of index) lo hi key inside in
    let most = bucket_most (separators_of index) lo hi key inside in
    (omega (arith, first, least), omega (arith, last, most))

-- ---- the chains by an index that was read

module _ (ground : Ground) (place : Place) (s : Sheets) (map : LeafMap) (index : List ℕ)
    (is : index ≡ bytes_at s place.root)
    (h : IsIsam ground place s map) where
  pub index_chains : AreBucketChains ground place.owner s (first_page_of index) (bucket_of index)
      (bucket_count index) h.pages
  index_chains = bucket_chains ground place.owner s index h.pages
      (subst (λ (x : List ℕ). AreBuckets ground place.owner s x h.pages) (sym is) h.buckets)

  -- they have all entries inside a span whose buckets are among them
  pub gathered : (lo hi : List ℕ) (found : List LeafEntry) (from end : ℕ) → from ≤ end
      → end ≤ bucket_count index
      → from ≡ bucket_of index lo → last_bucket index hi < end
      → found ≡ inside_on s lo hi (pages_between h.pages from end)
      → AreGathered s lo hi map found
  gathered lo hi found from end low high first last =
      between_gathered ground place.owner s (first_page_of index) (bucket_of index)
      (bucket_count index) h.pages index_chains from end low high lo hi map
      (λ k c. subst (λ (x : List ℕ). (get map k ≡ Some c)
      ↔ IsOnChain s h.pages (bucket_count x) k c) (sym is) (h.map_is k c))
      (inside_buckets index lo hi from end first last) found
