-- The pages of all chains of a hashed file, as one list.
use Rattle.std.proofs.Common.{◌≡◌, ◌≢◌, ◌↔◌, ℕ, zero, suc, ◌+◌, ◌<◌, ◌≤◌, List, [], ◌∷◌, length, drop, Some, subst, ◌∙◌, arith, length-append}
use Rattle.std.specs.Prelude.{slice_get}
use Rattle.std.specs.List.{AllPairs, Contains}
use Rattle.std.specs.FinMap as fin
use Rattle.gx_ports.specs.declared.pages.Place.{Place}
use Rattle.gx_ports.specs.Files.{IsPlace, AreFileLaws, page_count}
use Rattle.gx_ports.specs.LeafMaps.{LeafMap}
use Rattle.gx_ports.specs.Roots.{roots_of}
use Rattle.gx_ports.specs.Sheets.{Sheets, Ground}
use Rattle.gx_chain.specs.Chain.{entries_at, IsChain, IsOn}
use Rattle.gx_chain.specs.Collect.{ArePagesApart}
use Rattle.gx_chain.specs.Map.{owned_map}
use Rattle.gx_chain.proofs.ChainsLemmas.{below_to, below_from, map_below, on_below, once_below}
use Rattle.gx_chain.proofs.CountLemmas.{count_listed, keys_few, first_of}
use Rattle.gx_chain.proofs.ListLemmas.{contains_later, contains_none, pairs_head, pairs_tail}
use Rattle.gx_chain.proofs.MapLemmas.{owned_map_is, one_map}
use Rattle.gx_chain.proofs.SpanLemmas.{AreBucketChains, across, below_apart}
use Rattle.gx_hash.specs.Buckets.{hash_bucket, IsHashed}
use Rattle.gx_chain.specs.Chains.{IsOfChain, pages_below}
use Rattle.gx_hash.specs.Hash.{IsHash}
use Rattle.gx_hash.proofs.BucketLemmas.{roots_some}
use Rattle.gx_hash.proofs.HashLemmas.{chains_once, hash_same}

module _ (ground : Ground) (place : Place) (s : Sheets) (pages : ℕ → List ℕ) (count : ℕ)
    (chains : (bucket : ℕ) → bucket < count
    → IsChain ground place.owner s (place.root + bucket) (pages bucket))
    (placed : (bucket : ℕ) (key body : List ℕ) → bucket < count → IsOn s (pages bucket) key body
    → hash_bucket place.spec key ≡ bucket) where
  pub chains_of : AreBucketChains ground place.owner s (λ n. place.root + n)
      (hash_bucket place.spec) count pages
  chains_of = record {
    chains = chains;
    placed = placed;
    once = chains_once ground place s pages count chains placed;
  }

  -- the pages behind the first of each chain
  abbrev rests : ℕ → List ℕ
  rests i = drop 1 (pages i)

  rest_of : (xs : List ℕ) (q : ℕ) → Contains (drop 1 xs) q → Contains xs q
  rest_of [] q c = c
  rest_of (x ∷ xs) q c = contains_later x q xs c

  rest_later : (first : ℕ) (xs : List ℕ) → IsChain ground place.owner s first xs → (q : ℕ)
      → Contains (drop 1 xs) q → q ≢ first
  rest_later first [] chain q c = absurd (contains_none q c)
  rest_later first (x ∷ xs) chain q c =
      λ e. pairs_head x xs chain.fit.once (subst (Contains xs) (e ∙ chain.linked.0) c)

  rest_once : (xs : List ℕ) → AllPairs (λ a b. a ≢ b) xs → AllPairs (λ a b. a ≢ b) (drop 1 xs)
  rest_once [] once = once
  rest_once (x ∷ xs) once = pairs_tail x xs once

  rest_long : (xs : List ℕ) → length xs ≤ length (drop 1 xs) + 1
  rest_long [] = omega arith
  rest_long (x ∷ xs) = omega arith

  rest_below : (n : ℕ) → length (pages_below pages n) ≤ n + length (pages_below rests n)
  rest_below zero = omega arith
  rest_below (suc n) =
      let ih = rest_below n in
      let long = rest_long (pages n) in
      omega (
        arith,
        ih,
        long,
        length-append (pages_below pages n) (pages n),
        length-append (pages_below rests n) (rests n),
      )

  rest_in : (q : ℕ) → Contains (pages_below rests count) q → Contains (pages_below pages count) q
  rest_in q c = let r = below_to rests count q c in
      below_from pages count r.bucket q r.below (rest_of (pages r.bucket) q r.among)

  -- the chains have few pages
  pub below_few : (map : LeafMap)
      → ((k b : List ℕ) → IsOn s (pages_below pages count) k b → fin.get map k ≡ Some b)
      → length (pages_below pages count) ≤ count + fin.len map
  below_few map map_is =
      let few = keys_few s (pages_below rests count) map
      (once_below rests count (λ i less. rest_once (pages i) (chains i less).fit.once)
      (λ i j q in_i in_j at_i at_j. chains_once ground place s pages count chains placed i j q in_i
      in_j (rest_of (pages i) q at_i)
      (rest_of (pages j) q at_j)))
      (λ q c. (let r = below_to rests count q c in
      let chain = chains r.bucket r.below in
      let e = first_of (entries_at s q)
      (chain.fit.filled q (rest_of (pages r.bucket) q r.among)
      (rest_later (place.root + r.bucket) (pages r.bucket) chain q r.among)) in
      (e.0, e.1, e.2, map_is e.0 e.1 (record { page = q; among = rest_in q c; here = e.2 }))))
      (λ p q k b c in_p in_q. across ground place.owner s (λ n. place.root + n)
      (hash_bucket place.spec) count pages chains_of p q k b c
      (rest_in p in_p) (rest_in q in_q)) in
      omega (arith, few, rest_below count)

-- ---- the file

module _ (ground : Ground) (place : Place) (s : Sheets) (map : LeafMap)
    (h : IsHash ground place s map) where
  abbrev all : List ℕ
  all = pages_below h.pages (roots_of place.spec)

  pub hash_chains : AreBucketChains ground place.owner s (λ n. place.root + n)
      (hash_bucket place.spec) (roots_of place.spec) h.pages
  hash_chains = record { chains = h.chains; placed = h.placed; once = h.once }

  hash_apart : ArePagesApart s all
  hash_apart = below_apart ground place.owner s (λ n. place.root + n) (hash_bucket place.spec)
      (roots_of place.spec) h.pages hash_chains

  hash_map_is : (k b : List ℕ) → (fin.get map k ≡ Some b) ↔ IsOn s all k b
  hash_map_is = map_below s h.pages (roots_of place.spec) map h.map_is

  all_owned : (q : ℕ) → slice_get s.owners q ≡ Some place.owner → Contains all q
  all_owned q o = let r = h.owned q o in
      below_from h.pages (roots_of place.spec) r.bucket q r.below r.among

  are_owned : (q : ℕ) → Contains all q → slice_get s.owners q ≡ Some place.owner
  are_owned q c = let r = below_to h.pages (roots_of place.spec) q c in
      (h.chains r.bucket r.below).fit.owned q r.among

  pub hash_few : page_count place.owner s ≤ roots_of place.spec + fin.len map
  hash_few =
      let listed = count_listed place.owner s.owners 0 all
      (λ q o. subst (Contains all) (omega arith) (all_owned q o)) in
      let most = below_few ground place s h.pages (roots_of place.spec) h.chains h.placed map
      (λ k b. (hash_map_is k b).1) in
      omega (arith, listed, most)

  pub hash_one : 1 ≤ place.owner → owned_map place.owner s ≡ map
  hash_one some = one_map place.owner s all some hash_apart are_owned all_owned map hash_map_is

-- chains with all pages of the owner hold the map that is read on them
pub hash_read : (ground : Ground) (place : Place) (s : Sheets) (pages : ℕ → List ℕ)
    → 1 ≤ place.owner → 1 ≤ roots_of place.spec
    → ((bucket : ℕ) → bucket < roots_of place.spec
    → IsChain ground place.owner s (place.root + bucket) (pages bucket))
    → ((page : ℕ) → slice_get s.owners page ≡ Some place.owner
    → IsOfChain pages (roots_of place.spec) page)
    → ((bucket : ℕ) (key body : List ℕ) → bucket < roots_of place.spec
    → IsOn s (pages bucket) key body → hash_bucket place.spec key ≡ bucket)
    → IsHash ground place s (owned_map place.owner s)
hash_read ground place s pages some roots chains owned placed =
    let all = pages_below pages (roots_of place.spec) in
    let map_is = owned_map_is place.owner s all some
    (below_apart ground place.owner s (λ n. place.root + n) (hash_bucket place.spec)
    (roots_of place.spec) pages
    (chains_of ground place s pages (roots_of place.spec) chains placed))
    (λ q c. (let r = below_to pages (roots_of place.spec) q c in
    (chains r.bucket r.below).fit.owned q r.among))
    (λ q o. (let r = owned q o in
    below_from pages (roots_of place.spec) r.bucket q r.below r.among)) in
    record {
      pages = pages;
      chains = chains;
      once = chains_once ground place s pages (roots_of place.spec) chains placed;
      owned = owned;
      placed = placed;
      map_is = λ k b. (
        λ is. (on_below s pages (roots_of place.spec) k b).0 ((map_is k b).0 is),
        λ on. (map_is k b).1 ((on_below s pages (roots_of place.spec) k b).1 on),
      );
    }

-- what every kind of file proves, of hashed files
pub hash_laws : (ground : Ground) (place : Place) → IsHashed place.spec.kind → IsPlace ground place
    → AreFileLaws ground place (IsHash ground place) (owned_map place.owner)
hash_laws ground place kind at = record {
  one = λ s m is. hash_one ground place s m is at.least;
  same = λ old new m same is. hash_same ground place old new m (roots_some place.spec kind) same is;
  few = λ s m is. (let few = hash_few ground place s m is in omega (arith, few));
}
