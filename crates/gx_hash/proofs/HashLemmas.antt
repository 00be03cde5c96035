-- What a change of one of its chains makes of a hashed file.
use Rattle.std.proofs.Common.{◌≡◌, ◌≢◌, ◌⊎◌, ◌↔◌, inl, inr, ℕ, ◌+◌, ◌<◌, ◌≤◌, List, Some, refl, sym, ap, subst, arith}
use Rattle.std.specs.Prelude.{slice_get}
use Rattle.std.specs.List.{Contains}
use Rattle.std.specs.FinMap as fin
use Rattle.std.proofs.lemmas.Bool.{cases_eq}
use Rattle.gx_ports.specs.declared.pages.Place.{Place}
use Rattle.gx_ports.specs.declared.page_view.PageView.{Ghosts}
use Rattle.gx_ports.specs.Files.{SameFor, OthersStay, IsPlace, IsWhole}
use Rattle.gx_ports.specs.Roots.{roots_of}
use Rattle.gx_ports.specs.LeafMaps.{LeafMap}
use Rattle.gx_ports.specs.Sheets.{Sheets, Ground, IsPast}
use Rattle.gx_ports.proofs.PageLemmas.{bytes_same}
use Rattle.gx_chain.specs.Chain.{IsChain, IsOn, HasChainOf}
use Rattle.gx_chain.specs.Chains.{IsOfChain}
use Rattle.gx_chain.specs.Changes.{IsPutIn, IsRemovedFrom, StaysBeside}
use Rattle.gx_chain.proofs.BucketsLemmas.{IsOneChanged, filled_once, at_bucket, on_chains, chains_changed, placed_changed, on_changed}
use Rattle.gx_chain.proofs.ChainLemmas.{same_on, same_on_back, same_chain}
use Rattle.gx_chain.proofs.ChainsLemmas.{changed, changed_here, changed_other}
use Rattle.gx_chain.proofs.OwnerLemmas.{others_beside, owned_after}
use Rattle.gx_chain.proofs.PairLemmas.{found_put, found_removed, none_put}
use Rattle.gx_hash.specs.Buckets.{hash_bucket}
use Rattle.gx_hash.specs.Hash.{IsHash}
use Rattle.gx_hash.proofs.BucketLemmas.{bucket_below}

-- ---- chains of different buckets have no page in common

module _ (ground : Ground) (place : Place) (s : Sheets) (pages : ℕ → List ℕ) (count : ℕ)
    (chains : (bucket : ℕ) → bucket < count
    → IsChain ground place.owner s (place.root + bucket) (pages bucket))
    (placed : (bucket : ℕ) (key body : List ℕ) → bucket < count → IsOn s (pages bucket) key body
    → hash_bucket place.spec key ≡ bucket) where
  pub chains_once : (i j q : ℕ) → i < count → j < count → Contains (pages i) q
      → Contains (pages j) q → i ≡ j
  chains_once i j q in_i in_j at_i at_j =
      let same = filled_once s pages count (hash_bucket place.spec) placed i j q in_i in_j at_i at_j
      in
      elim (cases_eq q (place.root + i)) [
        | inl first ↦ elim (cases_eq q (place.root + j)) [
          | inl first_too ↦ omega (arith, first, first_too)
          | inr d ↦ same ((chains j in_j).fit.filled q at_j d)
        ]
        | inr d ↦ same ((chains i in_i).fit.filled q at_i d)
      ]

-- ---- a key is looked up on the chain of its bucket

pub as_hash : (ground : Ground) (place : Place) (s : Sheets) (map : LeafMap) (pages : ℕ → List ℕ)
    → 1 ≤ roots_of place.spec
    → ((bucket : ℕ) → bucket < roots_of place.spec
    → IsChain ground place.owner s (place.root + bucket) (pages bucket))
    → ((page : ℕ) → slice_get s.owners page ≡ Some place.owner
    → IsOfChain pages (roots_of place.spec) page)
    → ((bucket : ℕ) (key body : List ℕ) → bucket < roots_of place.spec
    → IsOn s (pages bucket) key body → hash_bucket place.spec key ≡ bucket)
    → ((k b : List ℕ) → (fin.get map k ≡ Some b) ↔ IsOn s (pages (hash_bucket place.spec k)) k b)
    → IsHash ground place s map
as_hash ground place s map pages some chains owned placed found = record {
  pages = pages;
  chains = chains;
  once = chains_once ground place s pages (roots_of place.spec) chains placed;
  owned = owned;
  placed = placed;
  map_is = on_chains s pages (roots_of place.spec) (hash_bucket place.spec) placed
      (λ k. bucket_below place.spec k some) map found;
}

pub hash_at : (ground : Ground) (place : Place) (s : Sheets) (map : LeafMap)
    → 1 ≤ roots_of place.spec → (h : IsHash ground place s map)
    → (k b : List ℕ) → (fin.get map k ≡ Some b) ↔ IsOn s (h.pages (hash_bucket place.spec k)) k b
hash_at ground place s map some h =
    at_bucket s h.pages (roots_of place.spec) (hash_bucket place.spec) h.placed
    (λ k. bucket_below place.spec k some) map h.map_is

-- ---- the chain of a key has changed

module _ (ground : Ground) (place : Place) (s t : Sheets) (map : LeafMap) (key : List ℕ)
    (some : 1 ≤ place.owner)
    (roots : 1 ≤ roots_of place.spec) (h : IsHash ground place s map) (now : List ℕ)
    (is : IsChain ground place.owner t (place.root + hash_bucket place.spec key) now)
    (b : StaysBeside ground s t (h.pages (hash_bucket place.spec key)) now) where
  abbrev j : ℕ
  j = hash_bucket place.spec key

  abbrev root_of : ℕ → ℕ
  root_of i = place.root + i

  in_j : j < roots_of place.spec
  in_j = bucket_below place.spec key roots

  one_changed : IsOneChanged ground place.owner s t root_of root_of h.pages (roots_of place.spec) j
      now (h.pages j) now
  one_changed = record {
    some = some;
    chains = h.chains;
    firsts = λ i less d. refl;
    chain = is;
    beside = b;
    off = λ i q in_i d at old. d (h.once i j q in_i in_j at old);
  }

  owned_changed : (q : ℕ) → slice_get t.owners q ≡ Some place.owner
      → IsOfChain (changed h.pages j now) (roots_of place.spec) q
  owned_changed q o = elim (owned_after ground place.owner s t (h.pages j) now some b q o) [
    | inl here ↦ record {
      bucket = j;
      below = in_j;
      among = subst (λ (x : List ℕ). Contains x q) (sym (changed_here h.pages j now j refl)) here;
    }
    | inr old ↦ (let was = h.owned q old.1 in
        let d : was.bucket ≢ j = λ e. old.0 (subst (λ n. Contains (h.pages n) q) e was.among) in
        record {
          bucket = was.bucket;
          below = was.below;
          among = subst (λ (x : List ℕ). Contains x q)
              (sym (changed_other h.pages j now was.bucket d)) was.among;
        })
  ]

  pub others_stay : OthersStay ground place.owner s t
  others_stay = others_beside ground place.owner s t (h.pages j) now (h.chains j in_j).fit.owned
      is.fit.owned b

  -- it has what was put, and but for the key what it had
  pub hash_changed : (Put : List ℕ → List ℕ → Type 0) → ((k c : List ℕ) → Put k c → k ≡ key)
      → ((k c : List ℕ) → IsOn t now k c ↔ (Put k c ⊎ ((k ≢ key) × IsOn s (h.pages j) k c)))
      → (new : LeafMap)
      → ((k c : List ℕ) → (fin.get new k ≡ Some c)
      ↔ (Put k c ⊎ ((k ≢ key) × IsOn s (h.pages (hash_bucket place.spec k)) k c)))
      → IsHash ground place t new
  hash_changed Put put_key entries new found =
      let put_here = λ (k c : List ℕ) (put : Put k c). ap (hash_bucket place.spec) (put_key k c put)
      in
      let stays = λ (k : List ℕ) (d : hash_bucket place.spec k ≢ j) (same : k ≡ key). d
      (ap (hash_bucket place.spec) same) in
      as_hash ground place t new (changed h.pages j now) roots
      (chains_changed ground place.owner s t root_of root_of h.pages (roots_of place.spec) j now
      (h.pages j) now one_changed) owned_changed
      (placed_changed ground place.owner s t root_of root_of h.pages (roots_of place.spec) j now
      (h.pages j) now one_changed
      (hash_bucket place.spec) h.placed in_j Put put_here (λ k. k ≢ key) stays entries)
      (λ k c. (let on = on_changed ground place.owner s t root_of root_of h.pages
      (roots_of place.spec) j now (h.pages j) now one_changed
      (hash_bucket place.spec) h.placed in_j Put put_here (λ k. k ≢ key) stays entries
      (hash_bucket place.spec k) k c (bucket_below place.spec k roots) refl in (
        λ is. on.1 ((found k c).0 is),
        λ here. (found k c).1 (on.0 here),
      )))

-- ---- one pair is set

module _ (ground : Ground) (place : Place) (s t : Sheets) (map : LeafMap) (key body : List ℕ)
    (some : 1 ≤ place.owner)
    (roots : 1 ≤ roots_of place.spec) (h : IsHash ground place s map)
    (p : IsPutIn ground place.owner (place.root + hash_bucket place.spec key) key body s t
    (h.pages (hash_bucket place.spec key))) where
  pub hash_put : IsHash ground place t (fin.insert map key body)
  hash_put = hash_changed ground place s t map key some roots h p.pages p.chain p.beside
      (λ k c. (k ≡ key) × (c ≡ body))
      (λ k c put. put.0) p.entries (fin.insert map key body)
      (found_put map key (λ k c. IsOn s (h.pages (hash_bucket place.spec k)) k c)
      (hash_at ground place s map roots h) body)

  pub hash_put_others : OthersStay ground place.owner s t
  hash_put_others = others_stay ground place s t map key some roots h p.pages p.chain p.beside

-- ---- the pair at a key is taken away

module _ (ground : Ground) (place : Place) (s t : Sheets) (map : LeafMap) (key : List ℕ)
    (some : 1 ≤ place.owner)
    (roots : 1 ≤ roots_of place.spec) (h : IsHash ground place s map)
    (p : IsRemovedFrom ground place.owner (place.root + hash_bucket place.spec key) key s t
    (h.pages (hash_bucket place.spec key))) where
  pub hash_removed : IsHash ground place t (fin.remove map key)
  hash_removed = hash_changed ground place s t map key some roots h p.pages p.chain p.beside
      (λ k c. ⊥) (λ k c never. absurd never)
      (λ k c. none_put (p.entries k c)) (fin.remove map key)
      (λ k c. none_put (found_removed map key
      (λ m d. IsOn s (h.pages (hash_bucket place.spec m)) m d)
      (hash_at ground place s map roots h) k
      c))

  pub hash_removed_others : OthersStay ground place.owner s t
  hash_removed_others = others_stay ground place s t map key some roots h p.pages p.chain p.beside

-- ---- its pages decide

pub hash_same : (ground : Ground) (place : Place) (s t : Sheets) (map : LeafMap)
    → 1 ≤ roots_of place.spec → SameFor ground place.owner s t
    → IsHash ground place s map → IsHash ground place t map
hash_same ground place s t map roots same h =
    let bytes = λ (i q : ℕ) (in_i : i < roots_of place.spec) (c : Contains (h.pages i) q).
    bytes_same s t q
    (same.bytes q ((h.chains i in_i).fit.past q c).past ((h.chains i in_i).fit.owned q c)) in
    let back = λ (i : ℕ) (k c : List ℕ) (in_i : i < roots_of place.spec). same_on_back ground
    place.owner (place.root + i) s t (h.pages i)
    (λ q at. bytes i q in_i at) k c in
    as_hash ground place t map h.pages roots
    (λ i in_i. same_chain ground place.owner (place.root + i) s t (h.pages i)
    (λ q c. bytes i q in_i c)
    (λ q c. (same.owned q).0 ((h.chains i in_i).fit.owned q c)) (h.chains i in_i))
    (λ q o. h.owned q ((same.owned q).1 o))
    (λ i k c in_i on. h.placed i k c in_i (back i k c in_i on))
    (λ k c. (let in_i = bucket_below place.spec k roots in (
      λ is. same_on ground place.owner (place.root + hash_bucket place.spec k) s t
          (h.pages (hash_bucket place.spec k))
          (λ q at. bytes (hash_bucket place.spec k) q in_i at) k c
          ((hash_at ground place s map roots h k c).0 is),
      λ on. (hash_at ground place s map roots h k c).1
          (back (hash_bucket place.spec k) k c in_i on),
    )))

-- ---- the chain of a key

pub root_past : (ground : Ground) (place : Place) (n first : ℕ) → IsPlace ground place
    → n < roots_of place.spec → first ≡ place.root + n
    → IsPast ground first
root_past ground place n first at below is =
    let past = at.past in
    let end = at.below in
    record { past = omega (arith, is, past); below = omega (arith, is, end, below) }

pub chain_at : (ground : Ground) (place : Place) (s : Sheets) (map : LeafMap) (key : List ℕ)
    (first : ℕ) → 1 ≤ roots_of place.spec
    → first ≡ place.root + hash_bucket place.spec key → (h : IsHash ground place s map)
    → IsChain ground place.owner s first (h.pages (hash_bucket place.spec key))
chain_at ground place s map key first roots is h =
    subst (λ n. IsChain ground place.owner s n (h.pages (hash_bucket place.spec key)))
    (sym is) (h.chains (hash_bucket place.spec key) (bucket_below place.spec key roots))

pub has_chain : {S : Type 0} (g : Ghosts S) (p : S) (place : Place) (key : List ℕ) (first : ℕ)
    → 1 ≤ roots_of place.spec
    → first ≡ place.root + hash_bucket place.spec key → IsWhole g (IsHash (g.ground p) place) p
    → HasChainOf g p place.owner first
has_chain g p place key first roots is whole = record {
  told = whole.1.told;
  pages = whole.1.file.pages (hash_bucket place.spec key);
  chain = chain_at (g.ground p) place (g.working p) whole.0 key first roots is whole.1.file;
}
