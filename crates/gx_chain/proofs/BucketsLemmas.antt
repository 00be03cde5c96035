-- Chains of one owner, each that of a bucket, of which one changes.
use Rattle.std.proofs.Common.{◌≡◌, ◌≢◌, ◌⊎◌, ◌↔◌, inl, inr, ℕ, ◌<◌, ◌≤◌, List, [], Some, sym, subst, ◌∙◌, arith}
use Rattle.std.specs.List.{Contains}
use Rattle.std.specs.FinMap as fin
use Rattle.std.proofs.lemmas.Bool.{cases_eq}
use Rattle.std.proofs.lemmas.Option.{same_Some}
use Rattle.gx_ports.specs.LeafMaps.{LeafMap}
use Rattle.gx_ports.specs.Sheets.{Sheets, Ground, bytes_at}
use Rattle.gx_ports.proofs.PageLemmas.{bytes_same}
use Rattle.gx_chain.specs.Chain.{entries_at, IsChain, IsOn}
use Rattle.gx_chain.specs.Chains.{IsOnChain}
use Rattle.gx_chain.specs.Changes.{StaysBeside}
use Rattle.gx_chain.proofs.ChainLemmas.{same_on, same_on_back, same_chain}
use Rattle.gx_chain.proofs.ChainsLemmas.{changed, changed_here, changed_other}
use Rattle.gx_chain.proofs.CountLemmas.{first_of as entry_of}

-- ---- a key is looked up on the chain of its bucket

module _ (s : Sheets) (pages : ℕ → List ℕ) (count : ℕ) (bucket_of : List ℕ → ℕ)
    (placed : (bucket : ℕ) (k b : List ℕ) → bucket < count → IsOn s (pages bucket) k b
    → bucket_of k ≡ bucket) where
  -- a page with an entry is on one chain
  pub filled_once : (i j q : ℕ) → i < count → j < count → Contains (pages i) q
      → Contains (pages j) q → entries_at s q ≢ [] → i ≡ j
  filled_once i j q in_i in_j at_i at_j filled =
      let e = entry_of (entries_at s q) filled in
      sym (placed i e.0 e.1 in_i (record { page = q; among = at_i; here = e.2 }))
      ∙ placed j e.0 e.1 in_j (record { page = q; among = at_j; here = e.2 })

  module _ (below : (k : List ℕ) → bucket_of k < count) (map : LeafMap) where
    pub at_bucket : ((k b : List ℕ) → (fin.get map k ≡ Some b) ↔ IsOnChain s pages count k b)
        → (k b : List ℕ) → (fin.get map k ≡ Some b) ↔ IsOn s (pages (bucket_of k)) k b
    at_bucket there k b = (
      λ is. (let on = (there k b).0 is in subst (λ i. IsOn s (pages i) k b)
          (sym (placed on.bucket k b on.below on.on)) on.on),
      λ on. (there k b).1 (record { bucket = bucket_of k; below = below k; on = on }),
    )

    pub on_chains : ((k b : List ℕ) → (fin.get map k ≡ Some b) ↔ IsOn s (pages (bucket_of k)) k b)
        → (k b : List ℕ) → (fin.get map k ≡ Some b) ↔ IsOnChain s pages count k b
    on_chains found k b = (
      λ is. record { bucket = bucket_of k; below = below k; on = (found k b).0 is },
      λ on. (found k b).1 (subst (λ i. IsOn s (pages i) k b)
          (sym (placed on.bucket k b on.below on.on)) on.on),
    )

-- ---- one chain has changed

-- A chain has other pages now. The pages that have changed are on no other chain.
pub record IsOneChanged (ground : Ground) (owner : ℕ) (s t : Sheets) (first_of first_now : ℕ → ℕ)
    (pages : ℕ → List ℕ) (count j : ℕ) (now before after : List ℕ) : Type 0 where
  pub some : 1 ≤ owner
  pub chains : (i : ℕ) → i < count → IsChain ground owner s (first_of i) (pages i)
  pub firsts : (i : ℕ) → i < count → i ≢ j → first_now i ≡ first_of i
  pub chain : IsChain ground owner t (first_now j) now
  pub beside : StaysBeside ground s t before after
  pub off : (i q : ℕ) → i < count → i ≢ j → Contains (pages i) q → Contains before q → ⊥

module _ (ground : Ground) (owner : ℕ) (s t : Sheets) (first_of first_now : ℕ → ℕ)
    (pages : ℕ → List ℕ) (count j : ℕ) (now before after : List ℕ)
    (c : IsOneChanged ground owner s t first_of first_now pages count j now before after) where
  off_after : (i q : ℕ) → i < count → i ≢ j → Contains (pages i) q → Contains after q → ⊥
  off_after i q in_i d at new = elim (c.beside.came q new) [
    | inl old ↦ c.off i q in_i d at old
    | inr free ↦ (let some = c.some in let none : owner ≡ 0 = same_Some owner 0
        (sym ((c.chains i in_i).fit.owned q at) ∙ free) in omega (arith, none, some))
  ]

  pub bytes_stay : (i q : ℕ) → i < count → i ≢ j → Contains (pages i) q
      → bytes_at t q ≡ bytes_at s q
  bytes_stay i q in_i d at = bytes_same s t q
      (c.beside.bytes q ((c.chains i in_i).fit.past q at).past (c.off i q in_i d at)
      (off_after i q in_i d at))

  chain_stays : (i : ℕ) → i < count → i ≢ j → IsChain ground owner t (first_now i) (pages i)
  chain_stays i in_i d =
      subst (λ n. IsChain ground owner t n (pages i)) (sym (c.firsts i in_i d))
      (same_chain ground owner (first_of i) s t (pages i) (λ q at. bytes_stay i q in_i d at)
      (λ q at. c.beside.owners q (c.off i q in_i d at) (off_after i q in_i d at)
      ∙ (c.chains i in_i).fit.owned q at) (c.chains i in_i))

  pub chains_changed : (i : ℕ) → i < count → IsChain ground owner t (first_now i)
      (changed pages j now i)
  chains_changed i in_i = elim (cases_eq i j) [
    | inl e ↦ subst (λ (x : List ℕ). IsChain ground owner t (first_now i) x)
        (sym (changed_here pages j now i e))
        (subst (λ n. IsChain ground owner t (first_now n) now) (sym e) c.chain)
    | inr d ↦ subst (λ (x : List ℕ). IsChain ground owner t (first_now i) x)
        (sym (changed_other pages j now i d)) (chain_stays i in_i d)
  ]

  -- on another chain the same entries stand
  on_other : (i : ℕ) (k b : List ℕ) → i < count → i ≢ j → IsOn s (pages i) k b ↔ IsOn t
      (changed pages j now i) k b
  on_other i k b in_i d = (
    λ on. subst (λ (x : List ℕ). IsOn t x k b) (sym (changed_other pages j now i d))
        (same_on ground owner 0 s t (pages i) (λ q at. bytes_stay i q in_i d at) k b on),
    λ on. same_on_back ground owner 0 s t (pages i) (λ q at. bytes_stay i q in_i d at) k b
        (subst (λ (x : List ℕ). IsOn t x k b) (changed_other pages j now i d) on),
  )

  -- The bucket has what was put, and what stays of what it had.
  module _ (bucket_of : List ℕ → ℕ)
      (placed : (bucket : ℕ) (k b : List ℕ) → bucket < count → IsOn s (pages bucket) k b
      → bucket_of k ≡ bucket) (below : j < count)
      (Put : List ℕ → List ℕ → Type 0) (put_here : (k b : List ℕ) → Put k b → bucket_of k ≡ j)
      (Stays : List ℕ → Type 0) (stays : (k : List ℕ) → bucket_of k ≢ j → Stays k)
      (entries : (k b : List ℕ) → IsOn t now k b ↔ (Put k b ⊎ (Stays k × IsOn s (pages j) k b)))
    where
      placed_here : (k b : List ℕ) → IsOn t now k b → bucket_of k ≡ j
      placed_here k b on = elim ((entries k b).0 on) [
        | inl put ↦ put_here k b put
        | inr old ↦ placed j k b below old.1
      ]

      pub placed_changed : (i : ℕ) (k b : List ℕ) → i < count → IsOn t (changed pages j now i) k b
          → bucket_of k ≡ i
      placed_changed i k b in_i on = elim (cases_eq i j) [
        | inl e ↦ placed_here k b (subst (λ (x : List ℕ). IsOn t x k b)
            (changed_here pages j now i e) on) ∙ sym e
        | inr d ↦ placed i k b in_i ((on_other i k b in_i d).1 on)
      ]

      pub on_changed : (i : ℕ) (k b : List ℕ) → i < count → bucket_of k ≡ i
          → IsOn t (changed pages j now i) k b ↔ (Put k b ⊎ (Stays k × IsOn s (pages i) k b))
      on_changed i k b in_i at = elim (cases_eq i j) [
        | inl e ↦ (
          λ on. elim ((entries k b).0 (subst (λ (x : List ℕ). IsOn t x k b)
              (changed_here pages j now i e) on)) [
                | inl put ↦ inl put
                | inr old ↦ inr (old.0, subst (λ n. IsOn s (pages n) k b) (sym e) old.1)
              ],
          λ put. subst (λ (x : List ℕ). IsOn t x k b) (sym (changed_here pages j now i e))
              ((entries k b).1 (elim put [
                | inl here ↦ inl here
                | inr old ↦ inr (old.0, subst (λ n. IsOn s (pages n) k b) e old.1)
              ])),
        )
        | inr d ↦ (
          λ on. inr (stays k (λ is. d (sym at ∙ is)), (on_other i k b in_i d).1 on),
          λ put. elim put [
            | inl here ↦ absurd (d (sym at ∙ put_here k b here))
            | inr old ↦ (on_other i k b in_i d).0 old.1
          ],
        )
      ]
