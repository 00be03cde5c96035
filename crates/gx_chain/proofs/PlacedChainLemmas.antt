-- Chains that are checked, one after the other.
use Rattle.std.proofs.Common.{◌≡◌, ◌≢◌, inl, inr, ℕ, ◌+◌, ◌<◌, ◌≤◌, Bool, true, false, List, [], length, replicate, refl, sym, ap, subst, ◌∙◌, arith}
use Rattle.std.specs.Prelude.{◌==◌, slice_get, Some, IsTrue}
use Rattle.std.specs.List.{Contains, list_all}
use Rattle.std.proofs.lemmas.Bool.{cases_eq}
use Rattle.std.proofs.lemmas.List.{length-replicate}
use Rattle.gx_laws.proofs.ListLemmas.{unmarked}
use Rattle.gx_ports.specs.declared.page_view.PageView.{Ghosts}
use Rattle.gx_ports.specs.PageCalls.{ReadsPages}
use Rattle.gx_ports.specs.Sheets.{Sheets, Ground}
use Rattle.gx_ports.proofs.PageLemmas.{pages_read_themselves, read_pages_joined}
use Rattle.gx_chain.specs.declared.check.Visits.{Visits}
use Rattle.gx_chain.specs.Chain.{IsChain, IsOn}
use Rattle.gx_chain.specs.Chains.{IsOfChain}
use Rattle.gx_chain.specs.Check.{IsVisitedChain, HasUnseenChain, AreUnseen}
use Rattle.gx_chain.specs.Placed.{HaveBucket, IsPlacedChain, HasPlacedChain, ArePlacedChains}
use Rattle.gx_chain.proofs.ChainsLemmas.{changed, changed_here, changed_other}
use Rattle.gx_chain.proofs.PlacedLemmas.{all_placed, placed_all}

-- ---- the first chains

module _ (ground : Ground) (owner : ℕ) (s : Sheets) (first_of : ℕ → ℕ)
    (IsPlaced : ℕ → List ℕ → Type 0) where
  abbrev ArePlacedTo : ℕ → List Bool → Type 0
  ArePlacedTo = ArePlacedChains ground owner s first_of IsPlaced

  pub placed_none : (count : ℕ) (seen : List Bool) → seen ≡ replicate count false
      → ArePlacedTo 0 seen
  placed_none count seen clear = record {
    pages = λ i. [];
    chains = λ i below. absurd (omega (arith, below));
    only = λ i other below. absurd (omega (arith, below));
    placed = λ i below. absurd (omega (arith, below));
    seen = λ q. (
      λ is. absurd (unmarked count q (ap (λ (x : List Bool). slice_get x q) (sym clear) ∙ is)),
      λ of. (let below = of.below in absurd (omega (arith, below))),
    );
  }

  module _ (n : ℕ) (before seen : List Bool) (v : ArePlacedTo n before)
      (b : IsPlacedChain ground owner s (first_of n) (IsPlaced n) before seen) where
    abbrev pages_now : ℕ → List ℕ
    pages_now = changed v.pages n b.pages

    of_before : (q : ℕ) → IsOfChain v.pages n q → IsOfChain pages_now (n + 1) q
    of_before q of =
        let below = of.below in
        let d : of.bucket ≢ n = λ e. omega (arith, e, below) in
        record {
          bucket = of.bucket;
          below = omega (arith, below);
          among =
              subst (λ (x : List ℕ). Contains x q)
              (sym (changed_other v.pages n b.pages of.bucket d)) of.among;
        }

    pub placed_more : ArePlacedTo (n + 1) seen
    placed_more = record {
      pages = pages_now;
      chains = λ i below. elim (cases_eq i n) [
        | inl e ↦ subst (λ (x : List ℕ). IsChain ground owner s (first_of i) x)
            (sym (changed_here v.pages n b.pages i e))
            (subst (λ m. IsChain ground owner s (first_of m) b.pages) (sym e) b.chain)
        | inr d ↦ subst (λ (x : List ℕ). IsChain ground owner s (first_of i) x)
            (sym (changed_other v.pages n b.pages i d)) (v.chains i (omega (arith, below, d)))
      ];
      only = λ i other below chain. elim (cases_eq i n) [
        | inl e ↦ b.only other (subst (λ m. IsChain ground owner s (first_of m) other) e chain)
            ∙ sym (changed_here v.pages n b.pages i e)
        | inr d ↦ v.only i other (omega (arith, below, d)) chain
            ∙ sym (changed_other v.pages n b.pages i d)
      ];
      placed = λ i below. elim (cases_eq i n) [
        | inl e ↦ subst (λ (x : List ℕ). IsPlaced i x) (sym (changed_here v.pages n b.pages i e))
            (subst (λ m. IsPlaced m b.pages) (sym e) b.placed)
        | inr d ↦ subst (λ (x : List ℕ). IsPlaced i x) (sym (changed_other v.pages n b.pages i d))
            (v.placed i (omega (arith, below, d)))
      ];
      seen = λ q. (
        λ is. elim ((b.seen q).0 is) [
          | inl earlier ↦ of_before q ((v.seen q).0 earlier)
          | inr here ↦ record {
            bucket = n;
            below = omega arith;
            among =
                subst (λ (x : List ℕ). Contains x q)
                (sym (changed_here v.pages n b.pages n refl)) here;
          }
        ],
        λ of. (let below = of.below in elim (cases_eq of.bucket n) [
          | inl e ↦ (b.seen q).1 (inr (subst (λ (x : List ℕ). Contains x q)
              (changed_here v.pages n b.pages of.bucket e) of.among))
          | inr d ↦ (b.seen q).1 (inl ((v.seen q).1
              (record {
                bucket = of.bucket;
                below = omega (arith, below, d);
                among =
                    subst (λ (x : List ℕ). Contains x q)
                    (changed_other v.pages n b.pages of.bucket d) of.among;
              })))
        ]),
      );
    }

-- ---- where the chains of a file stand there

module _ (ground : Ground) (owner : ℕ) (s : Sheets) (first_of : ℕ → ℕ)
    (IsPlaced : ℕ → List ℕ → Type 0) (pages : ℕ → List ℕ) (end : ℕ)
    (chains : (i : ℕ) → i < end → IsChain ground owner s (first_of i) (pages i)) where
  found_there : (n i q : ℕ) (seen : List Bool)
      → (v : ArePlacedChains ground owner s first_of IsPlaced n seen) → i < n → i < end
      → Contains (v.pages i) q → Contains (pages i) q
  found_there n i q seen v less below c = subst (λ (x : List ℕ). Contains x q)
      (sym (v.only i (pages i) less (chains i below))) c

  -- the pages of the next chain aren't marked
  pub next_unseen : (n : ℕ) (seen : List Bool)
      → ((i j q : ℕ) → i < end → j < end → Contains (pages i) q → Contains (pages j) q → i ≡ j)
      → n < end → ArePlacedChains ground owner s first_of IsPlaced n seen → AreUnseen seen (pages n)
  next_unseen n seen once below v q c is =
      let of = (v.seen q).0 is in
      let less = of.below in
      let in_i : of.bucket < end = omega (arith, less, below) in
      let same = once of.bucket n q in_i below
      (found_there n of.bucket q seen v less in_i of.among) c in
      omega (arith, same, less)

  -- each page of them is marked in the end
  pub all_marked : (seen : List Bool) (q : ℕ)
      → ArePlacedChains ground owner s first_of IsPlaced end seen → IsOfChain pages end q
      → slice_get seen q ≡ Some true
  all_marked seen q v of = (v.seen q).1
      (record {
        bucket = of.bucket;
        below = of.below;
        among = subst (λ (x : List ℕ). Contains x q)
            (v.only of.bucket (pages of.bucket) of.below (chains of.bucket of.below)) of.among;
      })

-- ---- the loop

pub record IsVisiting {S : Type 0} (g : Ghosts S) (owner : ℕ) (first_of : ℕ → ℕ)
    (IsPlaced : Sheets → ℕ → List ℕ → Type 0) (start now : S) (count end : ℕ)
    (seen : List Bool) : Type 0 where
  pub reads : ReadsPages g start now
  pub faults : g.faults now ≡ g.faults start
  pub within : count ≤ end
  pub long : length seen ≡ (g.ground start).size
  pub so_far : IsTrue g.tells → ArePlacedChains (g.ground start) owner (g.working start) first_of
      (IsPlaced (g.working start)) count seen

module _ {S : Type 0} (g : Ghosts S) (owner : ℕ) (first_of : ℕ → ℕ)
    (IsPlaced : Sheets → ℕ → List ℕ → Type 0) (start : S) (end : ℕ) where
  pub visiting_first : (seen : List Bool) → seen ≡ replicate (g.ground start).size false
      → IsVisiting g owner first_of IsPlaced start start 0 end seen
  visiting_first seen none = record {
    reads = pages_read_themselves g start;
    faults = refl;
    within = omega arith;
    long = ap length none ∙ length-replicate (g.ground start).size false;
    so_far = λ told. placed_none (g.ground start) owner (g.working start) first_of
        (IsPlaced (g.working start)) (g.ground start).size seen none;
  }

  module _ (now : S) (n : ℕ) (before : List Bool)
      (i : IsVisiting g owner first_of IsPlaced start now n end before) where
    pub visiting_more : (after : S) (seen : List Bool) → n < end → ReadsPages g now after
        → g.faults after ≡ g.faults now → length seen ≡ (g.ground now).size
        → (IsTrue g.tells → IsPlacedChain (g.ground now) owner (g.working now) (first_of n)
        (IsPlaced (g.working now) n) before seen)
        → IsVisiting g owner first_of IsPlaced start after (n + 1) end seen
    visiting_more after seen below reads faults long next = record {
      reads = read_pages_joined g i.reads reads;
      faults = faults ∙ i.faults;
      within = omega (arith, below);
      long = long ∙ ap (λ (x : Ground). x.size) i.reads.keeps.ground;
      so_far = λ told. placed_more (g.ground start) owner (g.working start) first_of
          (IsPlaced (g.working start)) n before seen (i.so_far told)
          (subst (λ (x : Ground). IsPlacedChain x owner (g.working start) (first_of n)
          (IsPlaced (g.working start) n) before seen) i.reads.keeps.ground
          (subst (λ (x : Sheets). IsPlacedChain (g.ground now) owner x (first_of n)
          (IsPlaced x n) before seen) i.reads.working (next told)));
    }

    pub visiting_last : n ≡ end → IsTrue g.tells → ArePlacedChains (g.ground start) owner
        (g.working start) first_of (IsPlaced (g.working start)) end before
    visiting_last is told = subst (λ m. ArePlacedChains (g.ground start) owner
        (g.working start) first_of (IsPlaced (g.working start)) m before) is (i.so_far told)

    -- in a whole file the next chain is there, and isn't seen yet
    pub chain_there : (pages : ℕ → List ℕ)
        → ((j : ℕ) → j < end → IsChain (g.ground start) owner (g.working start) (first_of j)
        (pages j))
        → ((j k q : ℕ) → j < end → k < end → Contains (pages j) q → Contains (pages k) q → j ≡ k)
        → n < end → IsTrue g.tells → IsPlaced (g.working start) n (pages n)
        → HasPlacedChain g now owner (first_of n) (IsPlaced (g.working now) n) before
    chain_there pages chains once below told placed = record {
      told = told;
      pages = pages n;
      chain = subst (λ (x : Ground). IsChain x owner (g.working now) (first_of n) (pages n))
          (sym i.reads.keeps.ground)
          (subst (λ (x : Sheets). IsChain (g.ground start) owner x (first_of n) (pages n))
          (sym i.reads.working) (chains n below));
      unseen = next_unseen (g.ground start) owner (g.working start) first_of
          (IsPlaced (g.working start)) pages end chains n before once below (i.so_far told);
      placed = subst (λ (x : Sheets). IsPlaced x n (pages n)) (sym i.reads.working) placed;
    }

-- ---- one chain

-- its keys are those that were found
module _ (ground : Ground) (owner : ℕ) (s : Sheets) (at first : ℕ) (before : List Bool)
    (visits : Visits) (is : at ≡ first)
    (v : IsVisitedChain ground owner s first before visits) where
  at_first : (other : List ℕ) → IsChain ground owner s at other → IsChain ground owner s first other
  at_first other chain = subst (λ n. IsChain ground owner s n other) is chain

  pub placed_chain : (IsPlaced : List ℕ → Type 0) → IsPlaced v.pages
      → IsPlacedChain ground owner s at IsPlaced before visits.seen.items
  placed_chain IsPlaced placed = record {
    pages = v.pages;
    chain = subst (λ n. IsChain ground owner s n v.pages) (sym is) v.chain;
    only = λ other chain. v.only other (at_first other chain);
    placed = placed;
    seen = v.seen;
  }

  module _ (bucket_of : List ℕ → ℕ) (bucket : ℕ) where
    pub keys_have : list_all (λ key. bucket_of key.items == bucket) visits.keys.keys ≡ true
        → HaveBucket bucket_of s bucket v.pages
    keys_have all key body on = all_placed bucket_of bucket visits.keys.keys all key
        ((v.keys key).1 (body, on))

    pub keys_placed : (pages : List ℕ) → IsChain ground owner s at pages
        → HaveBucket bucket_of s bucket pages
        → list_all (λ key. bucket_of key.items == bucket) visits.keys.keys ≡ true
    keys_placed pages chain placed = placed_all bucket_of bucket visits.keys.keys (λ key has.
        let on = (v.keys key).0 has in
        placed key on.0 (subst (λ (x : List ℕ). IsOn s x key on.0)
        (sym (v.only pages (at_first pages chain))) on.1))

pub unseen_chain : {S : Type 0} (g : Ghosts S) (p : S) (owner at first : ℕ)
    (IsPlaced : List ℕ → Type 0) (seen : List Bool) → at ≡ first
    → HasPlacedChain g p owner at IsPlaced seen → HasUnseenChain g p owner first seen
unseen_chain g p owner at first IsPlaced seen is has = record {
  told = has.told;
  pages = has.pages;
  chain = subst (λ n. IsChain (g.ground p) owner (g.working p) n has.pages) is has.chain;
  unseen = has.unseen;
}
