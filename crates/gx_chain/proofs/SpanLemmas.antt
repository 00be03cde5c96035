-- The entries inside a span on the chains of buckets, one chain after the other.
use Rattle.std.proofs.Common.{◌≡◌, ◌↔◌, ℕ, suc, ◌+◌, ◌-◌, ◌<◌, ◌≤◌, true, List, [], ◌++◌, Some, sym, ap, subst, ◌∙◌, arith}
use Rattle.std.specs.Prelude.{IsTrue}
use Rattle.std.specs.FinMap.{get}
use Rattle.std.specs.List.{Contains}
use Rattle.std.proofs.lemmas.List.Concat.{flat_map-append}
use Rattle.gx_values.specs.Keys.{is_inside}
use Rattle.gx_ports.specs.declared.leaves.Entry.{Entry as LeafEntry}
use Rattle.gx_ports.specs.declared.page_view.PageView.{Ghosts}
use Rattle.gx_ports.specs.LeafMaps.{LeafMap, selected}
use Rattle.gx_ports.specs.PageCalls.{ReadsPages}
use Rattle.gx_ports.specs.Sheets.{Sheets, Ground}
use Rattle.gx_ports.proofs.PageLemmas.{read_pages_joined}
use Rattle.gx_chain.specs.Chain.{entries_at, IsChain, IsOn}
use Rattle.gx_chain.specs.Chains.{IsOfChain, IsOnChain, pages_below, AreGathered}
use Rattle.gx_chain.specs.Collect.{inside_of, inside_on, ArePagesApart, HasAppended}
use Rattle.gx_chain.proofs.ChainLemmas.{linked_page}
use Rattle.gx_chain.proofs.ChainsLemmas.{below_from, below_to, once_below}
use Rattle.gx_chain.proofs.CollectLemmas.{collected}
use Rattle.gx_chain.proofs.SelectLemmas.{pages_selected}

-- ---- the chains of buckets

-- chains of one owner, each with keys of its bucket, of which no two have a page in common
pub record AreBucketChains (ground : Ground) (owner : ℕ) (s : Sheets) (first_of : ℕ
    → ℕ) (bucket_of : List ℕ → ℕ) (count : ℕ)
    (pages : ℕ → List ℕ) : Type 0 where
  pub chains : (bucket : ℕ) → bucket < count
      → IsChain ground owner s (first_of bucket) (pages bucket)
  pub placed : (bucket : ℕ) (key body : List ℕ) → bucket < count → IsOn s (pages bucket) key body
      → bucket_of key ≡ bucket
  pub once : (bucket other page : ℕ) → bucket < count → other < count → Contains (pages bucket) page
      → Contains (pages other) page
      → bucket ≡ other

module _ (ground : Ground) (owner : ℕ) (s : Sheets) (first_of : ℕ → ℕ) (bucket_of : List ℕ
    → ℕ) (count : ℕ) (pages : ℕ → List ℕ)
    (b : AreBucketChains ground owner s first_of bucket_of count pages) where
  pub across : (p q : ℕ) (k c d : List ℕ) → Contains (pages_below pages count) p
      → Contains (pages_below pages count) q
      → Contains (entries_at s p) (record { key = k; body = c })
      → Contains (entries_at s q) (record { key = k; body = d }) → p ≡ q
  across p q k c d in_p in_q at_p at_q =
      let x = below_to pages count p in_p in
      let y = below_to pages count q in_q in
      let same : y.bucket ≡ x.bucket =
      sym (b.placed y.bucket k d y.below (record { page = q; among = y.among; here = at_q }))
      ∙ b.placed x.bucket k c x.below (record { page = p; among = x.among; here = at_p }) in
      (b.chains x.bucket x.below).fit.apart p q k c d x.among
      (subst (λ n. Contains (pages n) q) same y.among) at_p at_q

  pub below_apart : ArePagesApart s (pages_below pages count)
  below_apart = record {
    once = once_below pages count (λ i less. (b.chains i less).fit.once) b.once;
    each = λ q c. (let r = below_to pages count q c in
        linked_page s (first_of r.bucket) (pages r.bucket) q
        (b.chains r.bucket r.below).linked r.among);
    apart = across;
  }

-- ---- from one on

-- the chains from one on
abbrev pub chains_from : (ℕ → List ℕ) → ℕ → ℕ → List ℕ
chains_from pages from i = pages (from + i)

-- the pages of the chains from one on, up to another
abbrev pub pages_between : (ℕ → List ℕ) → ℕ → ℕ → List ℕ
pages_between pages from end = pages_below (chains_from pages from) (end - from)

-- none
inside_none : (s : Sheets) (lo hi : List ℕ) (pages : ℕ → List ℕ) (from : ℕ)
    → [] ≡ inside_on s lo hi (pages_between pages from from)
inside_none s lo hi pages from =
    let zero : 0 ≡ from - from = omega arith in
    ap (λ n. inside_on s lo hi (pages_below (chains_from pages from) n)) zero

inside_joined : (s : Sheets) (lo hi : List ℕ) (pages : ℕ → List ℕ) (n : ℕ) (found : List LeafEntry)
    → found ≡ inside_on s lo hi (pages_below pages n)
    → found ++ inside_on s lo hi (pages n) ≡ inside_on s lo hi (pages_below pages (suc n))
inside_joined s lo hi pages n found is =
    ap (λ (x : List LeafEntry). x ++ inside_on s lo hi (pages n)) is
    ∙ sym (flat_map-append (λ (page : ℕ). inside_of lo hi (entries_at s page)) (pages_below pages n)
    (pages n))

-- one chain more
inside_more : (s : Sheets) (lo hi : List ℕ) (pages : ℕ
    → List ℕ) (from n : ℕ) (found : List LeafEntry) → from ≤ n
    → found ≡ inside_on s lo hi (pages_between pages from n)
    → found ++ inside_on s lo hi (pages n) ≡ inside_on s lo hi (pages_between pages from (n + 1))
inside_more s lo hi pages from n found low is =
    let here : from + (n - from) ≡ n = omega (arith, low) in
    let same : suc (n - from) ≡ n + 1 - from = omega (arith, low) in
    subst (λ (m : ℕ). found ++ inside_on s lo hi (pages m) ≡ inside_on s lo hi
    (pages_between pages from (n + 1))) here
    (subst (λ (m : ℕ). found ++ inside_on s lo hi (pages (from + (n - from))) ≡ inside_on s lo hi
    (pages_below (chains_from pages from) m))
    same (inside_joined s lo hi (chains_from pages from) (n - from) found is))

-- what chains from one on gave
pub record IsGathering {S : Type 0} (g : Ghosts S) (owner : ℕ) (first_of : ℕ
    → ℕ) (count : ℕ) (lo hi : List ℕ) (start now : S)
    (found : List LeafEntry) (from bucket : ℕ) : Type 0 where
  pub reads : ReadsPages g start now
  pub faults : g.faults now ≡ g.faults start
  pub low : from ≤ bucket
  pub within : bucket ≤ count
  pub found_is : IsTrue g.tells → (pages : ℕ → List ℕ)
      → ((i : ℕ) → i < count → IsChain (g.ground start) owner (g.working start) (first_of i)
      (pages i))
      → found ≡ inside_on (g.working start) lo hi (pages_between pages from bucket)

module _ {S : Type 0} (g : Ghosts S) (owner : ℕ) (first_of : ℕ → ℕ) (count : ℕ) (lo hi : List ℕ)
    (start : S) (from : ℕ) where
  pub gathering_first : (now : S) (found : List LeafEntry) → ReadsPages g start now
      → g.faults now ≡ g.faults start → from ≤ count
      → found ≡ [] → IsGathering g owner first_of count lo hi start now found from from
  gathering_first now found reads faults within none = record {
    reads = reads;
    faults = faults;
    low = omega arith;
    within = within;
    found_is = λ told pages chains. none ∙ inside_none (g.working start) lo hi pages from;
  }

  -- the next chain is there, also after calls that read
  pub chain_now : (now : S) (n : ℕ) (pages : List ℕ) → ReadsPages g start now
      → IsChain (g.ground start) owner (g.working start) (first_of n) pages
      → IsChain (g.ground now) owner (g.working now) (first_of n) pages
  chain_now now n pages reads chain =
      subst (λ (x : Ground). IsChain x owner (g.working now) (first_of n) pages)
      (sym reads.keeps.ground)
      (subst (λ (x : Sheets). IsChain (g.ground start) owner x (first_of n) pages)
      (sym reads.working) chain)

  pub gathering_more : (now after : S) (before found : List LeafEntry) (n : ℕ)
      → IsGathering g owner first_of count lo hi start now before from n → n < count
      → ReadsPages g now after
      → g.faults after ≡ g.faults now
      → (IsTrue g.tells → (all : List ℕ)
      → IsChain (g.ground now) owner (g.working now) (first_of n) all
      → found ≡ before ++ inside_on (g.working now) lo hi all)
      → IsGathering g owner first_of count lo hi start after found from (n + 1)
  gathering_more now after before found n i below reads faults added = record {
    reads = read_pages_joined g i.reads reads;
    faults = faults ∙ i.faults;
    low = (let low = i.low in omega (arith, low));
    within = omega (arith, below);
    found_is = λ told pages chains.
        added told (pages n) (chain_now now n (pages n) i.reads (chains n below))
        ∙ ap (λ (x : Sheets). before ++ inside_on x lo hi (pages n)) i.reads.working
        ∙ inside_more (g.working start) lo hi pages from n before i.low
        (i.found_is told pages chains);
  }

-- ---- all entries inside a span

module _ (ground : Ground) (owner : ℕ) (s : Sheets) (first_of : ℕ → ℕ) (bucket_of : List ℕ
    → ℕ) (count : ℕ) (pages : ℕ → List ℕ)
    (b : AreBucketChains ground owner s first_of bucket_of count pages) (from end : ℕ)
    (low : from ≤ end) (high : end ≤ count) where
  abbrev those : List ℕ
  those = pages_between pages from end

  in_count : (i : ℕ) → i < end - from → from + i < count
  in_count i less = omega (arith, less, low, high)

  between_to : (q : ℕ) → Contains those q → IsOfChain pages count q
  between_to q c = let r = below_to (chains_from pages from) (end - from) q c in
      record { bucket = from + r.bucket; below = in_count r.bucket r.below; among = r.among }

  between_apart : ArePagesApart s those
  between_apart = record {
    once = once_below (chains_from pages from) (end - from)
        (λ i less. (b.chains (from + i) (in_count i less)).fit.once)
        (λ i j q in_i in_j at_i at_j. (let same =
        b.once (from + i) (from + j) q (in_count i in_i) (in_count j in_j) at_i at_j in
        omega (arith, same)));
    each = λ q c. (let r = between_to q c in
        linked_page s (first_of r.bucket) (pages r.bucket) q (b.chains r.bucket r.below).linked
        r.among);
    apart = λ p q k c d in_p in_q at_p at_q. (let x = between_to p in_p in
        let y = between_to q in_q in
        across ground owner s first_of bucket_of count pages b p q k c d
        (below_from pages count x.bucket p x.below x.among)
        (below_from pages count y.bucket q y.below y.among) at_p at_q);
  }

  -- they stand there, where the buckets of the keys inside it are among them
  module _ (lo hi : List ℕ) (map : LeafMap) (map_is : (k c : List ℕ)
      → (get map k ≡ Some c) ↔ IsOnChain s pages count k c)
      (inside : (key : List ℕ) → is_inside lo hi key ≡ true
      → (from ≤ bucket_of key) × (bucket_of key < end)) where
    between_map : (key body : List ℕ) → is_inside lo hi key ≡ true → (get map key ≡ Some body)
        ↔ IsOn s those key body
    between_map key body in_span = (
      λ is. (let on = (map_is key body).0 is in
          let placed = b.placed on.bucket key body on.below on.on in
          let least = (inside key in_span).0 in
          let most = (inside key in_span).1 in
          let at : from + (on.bucket - from) ≡ on.bucket = omega (arith, least, placed) in
          record {
            page = on.on.page;
            among = below_from (chains_from pages from) (end - from) (on.bucket - from) on.on.page
                (omega (arith, least, most, placed))
                (subst (λ i. Contains (pages i) on.on.page) (sym at) on.on.among);
            here = on.on.here;
          }),
      λ on. (let r = between_to on.page on.among in
          (map_is key body).1
          (record {
            bucket = r.bucket;
            below = r.below;
            on = record { page = on.page; among = r.among; here = on.here };
          })),
    )

    pub between_gathered : (found : List LeafEntry) → found ≡ inside_on s lo hi those
        → AreGathered s lo hi map found
    between_gathered found is =
        record { pages = those; apart = between_apart; found_is = is; map_is = between_map }

-- in the order of their keys
pub gathered_selected : (s : Sheets) (lo hi : List ℕ) (map : LeafMap)
    (found old new : List LeafEntry) → AreGathered s lo hi map found
    → HasAppended found old new → new ≡ old ++ selected lo hi map
gathered_selected s lo hi map found old new g has =
    has.appended
    ∙ ap (λ (x : List LeafEntry). old ++ x)
    (sym (pages_selected s g.pages map lo hi has.more g.map_is
    (collected s g.pages lo hi found has.more g.apart g.found_is has.those has.in_order)))
