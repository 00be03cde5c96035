-- The entries of a chain inside a span: which they are, that no key stands twice, and how they are
-- put in order.
use Rattle.std.proofs.Common.{◌≡◌, ◌≢◌, inl, inr, ℕ, suc, ◌+◌, ◌<◌, true, false, cond, List, [], ◌∷◌, ◌++◌, length, get_or, map, refl, sym, ap, subst, ◌∙◌, arith}
use Rattle.std.specs.Prelude.{filter}
use Rattle.std.specs.List.{AllPairs, Contains, IsDistinct}
use Rattle.std.specs.List.Sorted.{IsPermutation, IsSortedBy, IsStrictlySortedBy}
use Rattle.std.specs.declared.cmp.Ordering.{Ordering}
use Rattle.std.specs.declared.cmp.Ordering.TheVariants.{Less, Equal, Greater}
use Rattle.std.specs.Ordering.{is_lt, is_eq, eq_by_cmp, ordering_reverse}
use Rattle.std.specs.Cmp.{eq_by_cmp_equiv}
use Rattle.std.specs.Cmp.Lexicographic.{nat_list_cmp_total}
use Rattle.std.proofs.lemmas.List.{map-append, get_or-map, length-map}
use Rattle.std.proofs.lemmas.List.Elements.{All-append, All-map, All-from_recursion, recursion_from_All, Contains-append_cases, Contains-append_left, Contains-append_right, Contains-get_or}
use Rattle.std.proofs.lemmas.List.Kept.{AllPairs-filter}
use Rattle.std.proofs.lemmas.List.Sorted.{IsPermutation-map, IsPermutation-sym, Contains-permutation}
use Rattle.std.proofs.lemmas.Map.Keys.{IsDistinct-IsPermutation, apart_from_distinct, sorted_from_all_adjacent}
use Rattle.gx_values.specs.Keys.{is_inside}
use Rattle.gx_ports.specs.declared.leaves.Entry.{Entry as LeafEntry}
use Rattle.gx_ports.specs.Sheets.{Sheets, Ground}
use Rattle.gx_ports.specs.Keyed.{key_cmp}
use Rattle.gx_ports.proofs.KeyLemmas.{other_key}
use Rattle.gx_slots.specs.Entries.{Entry, AreDistinct}
use Rattle.gx_chain.specs.Chain.{entries_at, IsChain, IsOn}
use Rattle.gx_chain.specs.Collect.{leaf_entry, inside_of, inside_on, entry_cmp, ArePagesApart, AreCollected}
use Rattle.gx_chain.proofs.ChainLemmas.{linked_page}
use Rattle.gx_chain.proofs.ListLemmas.{contains_here, contains_later, contains_cases, contains_none, pairs_head, pairs_tail}
use Rattle.gx_chain.proofs.PutLemmas.{page_distinct}

abbrev page_entry : List ℕ → List ℕ → Entry
page_entry k b = record { key = k; body = b }

abbrev listed : List ℕ → List ℕ → LeafEntry
listed k b = record { key = k; body = b }

abbrev key_of : LeafEntry → List ℕ
key_of e = e.key

-- ---- which entries they are

module _ (lo hi : List ℕ) where
  passing : List Entry → List Entry
  passing es = filter (λ (e : Entry). is_inside lo hi e.key) es

  -- those of a page
  to_page : (es : List Entry) (k b : List ℕ) → Contains (inside_of lo hi es) (listed k b)
      → (is_inside lo hi k ≡ true) × Contains es (page_entry k b)
  to_page [] k b c = absurd (contains_none (listed k b) c)
  to_page (e ∷ es) k b c = elim (is_inside lo hi e.key) as (λ t. is_inside lo hi e.key ≡ t
      → Contains (map leaf_entry (cond t (e ∷ filter (λ (x : Entry). is_inside lo hi x.key) es)
      (filter (λ (x : Entry). is_inside lo hi x.key) es))) (listed k b)
      → (is_inside lo hi k ≡ true) × Contains (e ∷ es) (page_entry k b)) [
        | true ↦ λ is at. elim (contains_cases (leaf_entry e) (listed k b)
            (inside_of lo hi es) at) [
              | inl same ↦
                  (let this : e ≡ page_entry k b = λ i. record {
                    key = ap (λ (x : LeafEntry). x.key) same i;
                    body = ap (λ (x : LeafEntry). x.body) same i;
                  } in (
                    subst (λ (x : Entry). is_inside lo hi x.key ≡ true) this is,
                    subst (λ (x : Entry). Contains (x ∷ es) (page_entry k b))
                        (sym this) (contains_here (page_entry k b) es),
                  ))
              | inr later ↦ (let r = to_page es k b later in
                  (r.0, contains_later e (page_entry k b) es r.1))
            ]
        | false ↦ λ _ at. (let r = to_page es k b at in
            (r.0, contains_later e (page_entry k b) es r.1))
      ] refl c

  from_page : (es : List Entry) (k b : List ℕ) → is_inside lo hi k ≡ true
      → Contains es (page_entry k b) → Contains (inside_of lo hi es) (listed k b)
  from_page [] k b is c = absurd (contains_none (page_entry k b) c)
  from_page (e ∷ es) k b is c = elim (contains_cases e (page_entry k b) es c) [
    | inl same ↦ (let inside : is_inside lo hi e.key ≡ true =
        ap (λ (x : Entry). is_inside lo hi x.key) same ∙ is in
        subst (λ t. Contains (map leaf_entry (cond t
        (e ∷ filter (λ (x : Entry). is_inside lo hi x.key) es)
        (filter (λ (x : Entry). is_inside lo hi x.key) es))) (listed k b)) (sym inside)
        (subst (λ (x : Entry). Contains (leaf_entry x ∷ inside_of lo hi es) (listed k b)) (sym same)
        (contains_here (listed k b) (inside_of lo hi es))))
    | inr later ↦ (let rest = from_page es k b is later in
        elim (is_inside lo hi e.key) as
        (λ t. Contains
        (map leaf_entry (cond t (e ∷ filter (λ (x : Entry). is_inside lo hi x.key) es)
        (filter (λ (x : Entry). is_inside lo hi x.key) es)))
        (listed k b)) [
          | true ↦ contains_later (leaf_entry e) (listed k b) (inside_of lo hi es) rest
          | false ↦ rest
        ])
  ]

  -- those of pages
  module _ (s : Sheets) where
    to_pages : (pages : List ℕ) (k b : List ℕ) → Contains (inside_on s lo hi pages) (listed k b)
        → (is_inside lo hi k ≡ true) × IsOn s pages k b
    to_pages [] k b c = absurd (contains_none (listed k b) c)
    to_pages (p ∷ ps) k b c =
        elim (Contains-append_cases (inside_of lo hi (entries_at s p)) (inside_on s lo hi ps)
        (listed k b) c) [
          | inl here ↦ (let r = to_page (entries_at s p) k b here in
              (r.0, record { page = p; among = contains_here p ps; here = r.1 }))
          | inr later ↦
              (let r = to_pages ps k b later in (
                r.0,
                record {
                  page = r.1.page;
                  among = contains_later p r.1.page ps r.1.among;
                  here = r.1.here;
                },
              ))
        ]

    from_pages : (pages : List ℕ) (k b : List ℕ) (q : ℕ) → is_inside lo hi k ≡ true
        → Contains pages q → Contains (entries_at s q) (page_entry k b)
        → Contains (inside_on s lo hi pages) (listed k b)
    from_pages [] k b q is among at = absurd (contains_none q among)
    from_pages (p ∷ ps) k b q is among at = elim (contains_cases p q ps among) [
      | inl same ↦ Contains-append_left (inside_of lo hi (entries_at s p)) (inside_on s lo hi ps)
          (listed k b)
          (from_page (entries_at s p) k b is
          (subst (λ n. Contains (entries_at s n) (page_entry k b)) (sym same) at))
      | inr later ↦ Contains-append_right (inside_of lo hi (entries_at s p)) (inside_on s lo hi ps)
          (listed k b)
          (from_pages ps k b q is later at)
    ]

-- ---- no key stands twice

abbrev Apart : List (List ℕ) → Type 0
Apart = IsDistinct (eq_by_cmp key_cmp)

keys_apart : (es : List Entry) → AllPairs (λ a b. a.key ≢ b.key) es
    → Apart (map key_of (map leaf_entry es))
unfolding IsDistinct
keys_apart [] once = tt
keys_apart (e ∷ es) once = (
  recursion_from_All (λ k. eq_by_cmp key_cmp e.key k ≡ false) (map key_of (map leaf_entry es))
      (All-map (λ k. eq_by_cmp key_cmp e.key k ≡ false) key_of (map leaf_entry es)
      (All-map (λ (x : LeafEntry). eq_by_cmp key_cmp e.key x.key ≡ false) leaf_entry es
      (λ i d below. other_key e.key (get_or es i d).key
      (once 0 (suc i) d (omega arith) (omega (arith, below)))))),
  keys_apart es
      (λ i j d less below. once (suc i) (suc j) d (omega (arith, less)) (omega (arith, below))),
)

apart_joined : (ks qs : List (List ℕ)) → Apart ks → Apart qs
    → ((k : List ℕ) → Contains ks k → Contains qs k → ⊥) → Apart (ks ++ qs)
unfolding IsDistinct
apart_joined [] qs a b off = b
apart_joined (k ∷ ks) qs a b off = (
  recursion_from_All (λ q. eq_by_cmp key_cmp k q ≡ false) (ks ++ qs)
      (All-append (λ q. eq_by_cmp key_cmp k q ≡ false) ks qs
      (All-from_recursion (λ q. eq_by_cmp key_cmp k q ≡ false) ks a.0)
      (λ i d below. other_key k (get_or qs i d)
      (λ same. off k (contains_here k ks)
      (subst (Contains qs) (sym same) (Contains-get_or qs i d below))))),
  apart_joined ks qs a.1 b (λ q in_ks in_qs. off q (contains_later k q ks in_ks) in_qs),
)

-- the entry of a key
key_from : (es : List LeafEntry) (k : List ℕ) → Contains (map key_of es) k
    → (b : List ℕ) × Contains es (listed k b)
key_from [] k c = absurd (contains_none k c)
key_from (e ∷ es) k c = elim (contains_cases e.key k (map key_of es) c) [
  | inl same ↦ (let this : e ≡ listed k e.body = λ i. record { key = same i; body = e.body } in (
    e.body,
    subst (λ (x : LeafEntry). Contains (x ∷ es) (listed k e.body)) (sym this)
        (contains_here (listed k e.body) es),
  ))
  | inr later ↦ (let r = key_from es k later in (r.0, contains_later e (listed k r.0) es r.1))
]

module _ (lo hi : List ℕ) (s : Sheets) where
  pages_apart : (pages : List ℕ) → AllPairs (λ a b. a ≢ b) pages
      → ((p : ℕ) → Contains pages p → AreDistinct (entries_at s p))
      → ((p q : ℕ) (k b c : List ℕ) → Contains pages p → Contains pages q
      → Contains (entries_at s p) (page_entry k b) → Contains (entries_at s q) (page_entry k c)
      → p ≡ q)
      → Apart (map key_of (inside_on s lo hi pages))
  unfolding IsDistinct
  pages_apart [] once each across = tt
  pages_apart (p ∷ ps) once each across =
      subst Apart
      (sym (map-append key_of (inside_of lo hi (entries_at s p)) (inside_on s lo hi ps)))
      (apart_joined (map key_of (inside_of lo hi (entries_at s p)))
      (map key_of (inside_on s lo hi ps))
      (keys_apart (filter (λ (e : Entry). is_inside lo hi e.key) (entries_at s p))
      (AllPairs-filter (λ (a b : Entry). a.key ≢ b.key) (λ (e : Entry). is_inside lo hi e.key)
      (entries_at s p) (each p (contains_here p ps))))
      (pages_apart ps (pairs_tail p ps once) (λ q c. each q (contains_later p q ps c))
      (λ q r k b c in_q in_r. across q r k b c (contains_later p q ps in_q)
      (contains_later p r ps in_r)))
      (λ k here later.
      let one = key_from (inside_of lo hi (entries_at s p)) k here in
      let other = key_from (inside_on s lo hi ps) k later in
      let at = to_page lo hi (entries_at s p) k one.0 one.1 in
      let on = to_pages lo hi s ps k other.0 other.1 in
      let same = across p on.1.page k one.0 other.0 (contains_here p ps)
      (contains_later p on.1.page ps on.1.among) at.1 on.1.here in
      pairs_head p ps once (subst (Contains ps) (sym same) on.1.among)))

-- ---- put in order

before : (r t : Ordering) → t ≡ ordering_reverse r → is_lt t ≡ false → is_eq r ≡ false → r ≡ Less
before Less t e up apart = refl
before Equal t e up apart = let clash : true ≡ false = apart in cc
before Greater t e up apart = let clash : true ≡ false = sym (ap is_lt e) ∙ up in cc

ascends : (es : List LeafEntry) → IsSortedBy (λ a b. is_lt (entry_cmp a b)) es
    → Apart (map key_of es) → IsStrictlySortedBy key_cmp (map key_of es)
ascends es up apart = sorted_from_all_adjacent nat_list_cmp_total (map key_of es) [] (λ i below.
    let long = length-map es key_of in
    let within : i + 1 < length es = omega (arith, long, below) in
    let low = get_or-map key_of es i (listed [] []) [] (omega (arith, within)) in
    let high = get_or-map key_of es (i + 1) (listed [] []) [] within in
    let r = key_cmp (get_or (map key_of es) i []) (get_or (map key_of es) (i + 1) []) in
    let t = key_cmp (get_or (map key_of es) (i + 1) []) (get_or (map key_of es) i []) in
    let rising : is_lt t ≡ false =
    ap is_lt (ap (λ x. key_cmp x (get_or (map key_of es) i [])) high
    ∙ ap (key_cmp (get_or es (i + 1) (listed [] [])).key) low)
    ∙ up i (listed [] []) (omega arith) within in
    before r t
    (nat_list_cmp_total.antisymm (get_or (map key_of es) (i + 1) []) (get_or (map key_of es) i []))
    rising
    (apart_from_distinct (eq_by_cmp key_cmp) (map key_of es) i (i + 1) [] apart
    (omega arith) below))

pub chain_apart : (ground : Ground) (owner first : ℕ) (s : Sheets) (pages : List ℕ)
    → IsChain ground owner s first pages → ArePagesApart s pages
chain_apart ground owner first s pages chain = record {
  once = chain.fit.once;
  each = λ p c. linked_page s first pages p chain.linked c;
  apart = chain.fit.apart;
}

-- what was found on pages, put in order
pub collected : (s : Sheets) (pages : List ℕ) (lo hi : List ℕ) (found entries : List LeafEntry)
    → ArePagesApart s pages → found ≡ inside_on s lo hi pages → IsPermutation found entries
    → IsSortedBy (λ a b. is_lt (entry_cmp a b)) entries
    → AreCollected s lo hi pages entries
collected s pages lo hi found entries h is moved up =
    let those : IsPermutation (inside_on s lo hi pages) entries =
    subst (λ (x : List LeafEntry). IsPermutation x entries) is moved in
    let apart = pages_apart lo hi s pages h.once (λ p c. page_distinct s p (h.each p c)) h.apart in
    record {
      ascending = ascends entries up
          (IsDistinct-IsPermutation (eq_by_cmp key_cmp) (eq_by_cmp_equiv nat_list_cmp_total).symm
          (map key_of (inside_on s lo hi pages))
          (map key_of entries) (IsPermutation-map key_of (inside_on s lo hi pages) entries those)
          apart);
      those = λ k b. (
        λ c. to_pages lo hi s pages k b
            (Contains-permutation entries (inside_on s lo hi pages) (listed k b)
            (IsPermutation-sym (inside_on s lo hi pages) entries those) c),
        λ on. Contains-permutation (inside_on s lo hi pages) entries (listed k b) those
            (from_pages lo hi s pages k b on.1.page on.0 on.1.among on.1.here),
      );
    }
