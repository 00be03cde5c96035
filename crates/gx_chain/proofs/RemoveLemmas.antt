-- What taking an entry makes of a chain.
use Rattle.std.proofs.Common.{◌≡◌, ◌≢◌, ◌⊎◌, inl, inr, ℕ, ◌<◌, ◌≤◌, List, [], ◌∷◌, ◌++◌, length, set, sym, ap, subst, ◌∙◌}
use Rattle.std.specs.Prelude.{slice_get}
use Rattle.std.specs.List.{AllPairs, Contains, HoldsAt, remove}
use Rattle.std.proofs.lemmas.Bool.{cases_eq}
use Rattle.std.proofs.lemmas.List.Elements.{Contains-push, Contains-append_left, Contains-append_right}
use Rattle.gx_ports.specs.Sheets.{Sheets, Ground, bytes_at}
use Rattle.gx_ports.proofs.PageLemmas.{bytes_same}
use Rattle.gx_slots.specs.Entries.{Entry}
use Rattle.gx_slots.specs.Page.{IsEntryPage, entries_of, next_of}
use Rattle.gx_chain.specs.Chain.{entries_at, next_at, AreLinked, IsChain}
use Rattle.gx_chain.specs.Changes.{IsUnlinked, IsRemovedFrom}
use Rattle.gx_chain.specs.Walk.{IsDropped}
use Rattle.gx_chain.proofs.ListLemmas.{contains_here, contains_later, contains_none, contains_middle, pairs_last, pairs_front, pairs_across, without_to, without_from, without_once, without_off}
use Rattle.gx_chain.proofs.EntryLemmas.{less_from, entry_there}
use Rattle.gx_chain.proofs.ChainLemmas.{relink, linked_page}
use Rattle.gx_chain.proofs.PutLemmas.{page_distinct}
use Rattle.gx_chain.proofs.WriteLemmas.{slice_get_set, slice_get_set_same}

-- a chain from which a key was taken on the page
pub removed_there : (ground : Ground) (owner first : ℕ) (key : List ℕ) (s t : Sheets)
    (pages : List ℕ) → IsDropped ground owner first key s t pages
    → IsRemovedFrom ground owner first key s t pages
removed_there ground owner first key s t pages d = record {
  pages = pages;
  chain = d.chain;
  entries = d.entries;
  beside = record {
    owners = λ q off _. ap (λ (o : List ℕ). slice_get o q) d.owners;
    bytes = λ q past off _. d.beside q off;
    came = λ q c. inl c;
    left = λ q c. inl c;
  };
}

-- one page is passed over
linked_past : (s t : Sheets) (first : ℕ) (others : List ℕ) (q p : ℕ) (rest : List ℕ)
    → ((r : ℕ) → Contains others r → IsEntryPage (bytes_at s r)
    → IsEntryPage (bytes_at t r) × (next_at t r ≡ next_at s r))
    → IsEntryPage (bytes_at t q) → next_at t q ≡ next_at s p
    → ((r : ℕ) → Contains rest r → IsEntryPage (bytes_at s r)
    → IsEntryPage (bytes_at t r) × (next_at t r ≡ next_at s r))
    → AreLinked s first ((others ++ q ∷ []) ++ p ∷ rest)
    → AreLinked t first ((others ++ q ∷ []) ++ rest)
linked_past s t first [] q p rest each page next later l = (
  l.0,
  page,
  subst (λ n. AreLinked t n rest) (sym next) (relink s t (next_at s p) rest later l.2.2),
)
linked_past s t first (r ∷ rs) q p rest each page next later l =
    let here = each r (contains_here r rs) l.1 in (
      l.0,
      here.0,
      subst (λ n. AreLinked t n ((rs ++ q ∷ []) ++ rest)) (sym here.1)
          (linked_past s t (next_at s r) rs q p rest (λ x c. each x (contains_later r x rs c)) page
          next later l.2),
    )

module _ (ground : Ground) (owner first : ℕ) (key : List ℕ) (s t : Sheets)
    (pages others rest : List ℕ) (q p : ℕ) (chain : IsChain ground owner s first pages)
    (is : pages ≡ (others ++ q ∷ []) ++ p ∷ rest)
    (u : IsUnlinked ground q (next_at s p) p s t) (place : ℕ)
    (within : place < length (entries_at s p))
    (there : HoldsAt (λ entry. entry.key ≡ key) (entries_at s p) place)
    (alone : remove (entries_at s p) place ≡ []) where
  old_in : (r : ℕ) → Contains ((others ++ q ∷ []) ++ rest) r → Contains pages r
  old_in r c =
      subst (λ (x : List ℕ). Contains x r) (sym is) (without_to (others ++ q ∷ []) p rest r c)

  p_in : Contains pages p
  p_in = subst (λ (x : List ℕ). Contains x p) (sym is) (contains_middle (others ++ q ∷ []) p rest)

  still_in : (r : ℕ) → r ≢ p → Contains pages r → Contains ((others ++ q ∷ []) ++ rest) r
  still_in r d c =
      without_from (others ++ q ∷ []) p rest r d (subst (λ (x : List ℕ). Contains x r) is c)

  p_off : (r : ℕ) → Contains ((others ++ q ∷ []) ++ rest) r → r ≢ p
  p_off r c e =
      without_off (others ++ q ∷ []) p rest
      (subst (λ (x : List ℕ). AllPairs (λ a b. a ≢ b) x) is chain.fit.once)
      (subst (Contains ((others ++ q ∷ []) ++ rest)) e c)

  q_in : Contains ((others ++ q ∷ []) ++ rest) q
  q_in = Contains-append_left (others ++ q ∷ []) rest q (Contains-push others q)

  -- all pages past the table but two have the same bytes
  bytes_stay : (r : ℕ) → ground.tables ≤ r → r ≢ q → slice_get t.bytes r ≡ slice_get s.bytes r
  bytes_stay r past d = u.freed.bytes r past ∙ u.hung.others r d

  same_page : (r : ℕ) → Contains ((others ++ q ∷ []) ++ rest) r → r ≢ q
      → bytes_at t r ≡ bytes_at s r
  same_page r c d = bytes_same s t r (bytes_stay r (chain.fit.past r (old_in r c)).past d)

  hung_page : bytes_at t q ≡ bytes_at u.between q
  hung_page = bytes_same u.between t q (u.freed.bytes q (chain.fit.past q (old_in q q_in)).past)

  at_page : (r : ℕ) → Contains ((others ++ q ∷ []) ++ rest) r → entries_at t r ≡ entries_at s r
  at_page r c = elim (cases_eq r q) [
    | inl e ↦ ap (entries_at t) e ∙ ap entries_of hung_page ∙ u.hung.entries_are
        ∙ ap (entries_at s) (sym e)
    | inr d ↦ ap entries_of (same_page r c d)
  ]

  held : (body : List ℕ) × Contains (entries_at s p) (record { key = key; body = body })
  held = entry_there (entries_at s p) place key within there

  -- the page that is left out has the key alone
  only_key : (k b : List ℕ) → k ≢ key → Contains (entries_at s p) (record { key = k; body = b }) → ⊥
  only_key k b d c =
      contains_none (record { key = k; body = b })
      (subst (λ (x : List Entry). Contains x (record { key = k; body = b })) alone
      (less_from (entries_at s p) place key
      (page_distinct s p (linked_page s first pages p chain.linked p_in)) within there
      (record { key = k; body = b }) (d, c)))

  owners_are : (r : ℕ) → slice_get t.owners r ≡ slice_get (set s.owners p 0) r
  owners_are r =
      ap (λ (o : List ℕ). slice_get o r) u.freed.owners
      ∙ ap (λ (o : List ℕ). slice_get (set o p 0) r) u.hung.owners

  apart_q : (r : ℕ) → (Contains others r ⊎ Contains rest r) → r ≢ q
  apart_q r c e = elim c [
    | inl i ↦ pairs_last others q
        (pairs_front (others ++ q ∷ []) (p ∷ rest)
        (subst (λ (x : List ℕ). AllPairs (λ a b. a ≢ b) x) is chain.fit.once))
        (subst (Contains others) e i)
    | inr i ↦ pairs_across others q (p ∷ rest)
        (subst (λ (x : List ℕ). AllPairs (λ a b. a ≢ b) x) is chain.fit.once)
        (contains_later p q rest (subst (Contains rest) e i))
  ]

  left_chain : IsChain ground owner t first ((others ++ q ∷ []) ++ rest)
  left_chain = record {
    linked = linked_past s t first others q p rest
        (λ r c page. (let same = same_page r
        (Contains-append_left (others ++ q ∷ []) rest r (Contains-append_left others (q ∷ []) r c))
        (apart_q r (inl c)) in (subst IsEntryPage (sym same) page, ap next_of same)))
        (subst IsEntryPage (sym hung_page) u.hung.is_page) (ap next_of hung_page ∙ u.hung.next_is)
        (λ r c page. (let same = same_page r (Contains-append_right (others ++ q ∷ []) rest r c)
        (apart_q r (inr c)) in (subst IsEntryPage (sym same) page, ap next_of same)))
        (subst (AreLinked s first) is chain.linked);
    fit = record {
      once = without_once (others ++ q ∷ []) p rest
          (subst (λ (x : List ℕ). AllPairs (λ a b. a ≢ b) x) is chain.fit.once);
      past = λ r c. chain.fit.past r (old_in r c);
      owned =
          λ r c. owners_are r ∙ slice_get_set s.owners p r 0 (p_off r c)
          ∙ chain.fit.owned r (old_in r c);
      filled = λ r c d none. chain.fit.filled r (old_in r c) d (sym (at_page r c) ∙ none);
      apart = λ r r' k b b' c c' e e'. chain.fit.apart r r' k b b' (old_in r c) (old_in r' c')
          (subst (λ (x : List Entry). Contains x (record { key = k; body = b })) (at_page r c) e)
          (subst (λ (x : List Entry). Contains x (record { key = k; body = b' }))
          (at_page r' c') e');
    };
  }

  pub removed_page : IsRemovedFrom ground owner first key s t pages
  removed_page = record {
    pages = (others ++ q ∷ []) ++ rest;
    chain = left_chain;
    entries = λ k b. (
      λ on. (let here = subst (λ (x : List Entry). Contains x (record { key = k; body = b }))
          (at_page on.page on.among) on.here in (
            λ e. p_off on.page on.among
                (chain.fit.apart on.page p key b held.0 (old_in on.page on.among) p_in
                (subst (λ (x : List ℕ). Contains (entries_at s on.page)
                (record { key = x; body = b }))
                e here) held.1),
            record { page = on.page; among = old_in on.page on.among; here = here },
          )),
      λ o. elim (cases_eq o.1.page p) [
        | inl e ↦ absurd (only_key k b o.0
            (subst (λ n. Contains (entries_at s n) (record { key = k; body = b })) e o.1.here))
        | inr d ↦ (let among = still_in o.1.page d o.1.among in
            record {
              page = o.1.page;
              among = among;
              here = subst (λ (x : List Entry). Contains x (record { key = k; body = b }))
                  (sym (at_page o.1.page among)) o.1.here;
            })
      ],
    );
    beside = record {
      owners = λ r off _. owners_are r
          ∙ slice_get_set s.owners p r 0 (λ e. off (subst (Contains pages) (sym e) p_in));
      bytes = λ r past off _. bytes_stay r past
          (λ e. off (subst (Contains pages) (sym e) (old_in q q_in)));
      came = λ r c. inl (old_in r c);
      left = λ r c. elim (cases_eq r p) [
        | inl e ↦ inr (ap (slice_get t.owners) e ∙ owners_are p
            ∙ slice_get_set_same s.owners p 0 owner (chain.fit.owned p p_in))
        | inr d ↦ inl (still_in r d c)
      ];
    };
  }
