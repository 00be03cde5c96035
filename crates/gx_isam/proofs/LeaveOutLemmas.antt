-- The first page of a chain is left out.
use Rattle.std.proofs.Common.{◌≡◌, ◌≢◌, ◌↔◌, inl, inr, ℕ, ◌<◌, ◌≤◌, List, [], ◌∷◌, set, Some, sym, ap, subst, ◌∙◌, arith}
use Rattle.std.specs.Prelude.{slice_get}
use Rattle.std.specs.List.{Contains}
use Rattle.std.proofs.lemmas.Bool.{cases_eq}
use Rattle.std.proofs.lemmas.Option.{same_Some}
use Rattle.gx_bytes.specs.declared.page.TheConstants.{NONE}
use Rattle.gx_ports.specs.declared.pages.Place.{Place}
use Rattle.gx_ports.specs.LeafMaps.{LeafMap}
use Rattle.gx_ports.specs.Sheets.{Sheets, Ground, bytes_at}
use Rattle.gx_ports.proofs.PageLemmas.{bytes_same}
use Rattle.gx_slots.specs.Entries.{Entry}
use Rattle.gx_slots.specs.Page.{entries_of}
use Rattle.gx_chain.specs.Chain.{entries_at, next_at, IsChain, IsOn}
use Rattle.gx_chain.specs.Changes.{StaysBeside}
use Rattle.gx_chain.proofs.ChainLemmas.{same_on, same_on_back, same_chain}
use Rattle.gx_chain.proofs.ListLemmas.{contains_here, contains_later, contains_cases, contains_none, pairs_head, pairs_tail}
use Rattle.gx_chain.proofs.WriteLemmas.{slice_get_set, slice_get_set_same}
use Rattle.gx_isam_index.specs.Index.{IsIndexPage, bucket_count, first_page_of, separators_of}
use Rattle.gx_isam.specs.Isam.{IsIsam}
use Rattle.gx_isam.specs.Change.{IsLeftOut, IsLeftOutIfEmpty}
use Rattle.gx_isam.proofs.BucketLemmas.{root_off, IsBucketChanged}

-- a chain that begins at a page
pub headed : (ground : Ground) (owner : ℕ) (s : Sheets) (first : ℕ) (pages : List ℕ)
    → IsChain ground owner s first pages → first ≢ NONE
    → (rest : List ℕ) × (pages ≡ first ∷ rest)
headed ground owner s first [] chain some = absurd (some chain.linked)
headed ground owner s first (q ∷ qs) chain some = (qs, ap (λ n. n ∷ qs) (sym chain.linked.0))

-- a chain without its first page
pub tail_chain : (ground : Ground) (owner : ℕ) (s : Sheets) (first : ℕ) (rest : List ℕ)
    → IsChain ground owner s first (first ∷ rest)
    → IsChain ground owner s (next_at s first) rest
tail_chain ground owner s first rest chain = record {
  linked = chain.linked.2;
  fit = record {
    once = pairs_tail first rest chain.fit.once;
    past = λ q c. chain.fit.past q (contains_later first q rest c);
    owned = λ q c. chain.fit.owned q (contains_later first q rest c);
    filled = λ q c d. chain.fit.filled q (contains_later first q rest c)
        (λ e. pairs_head first rest chain.fit.once (subst (Contains rest) e c));
    apart = λ p q k b c in_p in_q. chain.fit.apart p q k b c (contains_later first p rest in_p)
        (contains_later first q rest in_q);
  };
}

-- a chain of a bucket was changed, and its first page left out where it has no entry
module _ (ground : Ground) (place : Place) (s t u : Sheets) (map : LeafMap) (some : 1 ≤ place.owner)
    (past : ground.tables ≤ place.root)
    (h : IsIsam ground place s map) (j : ℕ) (below : j < bucket_count (bytes_at s place.root))
    (first : ℕ) (first_is : first_page_of (bytes_at s place.root) j ≡ first)
    (first_some : first ≢ NONE)
    (pages : List ℕ)
    (chain : IsChain ground place.owner t first pages)
    (beside : StaysBeside ground s t (h.pages j) pages) where
  abbrev root : ℕ
  root = place.root

  off_old : Contains (h.pages j) root → ⊥
  off_old c = root_off ground place.owner root s h.pages h.buckets h.index j below c

  off_new : Contains pages root → ⊥
  off_new c = elim (beside.came root c) [
    | inl old ↦ off_old old
    | inr free ↦ (let none : place.owner ≡ 0 = same_Some place.owner 0 (sym h.root ∙ free) in
        omega (arith, none, some))
  ]

  root_same : bytes_at t root ≡ bytes_at s root
  root_same = bytes_same s t root (beside.bytes root past off_old off_new)

  root_owned : slice_get t.owners root ≡ Some place.owner
  root_owned = beside.owners root off_old off_new ∙ h.root

  pub still_filled : entries_at t first ≢ [] → IsBucketChanged ground place j s t (h.pages j) pages
  still_filled full = record {
    index = subst IsIndexPage (sym root_same) h.index;
    count = ap bucket_count root_same;
    separators = ap separators_of root_same;
    firsts = λ other in' d. ap (λ (b : List ℕ). first_page_of b other) root_same;
    root = root_owned;
    chain = subst (λ n. IsChain ground place.owner t n pages)
        (sym (ap (λ (b : List ℕ). first_page_of b j) root_same ∙ first_is)) chain;
    filled = λ q c none. elim (cases_eq q first) [
      | inl e ↦ full (ap (entries_at t) (sym e) ∙ none)
      | inr d ↦ chain.fit.filled q c d none
    ];
    beside = record {
      owners = λ q off off'. beside.owners q (λ c. off (contains_later root q (h.pages j) c))
          (λ c. off' (contains_later root q pages c));
      bytes = λ q in' off off'. beside.bytes q in' (λ c. off (contains_later root q (h.pages j) c))
          (λ c. off' (contains_later root q pages c));
      came = λ q c. elim (contains_cases root q pages c) [
        | inl e ↦ inl (subst (Contains (root ∷ h.pages j)) e (contains_here root (h.pages j)))
        | inr later ↦ elim (beside.came q later)
            [ inl old ↦ inl (contains_later root q (h.pages j) old) | inr free ↦ inr free ]
      ];
      left = λ q c. elim (contains_cases root q (h.pages j) c) [
        | inl e ↦ inl (subst (Contains (root ∷ pages)) e (contains_here root pages))
        | inr later ↦ elim (beside.left q later)
            [ inl here ↦ inl (contains_later root q pages here) | inr free ↦ inr free ]
      ];
    };
  }

  module _ (l : IsLeftOut ground place (bytes_at s root) j first (next_at t first) t u)
      (rest : List ℕ) (is : pages ≡ first ∷ rest) where
    abbrev m : Sheets
    m = l.between

    whole : IsChain ground place.owner t first (first ∷ rest)
    whole = subst (IsChain ground place.owner t first) is chain

    first_in : Contains pages first
    first_in = subst (λ (x : List ℕ). Contains x first) (sym is) (contains_here first rest)

    rest_in : (q : ℕ) → Contains rest q → Contains pages q
    rest_in q c = subst (λ (x : List ℕ). Contains x q) (sym is) (contains_later first q rest c)

    rest_apart : (q : ℕ) → Contains rest q → q ≢ first
    rest_apart q c e = pairs_head first rest whole.fit.once (subst (Contains rest) e c)

    first_old : Contains (h.pages j) first
    first_old =
        let head = headed ground place.owner s first (h.pages j)
        (subst (λ n. IsChain ground place.owner s n (h.pages j)) first_is
        (h.buckets.chains j below)) first_some in
        subst (λ (x : List ℕ). Contains x first) (sym head.1) (contains_here first head.0)

    root_apart : root ≢ first
    root_apart e = off_new (subst (Contains pages) (sym e) first_in)

    owners_are : (q : ℕ) → slice_get u.owners q ≡ slice_get (set t.owners first 0) q
    owners_are q = ap (λ (o : List ℕ). slice_get o q) l.freed.owners
        ∙ ap (λ (o : List ℕ). slice_get (set o first 0) q) l.written.owners

    owner_stays : (q : ℕ) → q ≢ first → slice_get u.owners q ≡ slice_get t.owners q
    owner_stays q d = owners_are q ∙ slice_get_set t.owners first q 0 d

    first_free : slice_get u.owners first ≡ Some 0
    first_free = owners_are first
        ∙ slice_get_set_same t.owners first 0 place.owner (chain.fit.owned first first_in)

    byte_stays : (q : ℕ) → ground.tables ≤ q → q ≢ root → slice_get u.bytes q ≡ slice_get t.bytes q
    byte_stays q in' d = l.freed.bytes q in' ∙ l.written.others q d

    rest_same : (q : ℕ) → Contains rest q → bytes_at u q ≡ bytes_at t q
    rest_same q c = bytes_same t u q
        (byte_stays q (chain.fit.past q (rest_in q c)).past
        (λ e. off_new (subst (Contains pages) e (rest_in q c))))

    root_now : bytes_at u root ≡ bytes_at m root
    root_now = bytes_same m u root (l.freed.bytes root past)

    pub left_out : IsBucketChanged ground place j s u (h.pages j) rest
    left_out = record {
      index = subst IsIndexPage (sym root_now) l.written.is_page;
      count = ap bucket_count root_now ∙ l.written.count;
      separators = ap separators_of root_now ∙ l.written.separators;
      firsts = λ other in' d. ap (λ (b : List ℕ). first_page_of b other) root_now
          ∙ l.written.firsts other in' d;
      root = owner_stays root root_apart ∙ root_owned;
      chain = subst (λ n. IsChain ground place.owner u n rest)
          (sym (ap (λ (b : List ℕ). first_page_of b j) root_now ∙ l.written.first_is))
          (same_chain ground place.owner (next_at t first) t u rest rest_same
          (λ q c. owner_stays q (rest_apart q c) ∙ chain.fit.owned q (rest_in q c))
          (tail_chain ground place.owner t first rest whole));
      filled = λ q c none. chain.fit.filled q (rest_in q c) (rest_apart q c)
          (ap entries_of (sym (rest_same q c)) ∙ none);
      beside = record {
        owners = λ q off off'.
            let apart : q ≢ first =
            λ e. off (contains_later root q (h.pages j)
            (subst (Contains (h.pages j)) (sym e) first_old)) in
            owner_stays q apart ∙ beside.owners q (λ c. off (contains_later root q (h.pages j) c))
            (λ c. elim (contains_cases first q rest (subst (λ (x : List ℕ). Contains x q) is c)) [
              | inl e ↦ apart (sym e)
              | inr later ↦ off' (contains_later root q rest later)
            ]);
        bytes = λ q in' off off'.
            let apart : q ≢ first =
            λ e. off (contains_later root q (h.pages j)
            (subst (Contains (h.pages j)) (sym e) first_old)) in
            byte_stays q in' (λ e. off
            (subst (Contains (root ∷ h.pages j)) (sym e) (contains_here root (h.pages j))))
            ∙ beside.bytes q in' (λ c. off (contains_later root q (h.pages j) c))
            (λ c. elim (contains_cases first q rest (subst (λ (x : List ℕ). Contains x q) is c)) [
              | inl e ↦ apart (sym e)
              | inr later ↦ off' (contains_later root q rest later)
            ]);
        came = λ q c. elim (contains_cases root q rest c) [
          | inl e ↦ inl (subst (Contains (root ∷ h.pages j)) e (contains_here root (h.pages j)))
          | inr later ↦ elim (beside.came q (rest_in q later)) [
            | inl old ↦ inl (contains_later root q (h.pages j) old)
            | inr free ↦ inr free
          ]
        ];
        left = λ q c. elim (contains_cases root q (h.pages j) c) [
          | inl e ↦ inl (subst (Contains (root ∷ rest)) e (contains_here root rest))
          | inr later ↦ elim (cases_eq q first) [
            | inl e ↦ inr (ap (slice_get u.owners) e ∙ first_free)
            | inr d ↦ elim (beside.left q later) [
              | inl here ↦ elim (contains_cases first q rest
                  (subst (λ (x : List ℕ). Contains x q) is here)) [
                    | inl e ↦ absurd (d (sym e))
                    | inr behind ↦ inl (contains_later root q rest behind)
                  ]
              | inr free ↦ inr (owner_stays q d ∙ free)
            ]
          ]
        ];
      };
    }

    -- the entries of the first page are gone
    pub on_rest : (k b : List ℕ) → IsOn u rest k b
        ↔ (((c : List ℕ) → Contains (entries_at t first) (record { key = k; body = c }) → ⊥)
        × IsOn t pages k b)
    on_rest k b = (
      λ on. (let old = same_on_back ground place.owner 0 t u rest rest_same k b on in (
        λ c at. rest_apart old.page old.among
            (chain.fit.apart old.page first k b c (rest_in old.page old.among) first_in old.here
            at),
        record { page = old.page; among = rest_in old.page old.among; here = old.here },
      )),
      λ gone. elim (contains_cases first gone.1.page rest
          (subst (λ (x : List ℕ). Contains x gone.1.page) is gone.1.among)) [
            | inl e ↦ absurd (gone.0 b
                (subst (λ n. Contains (entries_at t n) (record { key = k; body = b }))
                (sym e) gone.1.here))
            | inr later ↦ same_on ground place.owner 0 t u rest rest_same k b
                (record { page = gone.1.page; among = later; here = gone.1.here })
          ],
    )

    -- there were none
    pub on_rest_of_empty : entries_at t first ≡ [] → (k b : List ℕ)
        → IsOn u rest k b ↔ IsOn t pages k b
    on_rest_of_empty empty k b = (
      λ on. ((on_rest k b).0 on).1,
      λ old. (on_rest k b).1 (
        λ c at. contains_none (record { key = k; body = c })
            (subst (λ (x : List Entry). Contains x (record { key = k; body = c })) empty at),
        old,
      ),
    )

  -- either way the bucket has changed, and has the entries of the changed chain
  pub record IsLeftOutChange : Type 0 where
    pub now : List ℕ
    pub bucket : IsBucketChanged ground place j s u (h.pages j) now
    pub on : (k b : List ℕ) → IsOn u now k b ↔ IsOn t pages k b

  pub left_out_if_empty : IsLeftOutIfEmpty ground place (bytes_at s root) j first t u
      → IsLeftOutChange
  left_out_if_empty (inl stays) = record {
    now = pages;
    bucket = subst (λ (x : Sheets). IsBucketChanged ground place j s x (h.pages j) pages)
        (sym stays.1) (still_filled stays.0);
    on = λ k b. (
      λ on. subst (λ (x : Sheets). IsOn x pages k b) stays.1 on,
      λ on. subst (λ (x : Sheets). IsOn x pages k b)
          (sym stays.1) on,
    );
  }
  left_out_if_empty (inr out) =
      (let head = headed ground place.owner t first pages chain first_some in
      record {
        now = head.0;
        bucket = left_out out.1 head.0 head.1;
        on = on_rest_of_empty out.1 head.0 head.1 out.0;
      })
