-- A page is hung before the first one of the chain of a bucket.
use Rattle.std.proofs.Common.{◌≡◌, ◌≢◌, ◌⊎◌, ◌↔◌, inl, inr, ℕ, ◌<◌, ◌≤◌, ◌^◌, List, [], ◌∷◌, set, Some, refl, sym, ap, subst, ◌∙◌, arith}
use Rattle.std.specs.Prelude.{slice_get}
use Rattle.std.specs.List.{Contains}
use Rattle.std.proofs.lemmas.Option.{same_Some}
use Rattle.gx_bytes.specs.declared.page.TheConstants.{NONE}
use Rattle.gx_ports.specs.declared.pages.Place.{Place}
use Rattle.gx_ports.specs.LeafMaps.{LeafMap}
use Rattle.gx_ports.specs.Sheets.{Sheets, Ground, IsPast, bytes_at}
use Rattle.gx_ports.proofs.PageLemmas.{bytes_same}
use Rattle.gx_slots.specs.Entries.{Entry}
use Rattle.gx_slots.specs.Page.{IsEntryPage, entries_of, next_of}
use Rattle.gx_chain.specs.Chain.{entries_at, AreLinked, IsChain, IsOn}
use Rattle.gx_chain.proofs.ChainLemmas.{same_on, same_on_back, same_chain}
use Rattle.gx_chain.proofs.ListLemmas.{contains_here, contains_later, contains_cases, contains_none, pairs_cons}
use Rattle.gx_chain.proofs.WriteLemmas.{slice_get_set, slice_get_set_same}
use Rattle.gx_isam_index.specs.Index.{bucket_count, first_page_of}
use Rattle.gx_isam.specs.Isam.{IsIsam}
use Rattle.gx_isam.specs.Change.{IsHungBefore}
use Rattle.gx_isam.proofs.BucketLemmas.{root_off, IsBucketChanged}

-- a chain that begins at no page has none
pub no_pages : (ground : Ground) (owner : ℕ) (s : Sheets) (pages : List ℕ) → ground.size < 2 ^ 32
    → IsChain ground owner s NONE pages
    → pages ≡ []
no_pages ground owner s [] small chain = refl
no_pages ground owner s (q ∷ qs) small chain =
    let below = (chain.fit.past q (contains_here q qs)).below in
    let same : NONE ≡ q = chain.linked.0 in
    absurd (omega (arith, small, below, same))

pub some_there : (e : Entry) (es : List Entry) → e ∷ es ≢ []
some_there e es none = contains_none e
    (subst (λ (x : List Entry). Contains x e) none (contains_here e es))

-- an entry alone
pub only_entry : (key body k b : List ℕ)
    → Contains {X = Entry} (record { key = key; body = body } ∷ []) (record { key = k; body = b })
    → (k ≡ key) × (b ≡ body)
only_entry key body k b c =
    let entry : Entry = record { key = key; body = body } in
    elim (contains_cases entry (record { key = k; body = b }) [] c) [
      | inl e ↦ (sym (ap (λ (x : Entry). x.key) e), sym (ap (λ (x : Entry). x.body) e))
      | inr never ↦ absurd (contains_none (record { key = k; body = b }) never)
    ]

pub that_entry : (key body k b : List ℕ) → (k ≡ key) × (b ≡ body)
    → Contains {X = Entry} (record { key = key; body = body } ∷ []) (record { key = k; body = b })
that_entry key body k b is =
    let entry : Entry = record { key = key; body = body } in
    let same : entry ≡ record { key = k; body = b } =
    λ i. record { key = sym is.0 i; body = sym is.1 i } in
    subst (Contains (entry ∷ [])) same (contains_here entry [])

module _ (ground : Ground) (place : Place) (s u : Sheets) (map : LeafMap) (some : 1 ≤ place.owner)
    (h : IsIsam ground place s map) (j : ℕ)
    (below : j < bucket_count (bytes_at s place.root))
    (es : List Entry) (es_some : es ≢ []) (es_apart : (k b c : List ℕ)
    → Contains es (record { key = k; body = b })
    → IsOn s (h.pages j) k c → ⊥) (n : IsHungBefore ground place (bytes_at s place.root) j es s u)
  where
    abbrev root : ℕ
    root = place.root

    abbrev f : ℕ
    f = n.fresh

    abbrev old : List ℕ
    old = h.pages j

    chain_old : IsChain ground place.owner s (first_page_of (bytes_at s root) j) old
    chain_old = h.buckets.chains j below

    fresh_apart : f ≢ root
    fresh_apart e = let zero : place.owner ≡ 0 =
        same_Some place.owner 0 (sym h.root ∙ ap (slice_get s.owners) (sym e) ∙ n.claim.was_free) in
        omega (arith, zero, some)

    fresh_off : Contains old f → ⊥
    fresh_off c = let zero : place.owner ≡ 0 =
        same_Some place.owner 0 (sym (chain_old.fit.owned f c) ∙ n.claim.was_free) in
        omega (arith, zero, some)

    root_off_old : Contains old root → ⊥
    root_off_old c = root_off ground place.owner root s h.pages h.buckets h.index j below c

    owners_are : (q : ℕ) → slice_get u.owners q ≡ slice_get (set s.owners f place.owner) q
    owners_are q = ap (λ (o : List ℕ). slice_get o q) (n.written.owners ∙ n.page.owners
        ∙ n.claim.owned.owners)

    owner_stays : (q : ℕ) → q ≢ f → slice_get u.owners q ≡ slice_get s.owners q
    owner_stays q d = owners_are q ∙ slice_get_set s.owners f q place.owner d

    fresh_owned : slice_get u.owners f ≡ Some place.owner
    fresh_owned = owners_are f ∙ slice_get_set_same s.owners f place.owner 0 n.claim.was_free

    byte_stays : (q : ℕ) → ground.tables ≤ q → q ≢ root → q ≢ f
        → slice_get u.bytes q ≡ slice_get s.bytes q
    byte_stays q in' d e = n.written.others q d ∙ n.page.others q e ∙ n.claim.owned.bytes q in'

    old_apart : (q : ℕ) → Contains old q → q ≢ f
    old_apart q c e = fresh_off (subst (Contains old) e c)

    old_same : (q : ℕ) → Contains old q → bytes_at u q ≡ bytes_at s q
    old_same q c = bytes_same s u q
        (byte_stays q (chain_old.fit.past q c).past (λ e. root_off_old (subst (Contains old) e c))
        (old_apart q c))

    fresh_bytes : bytes_at u f ≡ bytes_at n.filled f
    fresh_bytes = bytes_same n.filled u f (n.written.others f fresh_apart)

    fresh_entries : entries_at u f ≡ es
    fresh_entries = ap entries_of fresh_bytes ∙ n.page.entries_are

    chain_still : IsChain ground place.owner u (first_page_of (bytes_at s root) j) old
    chain_still = same_chain ground place.owner (first_page_of (bytes_at s root) j) s u old old_same
        (λ q c. owner_stays q (old_apart q c) ∙ chain_old.fit.owned q c) chain_old

    still_on : (k b : List ℕ) → IsOn u old k b → IsOn s old k b
    still_on k b on = same_on_back ground place.owner 0 s u old old_same k b on

    here_es : (k b : List ℕ) (q : ℕ) → f ≡ q
        → Contains (entries_at u q) (record { key = k; body = b })
        → Contains es (record { key = k; body = b })
    here_es k b q e c = subst (λ (x : List Entry). Contains x (record { key = k; body = b }))
        (ap (entries_at u) (sym e) ∙ fresh_entries) c

    fresh_chain : IsChain ground place.owner u f (f ∷ old)
    fresh_chain = record {
      linked = (
        refl,
        subst IsEntryPage (sym fresh_bytes) n.page.is_page,
        subst (λ m. AreLinked u m old)
            (sym (ap next_of fresh_bytes ∙ n.page.next_is)) chain_still.linked,
      );
      fit = record {
        once = pairs_cons f old fresh_off chain_old.fit.once;
        past = λ q c. elim (contains_cases f q old c) [
          | inl e ↦ subst (λ m. IsPast ground m) e n.claim.past
          | inr later ↦ chain_old.fit.past q later
        ];
        owned = λ q c. elim (contains_cases f q old c) [
          | inl e ↦ subst (λ m. slice_get u.owners m ≡ Some place.owner) e fresh_owned
          | inr later ↦ chain_still.fit.owned q later
        ];
        filled = λ q c d none. elim (contains_cases f q old c) [
          | inl e ↦ d (sym e)
          | inr later ↦ h.buckets.filled j q below later (ap entries_of (sym (old_same q later))
              ∙ none)
        ];
        apart = λ q r k b c in_q in_r at_q at_r. elim (contains_cases f q old in_q) [
          | inl e ↦ elim (contains_cases f r old in_r) [
            | inl x ↦ sym e ∙ x
            | inr later ↦ absurd (es_apart k b c (here_es k b q e at_q)
                (still_on k c (record { page = r; among = later; here = at_r })))
          ]
          | inr before ↦ elim (contains_cases f r old in_r) [
            | inl x ↦ absurd (es_apart k c b (here_es k c r x at_r)
                (still_on k b (record { page = q; among = before; here = at_q })))
            | inr later ↦ chain_still.fit.apart q r k b c before later at_q at_r
          ]
        ];
      };
    }

    pub hung_bucket : IsBucketChanged ground place j s u old (f ∷ old)
    hung_bucket = record {
      index = n.written.is_page;
      count = n.written.count;
      separators = n.written.separators;
      firsts = n.written.firsts;
      root = owner_stays root (λ e. fresh_apart (sym e)) ∙ h.root;
      chain = subst (λ m. IsChain ground place.owner u m (f ∷ old)) (sym n.written.first_is)
          fresh_chain;
      filled = λ q c is. elim (contains_cases f q old c) [
        | inl e ↦ es_some (sym fresh_entries ∙ ap (entries_at u) e ∙ is)
        | inr later ↦ h.buckets.filled j q below later (ap entries_of (sym (old_same q later)) ∙ is)
      ];
      beside = record {
        owners = λ q off off'. owner_stays q
            (λ e. off' (contains_later root q (f ∷ old)
            (subst (Contains (f ∷ old)) (sym e) (contains_here f old))));
        bytes = λ q in' off off'. byte_stays q in'
            (λ e. off (subst (Contains (root ∷ old)) (sym e) (contains_here root old)))
            (λ e. off' (contains_later root q (f ∷ old)
            (subst (Contains (f ∷ old)) (sym e) (contains_here f old))));
        came = λ q c. elim (contains_cases root q (f ∷ old) c) [
          | inl e ↦ inl (subst (Contains (root ∷ old)) e (contains_here root old))
          | inr here ↦ elim (contains_cases f q old here) [
            | inl e ↦ inr (subst (λ m. slice_get s.owners m ≡ Some 0) e n.claim.was_free)
            | inr later ↦ inl (contains_later root q old later)
          ]
        ];
        left = λ q c. elim (contains_cases root q old c) [
          | inl e ↦ inl (subst (Contains (root ∷ f ∷ old)) e (contains_here root (f ∷ old)))
          | inr later ↦ inl (contains_later root q (f ∷ old) (contains_later f q old later))
        ];
      };
    }

    pub hung_on : (k b : List ℕ)
        → IsOn u (f ∷ old) k b ↔ (Contains es (record { key = k; body = b }) ⊎ IsOn s old k b)
    hung_on k b = (
      λ on. elim (contains_cases f on.page old on.among) [
        | inl e ↦ inl (here_es k b on.page e on.here)
        | inr later ↦ inr (still_on k b (record { page = on.page; among = later; here = on.here }))
      ],
      λ either. elim either [
        | inl here ↦ record {
          page = f;
          among = contains_here f old;
          here = subst (λ (x : List Entry). Contains x (record { key = k; body = b }))
              (sym fresh_entries) here;
        }
        | inr was ↦ (let on = same_on ground place.owner 0 s u old old_same k b was in
            record {
              page = on.page;
              among = contains_later f on.page old on.among;
              here = on.here;
            })
      ],
    )
