-- What a change of pages makes of a chain.
use Rattle.std.proofs.Common.{◌≡◌, ◌≢◌, ◌⊎◌, ◌↔◌, inl, inr, ℕ, List, [], ◌∷◌, ◌++◌, Some, sym, ap, subst, ◌∙◌, arith}
use Rattle.std.specs.Prelude.{slice_get}
use Rattle.std.specs.List.{Contains}
use Rattle.std.proofs.lemmas.Bool.{cases_eq}
use Rattle.gx_bytes.specs.declared.page.TheConstants.{NONE}
use Rattle.gx_ports.specs.Sheets.{Sheets, Ground, bytes_at}
use Rattle.gx_ports.proofs.PageLemmas.{bytes_same}
use Rattle.gx_slots.specs.Entries.{Entry}
use Rattle.gx_slots.specs.Page.{IsEntryPage, entries_of, next_of}
use Rattle.gx_chain.specs.Chain.{entries_at, next_at, AreLinked, AreFitPages, IsOn, IsChain}
use Rattle.gx_chain.specs.Changes.{IsRewritten, StaysBeside}
use Rattle.gx_chain.proofs.ListLemmas.{contains_here, contains_later, contains_cases, contains_none}

-- no pages are fit for a chain
pub fit_none : (ground : Ground) (owner : ℕ) (sheets : Sheets) (first : ℕ)
    → AreFitPages ground owner sheets first []
fit_none ground owner sheets first = record {
  once = λ i j d less below. absurd (omega (arith, below));
  past = λ q c. absurd (contains_none q c);
  owned = λ q c. absurd (contains_none q c);
  filled = λ q c. absurd (contains_none q c);
  apart = λ q r k b c in_q. absurd (contains_none q in_q);
}

-- links stay where each page has the same page behind it
pub relink : (s t : Sheets) (first : ℕ) (pages : List ℕ)
    → ((q : ℕ) → Contains pages q → IsEntryPage (bytes_at s q)
    → IsEntryPage (bytes_at t q) × (next_at t q ≡ next_at s q))
    → AreLinked s first pages → AreLinked t first pages
relink s t first [] each l = l
relink s t first (q ∷ qs) each l =
    let here = each q (contains_here q qs) l.1 in (
      l.0,
      here.0,
      subst (λ n. AreLinked t n qs) (sym here.1)
          (relink s t (next_at s q) qs (λ r c. each r (contains_later q r qs c)) l.2),
    )

pub linked_page : (s : Sheets) (first : ℕ) (pages : List ℕ) (q : ℕ) → AreLinked s first pages
    → Contains pages q → IsEntryPage (bytes_at s q)
linked_page s first [] q l c = absurd (contains_none q c)
linked_page s first (r ∷ rs) q l c = elim (contains_cases r q rs c) [
  | inl e ↦ subst (λ n. IsEntryPage (bytes_at s n)) e l.1
  | inr later ↦ linked_page s (next_at s r) rs q l.2 later
]

-- one page more at the end
pub linked_push : (s t : Sheets) (first : ℕ) (front : List ℕ) (last fresh : ℕ)
    → ((q : ℕ) → Contains front q → IsEntryPage (bytes_at s q)
    → IsEntryPage (bytes_at t q) × (next_at t q ≡ next_at s q))
    → IsEntryPage (bytes_at t last) → next_at t last ≡ fresh → IsEntryPage (bytes_at t fresh)
    → next_at t fresh ≡ NONE
    → AreLinked s first (front ++ last ∷ [])
    → AreLinked t first ((front ++ last ∷ []) ++ fresh ∷ [])
linked_push s t first [] last fresh each page hung new_page none l =
    (l.0, page, (hung, new_page, none))
linked_push s t first (q ∷ qs) last fresh each page hung new_page none l =
    let here = each q (contains_here q (qs)) l.1 in (
      l.0,
      here.0,
      subst (λ n. AreLinked t n ((qs ++ last ∷ []) ++ fresh ∷ [])) (sym here.1)
          (linked_push s t (next_at s q) qs last fresh (λ r c. each r (contains_later q r qs c))
          page hung new_page none l.2),
    )

-- a chain stays where its pages do
module _ (ground : Ground) (owner first : ℕ) (s t : Sheets) (pages : List ℕ)
    (same : (q : ℕ) → Contains pages q → bytes_at t q ≡ bytes_at s q) where
  pub same_on : (k b : List ℕ) → IsOn s pages k b → IsOn t pages k b
  same_on k b on = record {
    page = on.page;
    among = on.among;
    here = subst (λ (x : List ℕ). Contains (entries_of x) (record { key = k; body = b }))
        (sym (same on.page on.among)) on.here;
  }

  pub same_on_back : (k b : List ℕ) → IsOn t pages k b → IsOn s pages k b
  same_on_back k b on = record {
    page = on.page;
    among = on.among;
    here = subst (λ (x : List ℕ). Contains (entries_of x) (record { key = k; body = b }))
        (same on.page on.among) on.here;
  }

  pub same_chain : ((q : ℕ) → Contains pages q → slice_get t.owners q ≡ Some owner)
      → IsChain ground owner s first pages → IsChain ground owner t first pages
  same_chain owned chain = record {
    linked = relink s t first pages
        (λ q c page. (subst IsEntryPage (sym (same q c)) page, ap next_of (same q c))) chain.linked;
    fit = record {
      once = chain.fit.once;
      past = chain.fit.past;
      owned = owned;
      filled = λ q c d none. chain.fit.filled q c d (sym (ap entries_of (same q c)) ∙ none);
      apart = λ q r k b c in_q in_r at_q at_r. chain.fit.apart q r k b c in_q in_r
          (subst (λ (x : List ℕ). Contains (entries_of x) (record { key = k; body = b }))
          (same q in_q) at_q)
          (subst (λ (x : List ℕ). Contains (entries_of x) (record { key = k; body = c }))
          (same r in_r) at_r);
    };
  }

-- ---- one page is written anew
module _ (ground : Ground) (owner : ℕ) (s t : Sheets) (first : ℕ) (pages : List ℕ) (p : ℕ)
    (es : List Entry) (chain : IsChain ground owner s first pages) (among : Contains pages p)
    (w : IsRewritten p (next_at s p) es s t) where
  same_at : (q : ℕ) → q ≢ p → bytes_at t q ≡ bytes_at s q
  same_at q d = bytes_same s t q (w.others q d)

  linked_anew : (q : ℕ) → IsEntryPage (bytes_at s q)
      → IsEntryPage (bytes_at t q) × (next_at t q ≡ next_at s q)
  linked_anew q page = elim (cases_eq q p) [
    | inl e ↦ (
      subst (λ n. IsEntryPage (bytes_at t n)) (sym e) w.is_page,
      ap (next_at t) e
          ∙ w.next_is ∙ ap (next_at s) (sym e),
    )
    | inr d ↦ (subst IsEntryPage (sym (same_at q d)) page, ap next_of (same_at q d))
  ]

  to_old : (q : ℕ) (e : Entry) → q ≢ p → Contains (entries_at t q) e → Contains (entries_at s q) e
  to_old q e d c = subst (λ (x : List Entry). Contains x e) (ap entries_of (same_at q d)) c

  to_new : (q : ℕ) (e : Entry) → q ≢ p → Contains (entries_at s q) e → Contains (entries_at t q) e
  to_new q e d c = subst (λ (x : List Entry). Contains x e) (sym (ap entries_of (same_at q d))) c

  to_these : (q : ℕ) (e : Entry) → q ≡ p → Contains (entries_at t q) e → Contains es e
  to_these q e same c =
      subst (λ (x : List Entry). Contains x e) (ap (entries_at t) same ∙ w.entries_are) c

  -- Each key of the new entries stood on the page before, or on none: then it is a chain again.
  pub rewritten_chain : (p ≢ first → es ≢ [])
      → ((k b : List ℕ) → Contains es (record { key = k; body = b })
      → ((c : List ℕ) × Contains (entries_at s p) (record { key = k; body = c }))
      ⊎ ((q : ℕ) (c : List ℕ) → Contains pages q
      → Contains (entries_at s q) (record { key = k; body = c }) → ⊥))
      → IsChain ground owner t first pages
  rewritten_chain full keys = record {
    linked = relink s t first pages (λ q c. linked_anew q) chain.linked;
    fit = record {
      once = chain.fit.once;
      past = chain.fit.past;
      owned =
          λ q c. subst (λ (o : List ℕ). slice_get o q ≡ Some owner) (sym w.owners)
          (chain.fit.owned q c);
      filled = λ q c d none. elim (cases_eq q p) [
        | inl e ↦ full (λ f. d (e ∙ f)) (sym w.entries_are ∙ ap (entries_at t) (sym e) ∙ none)
        | inr o ↦ chain.fit.filled q c d (sym (ap entries_of (same_at q o)) ∙ none)
      ];
      apart = λ q r k b c in_q in_r at_q at_r. elim (cases_eq q p) [
        | inl e ↦ elim (cases_eq r p) [
          | inl f ↦ e ∙ sym f
          | inr f ↦ elim (keys k b (to_these q _ e at_q)) [
            | inl old ↦ e ∙ chain.fit.apart p r k old.0 c among in_r old.1 (to_old r _ f at_r)
            | inr none ↦ absurd (none r c in_r (to_old r _ f at_r))
          ]
        ]
        | inr d ↦ elim (cases_eq r p) [
          | inl f ↦ elim (keys k c (to_these r _ f at_r)) [
            | inl old ↦ chain.fit.apart q p k b old.0 in_q among (to_old q _ d at_q) old.1 ∙ sym f
            | inr none ↦ absurd (none q b in_q (to_old q _ d at_q))
          ]
          | inr f ↦ chain.fit.apart q r k b c in_q in_r (to_old q _ d at_q) (to_old r _ f at_r)
        ]
      ];
    };
  }

  -- What stands on the chain: on this page what was put, else what there was but for one key, which
  -- stands on no other page.
  pub rewritten_on : (Put : List ℕ → List ℕ → Type 0) (key : List ℕ)
      → ((k b : List ℕ) → Contains es (record { key = k; body = b })
      → Put k b ⊎ ((k ≢ key) × Contains (entries_at s p) (record { key = k; body = b })))
      → ((k b : List ℕ)
      → Put k b ⊎ ((k ≢ key) × Contains (entries_at s p) (record { key = k; body = b }))
      → Contains es (record { key = k; body = b }))
      → ((q : ℕ) (b : List ℕ) → q ≢ p → Contains pages q
      → Contains (entries_at s q) (record { key = key; body = b }) → ⊥)
      → (k b : List ℕ) → IsOn t pages k b ↔ (Put k b ⊎ ((k ≢ key) × IsOn s pages k b))
  rewritten_on Put key to from absent k b = (
    λ on. elim (cases_eq on.page p) [
      | inl e ↦ elim (to k b (to_these on.page _ e on.here)) [
        | inl put ↦ inl put
        | inr old ↦ inr (old.0, record { page = p; among = among; here = old.1 })
      ]
      | inr d ↦ (let here = to_old on.page _ d on.here in
          inr (
            λ same. absent on.page b d on.among
                (subst (λ (x : List ℕ). Contains (entries_at s on.page)
                (record { key = x; body = b })) same here),
            record { page = on.page; among = on.among; here = here },
          ))
    ],
    λ put. elim put [
      | inl here ↦ record {
        page = p;
        among = among;
        here = subst (λ (x : List Entry). Contains x (record { key = k; body = b }))
            (sym w.entries_are) (from k b (inl here));
      }
      | inr old ↦ elim (cases_eq old.1.page p) [
        | inl e ↦ record {
          page = p;
          among = among;
          here = subst (λ (x : List Entry). Contains x (record { key = k; body = b }))
              (sym w.entries_are)
              (from k b
              (inr (
                old.0,
                subst (λ (n : ℕ). Contains (entries_at s n)
                    (record { key = k; body = b })) e old.1.here,
              )));
        }
        | inr d ↦ record {
          page = old.1.page;
          among = old.1.among;
          here = to_new old.1.page _ d old.1.here;
        }
      ]
    ],
  )

  pub rewritten_beside : StaysBeside ground s t pages pages
  rewritten_beside = record {
    owners = λ q off _. ap (λ (o : List ℕ). slice_get o q) w.owners;
    bytes = λ q past off _. w.others q (λ e. off (subst (Contains pages) (sym e) among));
    came = λ q c. inl c;
    left = λ q c. inl c;
  }
