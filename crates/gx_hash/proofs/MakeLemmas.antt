-- Hashed files that are made.
use Rattle.std.proofs.Common.{◌≡◌, ◌≢◌, inl, inr, ℕ, ◌+◌, ◌-◌, ◌<◌, ◌≤◌, List, [], ◌∷◌, set, Some, refl, sym, ap, subst, ◌∙◌, arith}
use Rattle.std.specs.Prelude.{slice_get, IsTrue}
use Rattle.std.specs.List.{Contains}
use Rattle.std.specs.FinMap as fin
use Rattle.std.proofs.lemmas.Bool.{cases_eq, cases_order}
use Rattle.std.proofs.lemmas.Option.{same_Some, none-some}
use Rattle.gx_bytes.specs.declared.page.TheConstants.{NONE}
use Rattle.gx_ports.specs.declared.page_view.PageView.{Ghosts}
use Rattle.gx_ports.specs.declared.pages.Place.{Place}
use Rattle.gx_ports.specs.Files.{OthersStay, IsPlace, IsVacant}
use Rattle.gx_ports.specs.PageCalls.{KeepsPages}
use Rattle.gx_ports.specs.Roots.{roots_of}
use Rattle.gx_ports.specs.Sheets.{Sheets, Ground, IsPast, bytes_at}
use Rattle.gx_ports.specs.Keyed.{key_cmp}
use Rattle.gx_ports.proofs.PageLemmas.{bytes_same}
use Rattle.gx_slots.specs.Entries.{Entry}
use Rattle.gx_slots.specs.Page.{IsEntryPage, entries_of, next_of}
use Rattle.gx_chain.specs.Chain.{entries_at, next_at, IsChain, IsOn}
use Rattle.gx_chain.specs.Changes.{IsMade}
use Rattle.gx_chain.proofs.ListLemmas.{contains_here, contains_cases, contains_none}
use Rattle.gx_chain.proofs.WriteLemmas.{slice_get_set, slice_get_set_same}
use Rattle.gx_hash.specs.Buckets.{hash_bucket}
use Rattle.gx_hash.specs.Hash.{IsHash}
use Rattle.gx_hash.proofs.BucketLemmas.{bucket_below}
use Rattle.gx_hash.proofs.HashLemmas.{as_hash}

-- a root of the first so many
abbrev pub IsRoot : Place → ℕ → ℕ → Type 0
IsRoot place count page = (place.root ≤ page) × (page < place.root + count)

-- the owner's page is an empty entry page with no next page
pub record IsEmptyRoot (place : Place) (sheets : Sheets) (page : ℕ) : Type 0 where
  pub owned : slice_get sheets.owners page ≡ Some place.owner
  pub is_page : IsEntryPage (bytes_at sheets page)
  pub entries_are : entries_at sheets page ≡ []
  pub next_is : next_at sheets page ≡ NONE

-- the first roots are made, and no other page has changed
pub record AreRootsMade (ground : Ground) (place : Place) (old new : Sheets)
    (count : ℕ) : Type 0 where
  pub made : (i : ℕ) → i < count → IsEmptyRoot place new (place.root + i)
  pub owners : (page : ℕ) → ¬ IsRoot place count page
      → slice_get new.owners page ≡ slice_get old.owners page
  pub bytes : (page : ℕ) → ground.tables ≤ page → ¬ IsRoot place count page
      → slice_get new.bytes page ≡ slice_get old.bytes page

pub record IsMaking {S : Type 0} (g : Ghosts S) (place : Place) (start now : S)
    (count : ℕ) : Type 0 where
  pub keeps : KeepsPages g start now
  pub faults : g.faults now ≡ g.faults start
  pub within : count ≤ roots_of place.spec
  pub made : IsTrue g.tells → IsVacant place (g.working start)
      → AreRootsMade (g.ground start) place (g.working start) (g.working now) count

pub roots_none : (ground : Ground) (place : Place) (s : Sheets) → AreRootsMade ground place s s 0
roots_none ground place s =
    record {
      made = λ i below. absurd (omega (arith, below));
      owners = λ q off. refl;
      bytes = λ q past off. refl;
    }

-- the next root is free yet
pub root_free : (ground : Ground) (place : Place) (s t : Sheets) (count : ℕ)
    → count < roots_of place.spec → IsVacant place s
    → AreRootsMade ground place s t count → slice_get t.owners (place.root + count) ≡ Some 0
root_free ground place s t count below vacant made =
    made.owners (place.root + count) (λ at. (let less = at.1 in omega (arith, less)))
    ∙ vacant.free (place.root + count) (omega arith) (omega (arith, below))

-- one root more
module _ (ground : Ground) (place : Place) (s t u : Sheets) (count : ℕ) (at : IsPlace ground place)
    (below : count < roots_of place.spec)
    (before : AreRootsMade ground place s t count)
    (m : IsMade ground place.owner (place.root + count) t u) where
  abbrev new_root : ℕ
  new_root = place.root + count

  owners_are : (q : ℕ) → slice_get u.owners q ≡ slice_get (set t.owners new_root place.owner) q
  owners_are q = ap (λ (o : List ℕ). slice_get o q) (m.written.owners ∙ m.claimed.owned.owners)

  owner_stays : (q : ℕ) → q ≢ new_root → slice_get u.owners q ≡ slice_get t.owners q
  owner_stays q d = owners_are q ∙ slice_get_set t.owners new_root q place.owner d

  byte_stays : (q : ℕ) → ground.tables ≤ q → q ≢ new_root
      → slice_get u.bytes q ≡ slice_get t.bytes q
  byte_stays q past d = m.written.others q d ∙ m.claimed.owned.bytes q past

  made_here : IsEmptyRoot place u new_root
  made_here = record {
    owned = owners_are new_root
        ∙ slice_get_set_same t.owners new_root place.owner 0 m.claimed.was_free;
    is_page = m.written.is_page;
    entries_are = m.written.entries_are;
    next_is = m.written.next_is;
  }

  made_before : (i : ℕ) → i < count → IsEmptyRoot place u (place.root + i)
  made_before i less =
      let r = before.made i less in
      let past = at.past in
      let d : place.root + i ≢ new_root = λ e. omega (arith, e, less) in
      let same = bytes_same t u (place.root + i)
      (byte_stays (place.root + i) (omega (arith, past)) d) in
      record {
        owned = owner_stays (place.root + i) d ∙ r.owned;
        is_page = subst IsEntryPage (sym same) r.is_page;
        entries_are = ap entries_of same ∙ r.entries_are;
        next_is = ap next_of same ∙ r.next_is;
      }

  pub roots_more : AreRootsMade ground place s u (count + 1)
  roots_more = record {
    made = λ i less. elim (cases_eq i count) [
      | inl e ↦ subst (λ n. IsEmptyRoot place u (place.root + n)) (sym e) made_here
      | inr d ↦ made_before i (omega (arith, less, d))
    ];
    owners = λ q off. owner_stays q (λ e. off (omega (arith, e), omega (arith, e)))
        ∙ before.owners q (λ is. off (is.0, (let less = is.1 in omega (arith, less))));
    bytes = λ q past off. byte_stays q past (λ e. off (omega (arith, e), omega (arith, e)))
        ∙ before.bytes q past (λ is. off (is.0, (let less = is.1 in omega (arith, less))));
  }

-- all are made
module _ (ground : Ground) (place : Place) (s t : Sheets) (at : IsPlace ground place)
    (roots : 1 ≤ roots_of place.spec)
    (vacant : IsVacant place s) (made : AreRootsMade ground place s t (roots_of place.spec)) where
  only : (root q : ℕ) → Contains (root ∷ []) q → root ≡ q
  only root q c = elim (contains_cases root q [] c)
      [ inl e ↦ e | inr never ↦ absurd (contains_none q never) ]

  root_past : (i : ℕ) → i < roots_of place.spec → IsPast ground (place.root + i)
  root_past i less = let past = at.past in let end = at.below in
      record { past = omega (arith, past); below = omega (arith, end, less) }

  root_chain : (i : ℕ) → i < roots_of place.spec
      → IsChain ground place.owner t (place.root + i) ((place.root + i) ∷ [])
  root_chain i less =
      let r = made.made i less in
      let first = place.root + i in
      record {
        linked = (refl, r.is_page, r.next_is);
        fit = record {
          once = λ i j d less below. absurd (omega (arith, less, below));
          past = λ q c. subst (IsPast ground) (only first q c) (root_past i less);
          owned = λ q c. subst (λ n. slice_get t.owners n ≡ Some place.owner)
              (only first q c) r.owned;
          filled = λ q c d. absurd (d (sym (only first q c)));
          apart = λ q r k b c in_q in_r _ _. sym (only first q in_q) ∙ only first r in_r;
        };
      }

  none_on : (i : ℕ) (k b : List ℕ) → i < roots_of place.spec → IsOn t ((place.root + i) ∷ []) k b
      → ⊥
  none_on i k b less on = contains_none (record { key = k; body = b })
      (subst (λ (x : List Entry). Contains x (record { key = k; body = b }))
      (ap (entries_at t) (sym (only (place.root + i) on.page on.among))
      ∙ (made.made i less).entries_are) on.here)

  root_or_not : (q : ℕ) → slice_get t.owners q ≡ Some place.owner
      → IsRoot place (roots_of place.spec) q
  root_or_not q o = elim (cases_order q place.root) [
    | inl e ↦ (omega (arith, e), omega (arith, e, roots))
    | inr apart ↦ elim apart [
      | inl less ↦ absurd (vacant.none q
          (sym (made.owners q (λ is. (let low = is.0 in omega (arith, low, less)))) ∙ o))
      | inr more ↦ elim (cases_order q (place.root + roots_of place.spec)) [
        | inl e ↦ absurd (vacant.none q
            (sym (made.owners q (λ is. (let high = is.1 in omega (arith, high, e)))) ∙ o))
        | inr other ↦ elim other [
          | inl below ↦ (omega (arith, more), below)
          | inr over ↦ absurd (vacant.none q
              (sym (made.owners q (λ is. (let high = is.1 in omega (arith, high, over)))) ∙ o))
        ]
      ]
    ]
  ]

  pub hash_made : IsHash ground place t fin.empty
  hash_made = as_hash ground place t fin.empty (λ i. (place.root + i) ∷ []) roots root_chain
      (λ q o. (let is = root_or_not q o in let low = is.0 in let high = is.1 in
      let same : place.root + (q - place.root) ≡ q =
      omega (arith, low) in
      record {
        bucket = q - place.root;
        below = omega (arith, low, high);
        among = subst (λ n. Contains (n ∷ []) q) (sym same) (contains_here q []);
      }))
      (λ i k b less on. absurd (none_on i k b less on))
      (λ k b. (
        λ is. absurd (none-some b (sym (fin.get-empty key_cmp k) ∙ is)),
        λ on. absurd (none_on (hash_bucket place.spec k) k b (bucket_below place.spec k roots) on),
      ))

  off_root : (other q : ℕ) → other ≢ 0 → slice_get s.owners q ≡ Some other
      → IsRoot place (roots_of place.spec) q → ⊥
  off_root other q z o is = z (sym (same_Some 0 other (sym (vacant.free q is.0 is.1) ∙ o)))

  root_owned : (q : ℕ) → IsRoot place (roots_of place.spec) q
      → slice_get t.owners q ≡ Some place.owner
  root_owned q is =
      let low = is.0 in
      let high = is.1 in
      let same : place.root + (q - place.root) ≡ q = omega (arith, low) in
      subst (λ n. slice_get t.owners n ≡ Some place.owner) same
      (made.made (q - place.root) (omega (arith, low, high))).owned

  pub hash_made_others : OthersStay ground place.owner s t
  hash_made_others other d z = record {
    owned = λ q. (
      λ o. made.owners q (off_root other q z o) ∙ o,
      λ o. sym (made.owners q
          (λ is. d (sym (same_Some place.owner other (sym (root_owned q is) ∙ o))))) ∙ o,
    );
    bytes = λ q past o. made.bytes q past (off_root other q z o);
  }
