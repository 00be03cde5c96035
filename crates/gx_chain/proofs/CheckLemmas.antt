-- Chains that are checked.
use Rattle.std.proofs.Common.{◌≡◌, ◌≢◌, ◌⊎◌, inl, inr, ℕ, suc, Bool, true, false, List, [], ◌∷◌, ◌++◌, refl, sym, ap, subst, ◌∙◌, arith, append_assoc}
use Rattle.std.specs.Prelude.{◌||◌, not}
use Rattle.std.specs.BTreeSet.{insert_key}
use Rattle.std.specs.Global.{Vec}
use Rattle.std.specs.List.{Contains}
use Rattle.std.specs.Ordering.{eq_by_cmp, match_ordering}
use Rattle.std.specs.declared.cmp.Ordering.TheVariants.{Less, Equal, Greater}
use Rattle.std.proofs.lemmas.Bool.{true≢false, false≢true, or_cases, or_left, or_right}
use Rattle.std.proofs.lemmas.List.{append-nil}
use Rattle.std.proofs.lemmas.List.Elements.{Contains-push_cases, Contains-append_left, Contains-push}
use Rattle.gx_ports.specs.Keyed.{key_cmp}
use Rattle.gx_ports.proofs.KeyLemmas.{only_equal, same_key, tied}
use Rattle.gx_ports.proofs.KeyedLemmas.{vec_cmp}
use Rattle.gx_slots.specs.Entries.{Entry, AreDistinct}
use Rattle.gx_chain.specs.Check.{has_key, IsKeyOf, HasAddedKeys, SharesKey}
use Rattle.gx_chain.proofs.ListLemmas.{contains_cases, contains_none, contains_middle}
-- those who check files of chains find it here
pub use Rattle.gx_seen.proofs.EndLemmas.{ends_shown}

-- ---- a key more among keys

doubled : (a b c : Bool) → a ≡ b → (b || c) ≡ (a || (b || c))
doubled true true c same = refl
doubled true false c same = absurd (true≢false same)
doubled false b c same = refl

moved : (a b c : Bool) → (a || (b || c)) ≡ (b || (a || c))
moved true true c = refl
moved true false c = refl
moved false b c = refl

pub not_true : (b : Bool) → true ≡ not b → b ≡ false
not_true true e = absurd (true≢false e)
not_true false e = refl

pub not_false : (b : Bool) → false ≡ not b → b ≡ true
not_false true e = refl
not_false false e = absurd (false≢true e)

has_inserted : (ks : List (Vec ℕ)) (v : Vec ℕ) (k : List ℕ)
    → has_key (insert_key vec_cmp ks v) k ≡ (eq_by_cmp key_cmp k v.items || has_key ks k)
has_inserted [] v k = refl
has_inserted (x ∷ xs) v k =
    elim (key_cmp v.items x.items) as (λ r. key_cmp v.items x.items ≡ r
    → has_key (match_ordering r (v ∷ x ∷ xs) (x ∷ xs) (x ∷ insert_key vec_cmp xs v)) k
    ≡ (eq_by_cmp key_cmp k v.items || has_key (x ∷ xs) k)) [
      | Less ↦ λ _. refl
      | Equal ↦ λ e. doubled (eq_by_cmp key_cmp k v.items) (eq_by_cmp key_cmp k x.items)
          (has_key xs k)
          (ap (eq_by_cmp key_cmp k) (only_equal v.items x.items e))
      | Greater ↦ λ _. ap (λ b. eq_by_cmp key_cmp k x.items || b) (has_inserted xs v k)
          ∙ moved (eq_by_cmp key_cmp k x.items) (eq_by_cmp key_cmp k v.items) (has_key xs k)
    ] refl

-- ---- the keys of entries are added

head_apart : (y e : Entry) (xs : List Entry) → AreDistinct (y ∷ xs) → Contains xs e → y.key ≢ e.key
head_apart y e xs d c = let below = c.1 in
    λ same. d 0 (suc c.0) e (omega arith) (omega arith) (same ∙ ap (λ (x : Entry). x.key) (sym c.2))

distinct_tail : (y : Entry) (xs : List Entry) → AreDistinct (y ∷ xs) → AreDistinct xs
distinct_tail y xs d i j z less below = d (suc i) (suc j) z (omega arith) (omega arith)

distinct_before : (done : List Entry) (e x : Entry) (rest : List Entry)
    → AreDistinct (done ++ e ∷ rest) → Contains done x → x.key ≢ e.key
distinct_before [] e x rest d c = absurd (contains_none x c)
distinct_before (y ∷ ys) e x rest d c = elim (contains_cases y x ys c) [
  | inl same ↦ λ eq. head_apart y e (ys ++ e ∷ rest) d (contains_middle ys e rest)
      (ap (λ (z : Entry). z.key) same ∙ eq)
  | inr later ↦ distinct_before ys e x rest (distinct_tail y (ys ++ e ∷ rest) d) later
]

added_none : (old : List (Vec ℕ)) → HasAddedKeys [] old old
added_none old = record {
  fresh = λ key is. absurd (contains_none (record { key = key; body = is.0 }) is.1);
  those = λ key. (
    λ is. inr is,
    λ c. elim c [
      | inl is ↦ absurd (contains_none (record { key = key; body = is.0 }) is.1)
      | inr is ↦ is
    ],
  );
}

module _ (done : List Entry) (e : Entry) (old mid : List (Vec ℕ)) (h : HasAddedKeys done old mid)
    (v : Vec ℕ) (is : v.items ≡ e.key) where
  key_cases : (key : List ℕ) → IsKeyOf (done ++ e ∷ []) key → IsKeyOf done key ⊎ (key ≡ e.key)
  key_cases key among = elim (Contains-push_cases done e (record { key = key; body = among.0 })
      among.1) [
        | inl before ↦ inl (among.0, before)
        | inr same ↦ inr (sym (ap (λ (x : Entry). x.key) same))
      ]

  added_more : (new : List (Vec ℕ)) → has_key mid v.items ≡ false → new ≡ insert_key vec_cmp mid v
      → HasAddedKeys (done ++ e ∷ []) old new
  added_more new absent inserted =
      let has =
      λ (key : List ℕ). ap (λ (x : List (Vec ℕ)). has_key x key) inserted
      ∙ has_inserted mid v key in
      record {
        fresh = λ key among was. elim (key_cases key among) [
          | inl before ↦ h.fresh key before was
          | inr same ↦ false≢true (sym absent
              ∙ (ap (has_key mid) (is ∙ sym same) ∙ (h.those key).1 (inr was)))
        ];
        those = λ key. (
          λ now. elim (or_cases (eq_by_cmp key_cmp key v.items) (has_key mid key) (sym (has key)
              ∙ now)) [
                | inl same ↦ inl (
                  e.body,
                  subst (λ (k : List ℕ). Contains (done ++ e ∷ [])
                      (record { key = k; body = e.body }))
                      (sym (same_key key v.items same ∙ is)) (Contains-push done e),
                )
                | inr was ↦ elim ((h.those key).0 was) [
                  | inl before ↦ inl (
                    before.0,
                    Contains-append_left done (e ∷ [])
                        (record { key = key; body = before.0 }) before.1,
                  )
                  | inr first ↦ inr first
                ]
              ],
          λ c. has key ∙ elim c [
            | inl among ↦ elim (key_cases key among) [
              | inl before ↦ or_right (eq_by_cmp key_cmp key v.items) (has_key mid key)
                  ((h.those key).1 (inl before))
              | inr same ↦ or_left (eq_by_cmp key_cmp key v.items) (has_key mid key)
                  (subst (λ (k : List ℕ). eq_by_cmp key_cmp k v.items ≡ true) (is ∙ sym same)
                  (tied v.items))
            ]
            | inr first ↦ or_right (eq_by_cmp key_cmp key v.items) (has_key mid key)
                ((h.those key).1 (inr first))
          ],
        );
      }

  shares : (entries rest : List Entry) → entries ≡ done ++ e ∷ rest → AreDistinct entries
      → has_key mid v.items ≡ true → SharesKey entries old
  shares entries rest all distinct has =
      let among : IsKeyOf entries e.key =
      (e.body, subst (λ (es : List Entry). Contains es e) (sym all) (contains_middle done e rest))
      in
      elim ((h.those e.key).0 (ap (has_key mid) (sym is) ∙ has)) [
        | inl before ↦
            absurd (distinct_before done e (record { key = e.key; body = before.0 }) rest
            (subst AreDistinct all distinct) before.1 refl)
        | inr first ↦ record { key = e.key; among = among; shared = first }
      ]

-- the keys of all entries but those left are added
pub record IsAdding (entries left : List Entry) (old new : List (Vec ℕ)) : Type 0 where
  pub done : List Entry
  pub is : entries ≡ done ++ left
  pub added : HasAddedKeys done old new

pub adding_first : (entries left : List Entry) (old : List (Vec ℕ)) → left ≡ entries
    → IsAdding entries left old old
adding_first entries left old is = record { done = []; is = sym is; added = added_none old }

pub adding_more : (entries left : List Entry) (e : Entry) (rest : List Entry)
    (old mid new : List (Vec ℕ)) (v : Vec ℕ) → IsAdding entries left old mid → left ≡ e ∷ rest
    → v.items ≡ e.key
    → has_key mid v.items ≡ false → new ≡ insert_key vec_cmp mid v → IsAdding entries rest old new
adding_more entries left e rest old mid new v i step is absent inserted = record {
  done = i.done ++ e ∷ [];
  is = i.is ∙ ap (λ (x : List Entry). i.done ++ x) step ∙ sym (append_assoc i.done (e ∷ []) rest);
  added = added_more i.done e old mid i.added v is new absent inserted;
}

pub adding_shares : (entries left : List Entry) (e : Entry) (rest : List Entry)
    (old mid : List (Vec ℕ)) (v : Vec ℕ) → IsAdding entries left old mid → left ≡ e ∷ rest
    → v.items ≡ e.key → AreDistinct entries
    → has_key mid v.items ≡ true → SharesKey entries old
adding_shares entries left e rest old mid v i step is distinct has =
    shares i.done e old mid i.added v is entries rest
    (i.is ∙ ap (λ (x : List Entry). i.done ++ x) step) distinct has

pub adding_last : (entries left : List Entry) (old new : List (Vec ℕ))
    → IsAdding entries left old new → left ≡ [] → HasAddedKeys entries old new
adding_last entries left old new i none =
    subst (λ (es : List Entry). HasAddedKeys es old new)
    (sym (i.is ∙ ap (λ (x : List Entry). i.done ++ x) none ∙ append-nil i.done)) i.added
