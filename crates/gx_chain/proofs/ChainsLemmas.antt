-- The pages of several chains of one owner.
use Rattle.std.proofs.Common.{◌≡◌, ◌≢◌, ◌↔◌, inl, inr, ℕ, zero, suc, ◌<◌, Bool, cond, List, [], ◌∷◌, ◌++◌, Some, refl, ap, subst, ◌∙◌, arith}
use Rattle.std.specs.Prelude.{◌==◌}
use Rattle.std.specs.List.{AllPairs, Contains}
use Rattle.std.specs.FinMap as fin
use Rattle.std.proofs.lemmas.Bool.{cases_Bool, cases_eq, eqb-true}
use Rattle.std.proofs.lemmas.List.Elements.{Contains-append_cases, Contains-append_left, Contains-append_right}
use Rattle.gx_laws.proofs.NumberLemmas.{number_itself}
use Rattle.gx_ports.specs.LeafMaps.{LeafMap}
use Rattle.gx_ports.specs.Sheets.{Sheets}
use Rattle.gx_chain.specs.Chain.{IsOn}
use Rattle.gx_chain.specs.Chains.{IsOfChain, IsOnChain, pages_below}
use Rattle.gx_chain.proofs.ListLemmas.{contains_later, contains_none, pairs_head, pairs_tail, pairs_cons}

-- ---- a chain by its number

-- one of the chains has other pages
abbrev pub changed : (ℕ → List ℕ) → ℕ → List ℕ → ℕ → List ℕ
changed pages j now i = cond (i == j) now (pages i)

pub changed_here : (pages : ℕ → List ℕ) (j : ℕ) (now : List ℕ) (i : ℕ) → i ≡ j
    → changed pages j now i ≡ now
changed_here pages j now i e =
    ap (λ (b : Bool). cond b now (pages i)) (ap (λ n. n == j) e ∙ number_itself j)

pub changed_other : (pages : ℕ → List ℕ) (j : ℕ) (now : List ℕ) (i : ℕ) → i ≢ j
    → changed pages j now i ≡ pages i
changed_other pages j now i d = elim (cases_Bool (i == j)) [
  | inl e ↦ absurd (d (eqb-true i j e))
  | inr e ↦ ap (λ (b : Bool). cond b now (pages i)) e
]

-- ---- members of the list

pub below_to : (pages : ℕ → List ℕ) (n q : ℕ) → Contains (pages_below pages n) q
    → IsOfChain pages n q
below_to pages zero q c = absurd (contains_none q c)
below_to pages (suc n) q c = elim (Contains-append_cases (pages_below pages n) (pages n) q c) [
  | inl before ↦
      (let r = below_to pages n q before in let less = r.below in record {
        bucket = r.bucket;
        below = omega (arith, less);
        among = r.among;
      })
  | inr here ↦ record { bucket = n; below = omega arith; among = here }
]

pub below_from : (pages : ℕ → List ℕ) (n i q : ℕ) → i < n → Contains (pages i) q
    → Contains (pages_below pages n) q
below_from pages zero i q less c = absurd (omega (arith, less))
below_from pages (suc n) i q less c = elim (cases_eq i n) [
  | inl e ↦ Contains-append_right (pages_below pages n) (pages n) q
      (subst (λ m. Contains (pages m) q) e c)
  | inr d ↦ Contains-append_left (pages_below pages n) (pages n) q
      (below_from pages n i q (omega (arith, less, d)) c)
]

pub on_below : (s : Sheets) (pages : ℕ → List ℕ) (n : ℕ) (k b : List ℕ)
    → IsOn s (pages_below pages n) k b ↔ IsOnChain s pages n k b
on_below s pages n k b = (
  λ on. (let r = below_to pages n on.page on.among in
      record {
        bucket = r.bucket;
        below = r.below;
        on = record { page = on.page; among = r.among; here = on.here };
      }),
  λ on. record {
    page = on.on.page;
    among = below_from pages n on.bucket on.on.page on.below on.on.among;
    here = on.on.here;
  },
)

-- what the chains have, the pages in the list have
pub map_below : (s : Sheets) (pages : ℕ → List ℕ) (count : ℕ) (map : LeafMap)
    → ((k b : List ℕ) → (fin.get map k ≡ Some b) ↔ IsOnChain s pages count k b) → (k b : List ℕ)
    → (fin.get map k ≡ Some b)
    ↔ IsOn s (pages_below pages count) k b
map_below s pages count map there k b =
    let both = on_below s pages count k b in (
      λ is. both.1 ((there k b).0 is),
      λ on. (there k b).1 (both.0 on),
    )

-- ---- each once

pairs_joined : (xs ys : List ℕ) → AllPairs (λ a b. a ≢ b) xs → AllPairs (λ a b. a ≢ b) ys
    → ((q : ℕ) → Contains xs q → Contains ys q → ⊥) → AllPairs (λ a b. a ≢ b) (xs ++ ys)
pairs_joined [] ys one two off = two
pairs_joined (x ∷ xs) ys one two off = pairs_cons x (xs ++ ys)
    (λ c. elim (Contains-append_cases xs ys x c)
    [ inl here ↦ pairs_head x xs one here | inr there ↦ off x (0, omega arith, refl) there ])
    (pairs_joined xs ys (pairs_tail x xs one) two
    (λ q in_x in_y. off q (contains_later x q xs in_x) in_y))

pub once_below : (pages : ℕ → List ℕ) (n : ℕ)
    → ((i : ℕ) → i < n → AllPairs (λ a b. a ≢ b) (pages i))
    → ((i j q : ℕ) → i < n → j < n → Contains (pages i) q → Contains (pages j) q → i ≡ j)
    → AllPairs (λ a b. a ≢ b) (pages_below pages n)
once_below pages zero each apart = λ i j d less below. absurd (omega (arith, below))
once_below pages (suc n) each apart = pairs_joined (pages_below pages n) (pages n)
    (once_below pages n (λ i less. each i (omega (arith, less)))
    (λ i j q in_i in_j. apart i j q (omega (arith, in_i)) (omega (arith, in_j))))
    (each n (omega arith))
    (λ q before here. (let r = below_to pages n q before in let less = r.below in let same = apart
    r.bucket n q (omega (arith, less)) (omega arith) r.among here in omega (arith, same, less)))
