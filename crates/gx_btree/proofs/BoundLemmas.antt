-- A search ends: it comes through no page twice.
use Rattle.std.proofs.Common.{◌≢◌, inl, inr, ◌<◌, ◌≤◌, ◌+◌, ◌∷◌, ℕ, zero, suc, List, [], length, refl, sym, ◌∙◌, subst, arith}
use Rattle.std.proofs.lemmas.Bool.{cases_eq}
use Rattle.gx_laws.proofs.NumberLemmas.{below_last}
use Rattle.gx_btree.specs.Tree.{In, BplusTree, pages}
use Rattle.gx_btree.specs.Hole.{AreUnique, IsAtHand}
use Rattle.gx_btree.proofs.StepLemmas.{top_in}

-- a list without an item
pub record IsWithout (x : ℕ) (xs : List ℕ) : Type 0 where
  pub rest : List ℕ
  pub shorter : length xs ≤ length rest + 1
  pub unique : AreUnique rest
  pub members : (y : ℕ) → In y rest → In y xs × (y ≢ x)

take_out : (x : ℕ) (xs : List ℕ) → AreUnique xs → IsWithout x xs
take_out x [] u = record {
  rest = [];
  shorter = omega arith;
  unique = tt;
  members = λ y i. absurd i;
}
take_out x (z ∷ xs) u = elim (cases_eq z x) [
  | inl e ↦ record {
    rest = xs;
    shorter = omega arith;
    unique = u.1;
    members = λ y i.
        (inr i, λ f. u.0 (subst (λ n. In n xs) (f ∙ sym e) i));
  }
  | inr d ↦ (let w = take_out x xs u.1 in record {
    rest = z ∷ w.rest;
    shorter = (let s = w.shorter in omega (arith, s));
    unique = ((λ i. u.0 (w.members z i).0), w.unique);
    members = λ y i. elim i
        [ inl e ↦ (inl e, λ f. d (sym e ∙ f)) | inr j ↦ (let m = w.members y j in (inr m.0, m.1)) ];
  })
]

pub few : (n : ℕ) (xs : List ℕ) → AreUnique xs → ((x : ℕ) → In x xs → x < n) → length xs ≤ n
few zero [] u below = omega arith
few zero (x ∷ xs) u below = let h = below x (inl refl) in omega (arith, h)
few (suc n) xs u below =
    let w = take_out n xs u in
    let h = few n w.rest w.unique
    (λ x i. let m = w.members x i in let b = below x m.0 in let d = m.1 in below_last x n b d) in
    let s = w.shorter in
    omega (arith, h, s)

pub ends : {steps : ℕ} (at : ℕ → List ℕ) (owned : ℕ → Type 0) (root p : ℕ) (key : List ℕ)
    (old : BplusTree) (size : ℕ)
    → IsAtHand at owned root p key old steps → ((q : ℕ) → owned q → q < size) → steps < size
ends at owned root p key old size h within =
    let top = top_in h.subtree in
    let u : AreUnique (p ∷ h.path) = (
      (λ i. h.fits.alone p (subst (λ y. In y (pages h.subtree)) h.fits.page_is top)
          (h.path_in p i)),
      h.unique,
    ) in
    let k = few size (p ∷ h.path) u (λ x i. within x (elim i [
      | inl e ↦ (h.owns x).1 (inl
          (subst (λ y. In y (pages h.subtree)) (h.fits.page_is ∙ sym e) top))
      | inr j ↦ (h.owns x).1 (inr (h.path_in x j))
    ])) in
    let l = h.path_is in
    omega (arith, k, l)
