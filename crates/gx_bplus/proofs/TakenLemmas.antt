-- Entries without the one of a key.
use Rattle.std.proofs.Common.{◌≡◌, ◌≢◌, inl, inr, ℕ, zero, suc, ◌<◌, List, [], ◌∷◌, length, get_or, sym, ap, ◌∙◌, subst, arith}
use Rattle.std.specs.List.{All, HoldsAt, remove}
use Rattle.gx_slots.specs.Entries.{Entry}
use Rattle.gx_btree.specs.Tree.{Ascending}
use Rattle.gx_btree.proofs.OrderLemmas.{differ}
use Rattle.gx_btree.proofs.EntryLemmas.{in_place, place_in}
use Rattle.gx_bplus.specs.Changes.{IsTakenFrom}

-- the entry at a place is taken away
pub taken_at : (es : List Entry) (i : ℕ) (key : List ℕ) → Ascending es → i < length es
    → HoldsAt (λ e. e.key ≡ key) es i
    → IsTakenFrom key es (remove es i) × Ascending (remove es i)
taken_at [] i key up below at = absurd (omega (arith, below))
taken_at (x ∷ xs) zero key up below at = (
  (λ y. (
    (λ i. (inr i, λ e. differ x.key y.key (up.0 y i) (at x ∙ sym e))),
    (λ h. elim h.0 [ inl e ↦ absurd (h.1 (ap (λ (z : Entry). z.key) e ∙ at x)) | inr i ↦ i ]),
  )),
  up.1,
)
taken_at (x ∷ xs) (suc j) key up below at =
    let h = taken_at xs j key up.1 (omega (arith, below)) at in
    let other : x.key ≢ key =
    λ e. differ x.key (get_or xs j x).key
    (up.0 (get_or xs j x) (in_place xs j x (omega (arith, below))))
    (e ∙ sym (at x)) in (
      (λ y. (
        (λ i. elim i [
          | inl e ↦ (inl e, λ f. other (sym (ap (λ (z : Entry). z.key) e) ∙ f))
          | inr k ↦ (let t = (h.0 y).0 k in (inr t.0, t.1))
        ]),
        (λ k. elim k.0 [ inl e ↦ inl e | inr i ↦ inr ((h.0 y).1 (i, k.1)) ]),
      )),
      ((λ y i. up.0 y ((h.0 y).0 i).0), h.1),
    )

pub none_taken : (es : List Entry) (key : List ℕ) → All (λ e. e.key ≢ key) es
    → IsTakenFrom key es es
none_taken es key other x = (
  (λ i. (
    i,
    let p = place_in x es i in subst (λ (e : Entry). e.key ≢ key) (p.is x)
        (other p.place x p.below),
  )),
  λ h. h.0,
)
