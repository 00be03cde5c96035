-- What is gathered from the part of a record.
use Rattle.std.proofs.lemmas.Bool.Decides.{nat_tests}
use Rattle.std.proofs.Common.{inl, ◌≡◌, ℕ, List, [], ◌∷◌, get_or, cond, Bool, true, false, Option, Some, None, refl, sym, ap, subst, ◌∙◌, arith}
use Rattle.std.specs.Prelude.{nat_eq}
use Rattle.gx_laws.proofs.NumberLemmas.{equal_from_nat_eq}
use Rattle.gx_values.specs.declared.values.Value.{Value}
use Rattle.gx_values.specs.declared.records.Form.{Form}
use Rattle.gx_values.specs.declared.records.Rec.{Rec}
use Rattle.gx_mapping.specs.declared.parts.Part.{Part}
use Rattle.gx_mapping.specs.Rule.{In, AreOfKey, IsGathered}
use Rattle.gx_mapping.proofs.RuleLemmas.{whole_key}
use Rattle.gx_partition.specs.declared.place.Where.{Where}
use Rattle.gx_partition.specs.Places.{value_at}
use Rattle.gx_partition.specs.Bounds.{child_of}
use Rattle.gx_partition.specs.Rules.{partition_part, partition_rule, whole_of}

-- the record of a part in its own child
pub whole_there : (at : Where) (bounds : List Value) (p : Part) (n : ℕ) (r : Rec)
    → n ≡ child_of bounds (value_at at p.rec) → n ≡ p.child → r ≡ p.rec
    → Some r ≡ whole_of at bounds p
whole_there at bounds p n r is child copied = ap Some copied
    ∙ sym (same_number (child_of bounds (value_at at p.rec)) p.child (Some p.rec) (sym is ∙ child))
  where
    same_number : (a b : ℕ) (o : Option Rec) → a ≡ b → cond (nat_eq a b) o None ≡ o
    same_number a b o e = grind (arith, nat_tests)

unequal : (a b : ℕ) → nat_eq a b ≡ false → a ≡ b → ⊥
unequal a b e same = grind (arith, nat_tests)

-- one part is that of a record exactly where it is in its own child
pub gathered_one : (form : Form) (at : Where) (bounds key : List Value) (p : Part) (ps : List Part)
    (found : Option Rec) → AreOfKey (partition_rule form at bounds) key ps → ps ≡ p ∷ []
    → found ≡ whole_of at bounds p
    → IsGathered (partition_rule form at bounds) key ps found
gathered_one form at bounds key p ps found req is found_is =
    subst (IsGathered (partition_rule form at bounds) key ps) (sym found_is)
    (by_test (nat_eq (child_of bounds (value_at at p.rec)) p.child) refl)
  where
    by_test : (b : Bool) → b ≡ nat_eq (child_of bounds (value_at at p.rec)) p.child
        → IsGathered (partition_rule form at bounds) key ps (cond b (Some p.rec) None)
    by_test true e =
        let of = req.each p (subst (In p) (sym is) (inl refl)) in
        let child = equal_from_nat_eq (child_of bounds (value_at at p.rec)) p.child (sym e) in (
          of.fits,
          whole_key form.keys key p.rec.key req.key_fits of.fits.key of.under,
          (λ i. record { child = child i; rec = p.rec } ∷ []) ∙ sym is,
        )
    by_test false e = λ r is_r key_r same.
        let part : partition_part at bounds r ≡ p = ap (λ (l : List Part). get_or l 0 p) (same ∙ is)
        in
        let child : child_of bounds (value_at at p.rec) ≡ p.child =
        ap (λ (q : Part). child_of bounds (value_at at q.rec)) (sym part)
        ∙ ap (λ (q : Part). q.child) part in
        unequal (child_of bounds (value_at at p.rec)) p.child (sym e) child

-- a list of one item
