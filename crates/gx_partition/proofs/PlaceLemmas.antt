-- Bounds that ascend are parted by each value, and records have the values of their form's fields.
use Rattle.std.proofs.Common.{◌≡◌, ℕ, zero, suc, ◌<◌, ◌≤◌, List, [], ◌∷◌, length, get_or, cond, Bool, true, false, refl, sym, ap, ◌∙◌, arith}
use Rattle.std.specs.List.{filter, AllByRecursion}
use Rattle.std.specs.List.Sorted.{IsStrictlySortedBy, IsPartitionedBy, IsPartitionPoint}
use Rattle.std.specs.Ordering.{is_le}
use Rattle.std.specs.declared.cmp.Ordering.{Ordering}
use Rattle.std.specs.declared.cmp.Ordering.TheVariants.{Less, Equal, Greater}
use Rattle.gx_values.specs.declared.values.Value.{Value}
use Rattle.gx_values.specs.declared.records.Form.{Form}
use Rattle.gx_values.specs.declared.records.Rec.{Rec}
use Rattle.gx_values.specs.Values.{value_cmp}
use Rattle.gx_values.proofs.OrderLemmas.{value_cmp_total, value_cmp_same}
use Rattle.gx_mapping.specs.Rule.{IsOf}
use Rattle.gx_mapping.proofs.FieldLemmas.{values_count}
use Rattle.gx_partition.specs.declared.place.Where.{Where}
use Rattle.gx_partition.specs.declared.place.Where.TheVariants.{Key, Rest}
use Rattle.gx_partition.specs.Places.{IsPlace, IsInRecord}

-- ---- the first bounds are at or below a value, and the others above it

module _ {A : Type 0} (p : A → Bool) where
  passing : Bool → A → List A → ℕ
  passing b x xs = length (cond b (x ∷ filter p xs) (filter p xs))

  pub count_is : (xs : List A) (i : ℕ) → i ≤ length xs
      → IsPartitionPoint (λ y. p y ≡ true) (λ y. p y ≡ false) xs i → length (filter p xs) ≡ i
  unfolding passing
  count_is [] i le point = omega arith
  count_is (x ∷ xs) zero le point =
      let first : p x ≡ false = point.1 0 x (omega arith) (omega arith) in
      ap (λ b. passing b x xs) first
      ∙ count_is xs zero (omega arith) (
        (λ k d low high. absurd (omega arith)),
        (λ k d low high. point.1 (suc k) d (omega arith) (omega arith)),
      )
  count_is (x ∷ xs) (suc i) le point =
      let first : p x ≡ true = point.0 0 x (omega arith) (omega arith) in
      ap (λ b. passing b x xs) first
      ∙ ap suc (count_is xs i (omega arith) (
        (λ k d low high. point.0 (suc k) d (omega arith) (omega arith)),
        (λ k d low high. point.1 (suc k) d (omega arith) (omega arith)),
      ))

at_most : (x y v : Value) → value_cmp x y ≡ Less → is_le (value_cmp y v) ≡ true
    → is_le (value_cmp x v) ≡ true
at_most x y v less le = by_order (value_cmp y v) refl le
  where
    by_order : (o : Ordering) → o ≡ value_cmp y v → is_le o ≡ true → is_le (value_cmp x v) ≡ true
    by_order Less is e = ap is_le (value_cmp_total.trans x y v less (sym is))
    by_order Equal is e = ap is_le (ap (value_cmp x) (sym (value_cmp_same y v (sym is))) ∙ less)
    by_order Greater is e = cc

pub each_at : {A : Type 0} (P : A → Type 0) (xs : List A) (i : ℕ) (d : A) → AllByRecursion P xs
    → i < length xs → P (get_or xs i d)
each_at P [] i d all lt = absurd (omega arith)
each_at P (x ∷ xs) zero d all lt = all.0
each_at P (x ∷ xs) (suc i) d all lt = each_at P xs i d all.1 (omega arith)

pub parted : (bounds : List Value) (v : Value) → IsStrictlySortedBy value_cmp bounds
    → IsPartitionedBy (λ bound. is_le (value_cmp bound v)) bounds
unfolding IsStrictlySortedBy
parted [] v sorted i j d le lt up = absurd (omega arith)
parted (x ∷ xs) v sorted zero zero d le lt up = up
parted (x ∷ xs) v sorted zero (suc j) d le lt up =
    at_most x (get_or xs j d) v (each_at (λ y. value_cmp x y ≡ Less) xs j d sorted.0 (omega arith))
    up
parted (x ∷ xs) v sorted (suc i) zero d le lt up = absurd (omega arith)
parted (x ∷ xs) v sorted (suc i) (suc j) d le lt up =
    parted xs v sorted.1 i j d (omega arith) (omega arith) up

-- ---- records

pub in_record : (at : Where) (form : Form) (r : Rec) → IsPlace at form → IsOf form r
    → IsInRecord at r
in_record (Key i) form r place is = omega (arith, place, values_count form.keys r.key is.key)
in_record (Rest i) form r place is =
    omega (arith, place, values_count form.fields r.fields is.fields)
