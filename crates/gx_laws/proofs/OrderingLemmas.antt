-- What the tests of an ordering say of it.
use Rattle.std.proofs.Common.{◌≡◌, true, false, refl, sym, subst, ℕ, ◌<◌, arith}
use Rattle.std.specs.Prelude.{T}
use Rattle.std.specs.Ordering.{is_lt, is_le, is_gt, is_eq, ordering_then, nat_cmp}
use Rattle.std.specs.declared.cmp.Ordering.{Ordering}
use Rattle.std.specs.declared.cmp.Ordering.TheVariants.{Less, Equal, Greater}
use Rattle.std.proofs.lemmas.Bool.Decides.{nat_tests}

-- ---- tests

pub less_equal : Less ≡ Equal → ⊥
less_equal e = cc

pub greater_equal : Greater ≡ Equal → ⊥
greater_equal e = cc

pub is_less : (r : Ordering) → T (is_lt r) → r ≡ Less
is_less Less e = refl
is_less Equal e = absurd e
is_less Greater e = absurd e

pub less_is : (r : Ordering) → r ≡ Less → T (is_lt r)
less_is r e = subst (λ x. T (is_lt x)) (sym e) tt

pub less_from_lt : (r : Ordering) → is_lt r ≡ true → r ≡ Less
less_from_lt Less e = refl
less_from_lt Equal e = cc
less_from_lt Greater e = cc

pub equal_from_eq : (r : Ordering) → is_eq r ≡ true → r ≡ Equal
equal_from_eq Less e = cc
equal_from_eq Equal e = refl
equal_from_eq Greater e = cc

pub le_not_gt : (r : Ordering) → is_le r ≡ true → is_gt r ≡ false
le_not_gt Less e = refl
le_not_gt Equal e = refl
le_not_gt Greater e = cc

pub not_gt_le : (r : Ordering) → is_gt r ≡ false → is_le r ≡ true
not_gt_le Less e = refl
not_gt_le Equal e = refl
not_gt_le Greater e = cc

pub gt_not_le : (r : Ordering) → is_gt r ≡ true → is_le r ≡ false
gt_not_le Less e = cc
gt_not_le Equal e = cc
gt_not_le Greater e = refl

-- ---- numbers

pub cmp_less : (x y : ℕ) → x < y → nat_cmp x y ≡ Less
cmp_less x y h = grind (arith, nat_tests)

pub cmp_equal : (x y : ℕ) → x ≡ y → nat_cmp x y ≡ Equal
cmp_equal x y h = grind (arith, nat_tests)

pub cmp_greater : (x y : ℕ) → y < x → nat_cmp x y ≡ Greater
cmp_greater x y h = grind (arith, nat_tests)

-- ---- two one after the other

pub last_one : (r : Ordering) → r ≡ ordering_then r Equal
last_one Less = refl
last_one Equal = refl
last_one Greater = refl

pub second_equal : (a b : Ordering) → ordering_then a b ≡ Equal → b ≡ Equal
second_equal Less b e = absurd (less_equal e)
second_equal Equal b e = e
second_equal Greater b e = absurd (greater_equal e)
