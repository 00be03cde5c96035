-- Whether bytes stand before others.
use Rattle.std.proofs.Common.{◌≡◌, ℕ, Bool, true, false, List, sym, ap, ◌∙◌}
use Rattle.std.specs.Cmp.Lexicographic.{slice_cmp}
use Rattle.std.specs.Ordering.{nat_cmp, is_le, is_lt, ordering_reverse}
use Rattle.std.specs.declared.cmp.Ordering.{Ordering}
use Rattle.std.specs.declared.cmp.Ordering.TheVariants.{Less, Equal, Greater}
use Rattle.std.proofs.lemmas.Cmp.{nat_list_cmp_total}
use Rattle.gx_laws.proofs.OrderingLemmas.{less_from_lt}

abbrev pub cmp : List ℕ → List ℕ → Ordering
cmp = slice_cmp nat_cmp

-- some bytes stand before others, or the others are them or stand before them
pub below_is_less : (a b : List ℕ) (answer : Bool) → answer ≡ is_lt (cmp a b) → answer ≡ true
    → cmp a b ≡ Less
below_is_less a b answer is holds = less_from_lt (cmp a b) (sym is ∙ holds)

pub not_below_is_le : (a b : List ℕ) (answer : Bool) → answer ≡ is_lt (cmp a b) → answer ≡ false
    → is_le (cmp b a) ≡ true
not_below_is_le a b answer is fails =
    go (cmp a b) (sym is ∙ fails) (nat_list_cmp_total.antisymm b a) where
      go : (o : Ordering) → is_lt o ≡ false → cmp b a ≡ ordering_reverse o → is_le (cmp b a) ≡ true
      go Less bad turned = absurd cc
      go Equal fails turned = ap is_le turned
      go Greater fails turned = ap is_le turned
