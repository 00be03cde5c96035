-- Truth values that hold together.
use Rattle.std.proofs.Common.{◌≡◌, Bool, true, false, refl, sym}
use Rattle.std.specs.Prelude.{T, ◌&&◌}
use Rattle.std.proofs.lemmas.Bool.{true≢false}

pub both_true : (a b : Bool) → T a → T b → T (a && b)
both_true true b p q = q
both_true false b p q = absurd p

pub first_of_both : (a b : Bool) → T (a && b) → T a
first_of_both true b p = tt
first_of_both false b p = absurd p

pub second_of_both : (a b : Bool) → T (a && b) → T b
second_of_both true b p = p
second_of_both false b p = absurd p

pub both_parts : (a b : Bool) → (a && b) ≡ true → (a ≡ true) × (b ≡ true)
both_parts true b e = (refl, e)
both_parts false b e = absurd (true≢false (sym e))
