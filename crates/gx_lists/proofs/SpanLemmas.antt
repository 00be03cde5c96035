-- The span of all keys.
use Rattle.std.proofs.Common.{◌≡◌, ℕ, true, List, [], ◌∷◌, refl, ◌∙◌}
use Rattle.gx_values.specs.declared.keys.Span.{Span}
use Rattle.gx_values.specs.Keys.{is_inside}

pub all_inside : (span : Span) (key : List ℕ) → span.lo ≡ [] → span.hi ≡ []
    → is_inside span.lo span.hi key ≡ true
all_inside span key l h = (λ i. is_inside (l i) (h i) key) ∙ each key
  where
    each : (key : List ℕ) → is_inside [] [] key ≡ true
    each [] = refl
    each (x ∷ key) = refl
