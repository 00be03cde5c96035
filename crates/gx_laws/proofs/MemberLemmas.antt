-- Members of lists that are joined.
use Rattle.std.proofs.Common.{List, [], ◌∷◌, ◌++◌, ◌⊎◌, inl, inr}
use Rattle.gx_laws.specs.Members.{In}

pub in_left : {A : Type 0} (x : A) (xs ys : List A) → In x xs → In x (xs ++ ys)
in_left x [] ys h = absurd h
in_left x (z ∷ xs) ys (inl e) = inl e
in_left x (z ∷ xs) ys (inr h) = inr (in_left x xs ys h)

pub in_right : {A : Type 0} (x : A) (xs ys : List A) → In x ys → In x (xs ++ ys)
in_right x [] ys h = h
in_right x (z ∷ xs) ys h = inr (in_right x xs ys h)

pub in_cases : {A : Type 0} (x : A) (xs ys : List A) → In x (xs ++ ys) → In x xs ⊎ In x ys
in_cases x [] ys h = inr h
in_cases x (z ∷ xs) ys (inl e) = inl (inl e)
in_cases x (z ∷ xs) ys (inr h) =
    elim (in_cases x xs ys h) [ inl a ↦ inl (inr a) | inr b ↦ inr b ]
