-- Members of lists.
use Rattle.std.proofs.Common.{List, [], ◌∷◌, ◌++◌, inl, inr}
use Rattle.gx_btree.specs.Hole.{Joins}
pub use Rattle.gx_laws.proofs.MemberLemmas.{in_left, in_right, in_cases}

pub joins_none : {A : Type 0} (xs : List A) → Joins xs xs []
joins_none xs x = (inl, λ h. elim h [ inl a ↦ a | inr b ↦ absurd b ])

pub joins_append : {A : Type 0} (xs ys : List A) → Joins (xs ++ ys) xs ys
joins_append xs ys x =
    (in_cases x xs ys, λ h. elim h [ inl a ↦ in_left x xs ys a | inr b ↦ in_right x xs ys b ])

-- a list goes to the front of what is left over
pub joins_more : {A : Type 0} (zs xs ys rest : List A) → Joins xs ys rest
    → Joins (zs ++ xs) ys (zs ++ rest)
joins_more zs xs ys rest j x = (
  λ h. elim (in_cases x zs xs h) [
    | inl a ↦ inr (in_left x zs rest a)
    | inr b ↦ elim ((j x).0 b) [ inl c ↦ inl c | inr d ↦ inr (in_right x zs rest d) ]
  ],
  λ h. elim h [
    | inl a ↦ in_right x zs xs ((j x).1 (inl a))
    | inr b ↦ elim (in_cases x zs rest b)
        [ inl c ↦ in_left x zs xs c | inr d ↦ in_right x zs xs ((j x).1 (inr d)) ]
  ],
)

pub joins_append_three : {A : Type 0} (xs ys zs : List A) → Joins (xs ++ (ys ++ zs)) (xs ++ ys) zs
joins_append_three xs ys zs x = (
  λ h. elim (in_cases x xs (ys ++ zs) h) [
    | inl a ↦ inl (in_left x xs ys a)
    | inr b ↦ elim (in_cases x ys zs b) [ inl c ↦ inl (in_right x xs ys c) | inr d ↦ inr d ]
  ],
  λ h. elim h [
    | inl a ↦ elim (in_cases x xs ys a)
        [ inl c ↦ in_left x xs (ys ++ zs) c | inr d ↦ in_right x xs (ys ++ zs) (in_left x ys zs d) ]
    | inr b ↦ in_right x xs (ys ++ zs) (in_right x ys zs b)
  ],
)

pub joins_more_left : {A : Type 0} (zs xs ys : List A) → Joins xs ys []
    → Joins (zs ++ xs) (zs ++ ys) []
joins_more_left zs xs ys j x = (
  λ h. elim (in_cases x zs xs h) [
    | inl a ↦ inl (in_left x zs ys a)
    | inr b ↦ elim ((j x).0 b) [ inl c ↦ inl (in_right x zs ys c) | inr n ↦ absurd n ]
  ],
  λ h. elim h [
    | inl a ↦ elim (in_cases x zs ys a)
        [ inl c ↦ in_left x zs xs c | inr d ↦ in_right x zs xs ((j x).1 (inl d)) ]
    | inr n ↦ absurd n
  ],
)

pub joins_end : {A : Type 0} (xs : List A) → Joins xs (xs ++ []) []
joins_end xs x = (
  (λ i. inl (in_left x xs [] i)),
  λ h. elim h [
    | inl a ↦ elim (in_cases x xs [] a) [ inl b ↦ b | inr n ↦ absurd n ]
    | inr n ↦ absurd n
  ],
)

-- below a node: one part of what is left over is the node itself and the children beside
pub joins_below : {A : Type 0} (p : A) (all kid others rest xs : List A) → Joins all kid others
    → Joins xs (p ∷ all) rest → Joins xs kid (p ∷ (others ++ rest))
joins_below p all kid others rest xs j k x = (
  λ h. elim ((k x).0 h) [
    | inl a ↦ elim a [
      | inl c ↦ inr (inl c)
      | inr d ↦ elim ((j x).0 d) [ inl e ↦ inl e | inr f ↦ inr (inr (in_left x others rest f)) ]
    ]
    | inr b ↦ inr (inr (in_right x others rest b))
  ],
  λ h. elim h [
    | inl a ↦ (k x).1 (inl (inr ((j x).1 (inl a))))
    | inr b ↦ elim b [
      | inl c ↦ (k x).1 (inl (inl c))
      | inr d ↦ elim (in_cases x others rest d)
          [ inl e ↦ (k x).1 (inl (inr ((j x).1 (inr e)))) | inr f ↦ (k x).1 (inr f) ]
    ]
  ],
)

-- parts of a part
pub joins_through : {A : Type 0} (all kid beside rest xs : List A) → Joins all kid beside
    → Joins xs all rest
    → Joins xs kid (beside ++ rest)
joins_through all kid beside rest xs j k x = (
  λ h. elim ((k x).0 h) [
    | inl a ↦ elim ((j x).0 a) [ inl c ↦ inl c | inr d ↦ inr (in_left x beside rest d) ]
    | inr b ↦ inr (in_right x beside rest b)
  ],
  λ h. elim h [
    | inl a ↦ (k x).1 (inl ((j x).1 (inl a)))
    | inr b ↦ elim (in_cases x beside rest b)
        [ inl c ↦ (k x).1 (inl ((j x).1 (inr c))) | inr d ↦ (k x).1 (inr d) ]
  ],
)
