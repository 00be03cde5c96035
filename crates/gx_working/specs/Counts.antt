-- The number of records that the answer of a find tells.
use Rattle.std.specs.Prelude.{◌≡◌, ◌⊎◌, ℕ, List, [], ◌∷◌, ◌++◌, true, false, codes}
use Rattle.std.specs.List.{AllByRecursion}
use Rattle.gx_tokens.specs.Lexemes.{is_digit}
use Rattle.std.specs.Fmt.{decimal}

-- the answer ends with this number, or is a refusal where it is 0
abbrev pub TellsCount : List ℕ → ℕ → Type 0
TellsCount answer count =
    ((front : List ℕ) × (answer ≡ front ++ codes "found " ++ decimal count ++ codes "\n"))
    ⊎ ((answer ≡ codes "refused: no record\n") × (count ≡ 0))

-- these digits stand before the last byte, behind a byte that is none
pub record IsBehind (text digits : List ℕ) : Type 0 where
  pub front : List ℕ
  pub byte : ℕ
  pub last : ℕ
  pub parts : text ≡ (front ++ byte ∷ []) ++ (digits ++ last ∷ [])
  pub no_digit : is_digit byte ≡ false
  pub are_digits : AllByRecursion (λ b. is_digit b ≡ true) digits
