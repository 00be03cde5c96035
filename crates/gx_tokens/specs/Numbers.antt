-- What numbers are worth.
use Rattle.std.specs.Prelude.{ℕ, ℤ, pos, negsuc, neg_ℤ, ◌+◌, ◌*◌, ◌-◌, ◌^◌, Bool, not, ◌&&◌, List, [], ◌∷◌, length, Option, Some, None, fold, nat_le, nat_lt, ◌==◌, if◌then◌else◌}
use Rattle.std.specs.List.{list_all}
use Rattle.gx_tokens.specs.Lexemes.{is_digit}

-- the number that digits are
abbrev pub digits_value : List ℕ → ℕ
digits_value digits = fold (λ value digit. value * 10 + (digit - 48)) 0 digits

-- the number that digits are, behind a `-` or not
unfoldable pub number_value : List ℕ → ℤ
number_value [] = pos 0
number_value (b ∷ bs) =
    if b == 45 then neg_ℤ (pos (digits_value bs)) else pos (digits_value (b ∷ bs))

-- the number, if it is one from 0 to `most`
abbrev pub natural_up_to : ℕ → ℤ → Option ℕ
natural_up_to most (pos n) = if nat_le n most then Some n else None
natural_up_to most (negsuc n) = None

-- the number, if it is one of 64 bits with a sign
abbrev pub signed_in_range : ℤ → Option ℤ
signed_in_range (pos n) = if nat_lt n (2 ^ 63) then Some (pos n) else None
signed_in_range (negsuc n) = if nat_lt n (2 ^ 63) then Some (negsuc n) else None

-- one or more digits
abbrev pub are_digits : List ℕ → Bool
are_digits text = not (length text == 0) && list_all is_digit text

-- digits, behind a `-` or not
unfoldable pub is_number : List ℕ → Bool
is_number [] = are_digits []
is_number (b ∷ bs) = if b == 45 then are_digits bs else are_digits (b ∷ bs)

-- the number that a text is, if it is digits behind a `-` or not, and one of 64 bits with a sign
abbrev pub signed_number : List ℕ → Option ℤ
signed_number text = if is_number text then signed_in_range (number_value text) else None
