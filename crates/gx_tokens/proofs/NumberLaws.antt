-- Printed numbers are number tokens, and are worth what they were printed from.
use Rattle.std.proofs.Common.{◌≡◌, not, false, ltb, Some, length, ℕ, suc, ◌+◌, ◌*◌, ◌-◌, ◌<◌, ◌≤◌, ◌^◌, true, eqb, List, [], ◌∷◌, ◌++◌, fold, refl, ap, subst, ◌∙◌, arith, inl, inr}
use Rattle.std.specs.Prelude.{IsTrue, ℤ, pos, negsuc}
use Rattle.std.specs.List.{AllByRecursion, list_all}
use Rattle.std.specs.Fmt.{decimal, signed_decimal}
use Rattle.std.proofs.Common.{◌/◌, ◌%◌, length-append}
use Rattle.std.specs.Int.RustNames.{FitsSigned}
use Rattle.std.specs.Int.{w64}
use Rattle.std.proofs.lemmas.Bool.{cond-true, cond-false, ne_eqb, and_from, le-leb, lt-ltb}
use Rattle.std.proofs.lemmas.Fmt.{decimal_by_steps}
use Rattle.gx_tokens.specs.Lexemes.{is_digit}
use Rattle.gx_tokens.specs.Numbers.{digits_value, number_value, are_digits, is_number, signed_in_range, signed_number}
use Rattle.gx_tokens.specs.Spelling.{AreDigits, IsNumber}

-- the text is digits that are this number
pub record IsDecimal (n : ℕ) (text : List ℕ) : Type 0 where
  pub digits : AreDigits text
  pub value : digits_value text ≡ n

digit_is : (d : ℕ) → d < 10 → is_digit (48 + d) ≡ true
digit_is d h = and_from _ _ (le-leb 48 (48 + d) (omega arith)) (le-leb (48 + d) 57 (omega arith))

each-append : (xs : List ℕ) (d : ℕ) → AllByRecursion (λ b. IsTrue (is_digit b)) xs
    → is_digit d ≡ true → AllByRecursion (λ b. IsTrue (is_digit b)) (xs ++ d ∷ [])
each-append [] d each is = (is, tt)
each-append (x ∷ xs) d each is = (each.0, each-append xs d each.1 is)

value_after : (v : ℕ) (xs : List ℕ) (d : ℕ)
    → fold (λ value digit. value * 10 + (digit - 48)) v (xs ++ (48 + d) ∷ []) ≡ fold
    (λ value digit. value * 10 + (digit - 48)) v xs * 10 + d
value_after v [] d = omega arith
value_after v (x ∷ xs) d = value_after (v * 10 + (x - 48)) xs d

one_digit : (n : ℕ) → n < 10 → IsDecimal n ((48 + n) ∷ [])
one_digit n lt = record {
  digits = record { some = omega arith; each = (digit_is n lt, tt) };
  value = omega arith;
}

last_digit : (n : ℕ) (ds : List ℕ) → 10 ≤ n → IsDecimal (n / 10) ds
    → IsDecimal n (ds ++ ((48 + n % 10) ∷ []))
last_digit n ds big h = record {
  digits = record {
    some = omega (arith, length-append ds ((48 + n % 10) ∷ []));
    each = each-append ds (48 + n % 10) h.digits.each (digit_is (n % 10) (omega arith));
  };
  value = value_after 0 ds (n % 10) ∙ (ap (λ (v : ℕ). v * 10 + n % 10) h.value ∙ omega arith);
}

pub decimal_is : (n : ℕ) → n < 2 ^ 64 → IsDecimal n (decimal n)
decimal_is n lt = decimal_by_steps IsDecimal one_digit last_digit n lt

no_sign : (b : ℕ) → b ≡ 45 → is_digit b ≡ true → ⊥
no_sign b e h = let f : is_digit 45 ≡ true = subst (λ (z : ℕ). is_digit z ≡ true) e h in cc

-- digits are a number that is worth what they are
value_of_digits : (text : List ℕ) → AreDigits text → number_value text ≡ pos (digits_value text)
unfolding number_value
value_of_digits [] h = absurd (omega (arith, h.some))
value_of_digits (b ∷ bs) h =
    let digit : is_digit b ≡ true = h.each.0 in
    cond-false (eqb b 45) _ _ (ne_eqb b 45 (λ e. no_sign b e digit))

pub number_value-decimal : (n : ℕ) → n < 2 ^ 64 → number_value (decimal n) ≡ pos n
number_value-decimal n lt = let d = decimal_is n lt in value_of_digits (decimal n) d.digits
    ∙ ap pos d.value

pub IsNumber-decimal : (n : ℕ) → n < 2 ^ 64 → IsNumber (decimal n)
IsNumber-decimal n lt = inl (decimal_is n lt).digits

pub number_value-signed_decimal : (z : ℤ) → FitsSigned w64 z → number_value (signed_decimal z) ≡ z
unfolding number_value
number_value-signed_decimal (pos n) fits = number_value-decimal n (omega (arith, fits))
number_value-signed_decimal (negsuc n) fits = let d = decimal_is (suc n) (omega (arith, fits)) in
    rw d.value refl

pub IsNumber-signed_decimal : (z : ℤ) → FitsSigned w64 z → IsNumber (signed_decimal z)
IsNumber-signed_decimal (pos n) fits = IsNumber-decimal n (omega (arith, fits))
IsNumber-signed_decimal (negsuc n) fits =
    inr (decimal (suc n), refl, (decimal_is (suc n) (omega (arith, fits))).digits)

-- ---- numbers of 64 bits with a sign

all_digits : (text : List ℕ) → AllByRecursion (λ b. IsTrue (is_digit b)) text
    → list_all is_digit text ≡ true
all_digits [] each = refl
all_digits (b ∷ bs) each = and_from _ _ each.0 (all_digits bs each.1)

are_digits-true : (text : List ℕ) → AreDigits text → are_digits text ≡ true
are_digits-true text h =
    let some = h.some in
    let filled : eqb (length text) 0 ≡ false = ne_eqb (length text) 0 (λ e. omega arith) in
    and_from _ _ (ap not filled) (all_digits text h.each)

pub is_number-true : (text : List ℕ) → IsNumber text → is_number text ≡ true
unfolding is_number
is_number-true [] (inl h) = are_digits-true [] h
is_number-true (b ∷ bs) (inl h) =
    let digit : is_digit b ≡ true = h.each.0 in
    cond-false (eqb b 45) _ _ (ne_eqb b 45 (λ e. no_sign b e digit)) ∙ are_digits-true (b ∷ bs) h
is_number-true text (inr h) = let e : text ≡ 45 ∷ h.0 = h.1 in rw e (are_digits-true h.0 h.2)

pub signed_number-signed_decimal : (z : ℤ) → FitsSigned w64 z
    → signed_number (signed_decimal z) ≡ Some z
signed_number-signed_decimal z fits =
    cond-true (is_number (signed_decimal z)) _ _
    (is_number-true (signed_decimal z) (IsNumber-signed_decimal z fits))
    ∙ (ap signed_in_range (number_value-signed_decimal z fits) ∙ in_range z fits)
  where
    in_range : (z : ℤ) → FitsSigned w64 z → signed_in_range z ≡ Some z
    in_range (pos n) fits = cond-true (ltb n (2 ^ 63)) _ _ (lt-ltb n (2 ^ 63) (omega (arith, fits)))
    in_range (negsuc n) fits =
        cond-true (ltb n (2 ^ 63)) _ _ (lt-ltb n (2 ^ 63) (omega (arith, fits)))

pub in_range_again : (z : ℤ) → FitsSigned w64 z → signed_in_range z ≡ Some z
in_range_again (pos n) fits =
    cond-true (ltb n (2 ^ 63)) _ _ (lt-ltb n (2 ^ 63) (omega (arith, fits)))
in_range_again (negsuc n) fits =
    cond-true (ltb n (2 ^ 63)) _ _ (lt-ltb n (2 ^ 63) (omega (arith, fits)))
