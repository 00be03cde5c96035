-- The digits at the end of an answer.
use Rattle.std.proofs.Common.{◌≡◌, ℕ, zero, suc, ◌+◌, ◌/◌, ◌%◌, ◌<◌, true, false, cond, eqb, List, [], ◌∷◌, ◌++◌, length, codes, refl, sym, ap, ◌∙◌, append_assoc, inl, inr, arith}
use Rattle.std.specs.Prelude.{nat_lt}
use Rattle.std.specs.List.{AllByRecursion}
use Rattle.std.specs.Fmt.{decimal, digits, digits_onto, digit_glyph}
use Rattle.std.proofs.lemmas.Fmt.{decimal_digit}
use Rattle.std.proofs.lemmas.Bool.{and_from, le-leb, lt-ltb, cond-true}
use Rattle.gx_tokens.specs.Lexemes.{is_digit}
use Rattle.gx_working.specs.Counts.{TellsCount, IsBehind}

-- ---- a number in digits

abbrev AreDigits : List ℕ → Type 0
AreDigits = AllByRecursion (λ b. is_digit b ≡ true)

glyph_is : (d : ℕ) → d < 10 → is_digit (digit_glyph false d) ≡ true
glyph_is d h =
    ap is_digit (cond-true (nat_lt d 10) _ _ (lt-ltb d 10 h))
    ∙ and_from _ _ (le-leb 48 (48 + d) (omega arith)) (le-leb (48 + d) 57 (omega arith))

onto_digits : (k n : ℕ) (acc : List ℕ) → AreDigits acc → AreDigits (digits_onto k 10 false n acc)
onto_digits zero n acc h = h
onto_digits (suc k) n acc h =
    let glyph = glyph_is (n % 10) (omega arith) in
    elim (eqb (n / 10) 0) as (λ b. AreDigits
    (cond b (digit_glyph false (n % 10) ∷ acc)
    (digits_onto k 10 false (n / 10) (digit_glyph false (n % 10) ∷ acc)))) [
      | true ↦ (glyph, h)
      | false ↦ onto_digits k (n / 10) (digit_glyph false (n % 10) ∷ acc) (glyph, h)
    ]

onto_some : (k n : ℕ) (acc : List ℕ) → 0 < length acc → 0 < length (digits_onto k 10 false n acc)
onto_some zero n acc h = h
onto_some (suc k) n acc h =
    elim (eqb (n / 10) 0) as (λ b. 0 < length
    (cond b (digit_glyph false (n % 10) ∷ acc)
    (digits_onto k 10 false (n / 10) (digit_glyph false (n % 10) ∷ acc)))) [
      | true ↦ omega arith
      | false ↦ onto_some k (n / 10) (digit_glyph false (n % 10) ∷ acc) (omega arith)
    ]

decimal_digits : (n : ℕ) → AreDigits (decimal n)
unfolding digits
decimal_digits n = onto_digits 64 n [] tt

first_some : (k n : ℕ) → 0 < length (digits_onto (suc k) 10 false n [])
first_some k n =
    elim (eqb (n / 10) 0) as (λ b. 0 < length
    (cond b (digit_glyph false (n % 10) ∷ [])
    (digits_onto k 10 false (n / 10) (digit_glyph false (n % 10) ∷ [])))) [
      | true ↦ omega arith
      | false ↦ onto_some k (n / 10) (digit_glyph false (n % 10) ∷ []) (omega arith)
    ]

decimal_some : (n : ℕ) → 0 < length (decimal n)
unfolding digits
decimal_some n = first_some 63 n

-- ---- the number of an answer

number_behind : (front : List ℕ) (answer : List ℕ) (n : ℕ)
    → answer ≡ front ++ codes "found " ++ decimal n ++ codes "\n" → IsBehind answer (decimal n)
number_behind front answer n e = record {
  front = front ++ codes "found";
  byte = 32;
  last = 10;
  parts = e ∙ append_assoc (front ++ codes "found ") (decimal n) (codes "\n")
      ∙ ap (λ t. t ++ (decimal n ++ codes "\n"))
      (sym (append_assoc front (codes "found") (32 ∷ [])));
  no_digit = refl;
  are_digits = decimal_digits n;
}

nothing_behind : (answer : List ℕ) → answer ≡ codes "refused: no record\n" → IsBehind answer []
nothing_behind answer e = record {
  front = codes "refused: no recor";
  byte = 100;
  last = 10;
  parts = e;
  no_digit = refl;
  are_digits = tt;
}

pub some_count : (answer ds : List ℕ) (n : ℕ)
    → ((others : List ℕ) → IsBehind answer others → ds ≡ others)
    → 0 < length ds → TellsCount answer n → ds ≡ decimal n
some_count answer ds n one some (inl h) = one (decimal n) (number_behind h.0 answer n h.1)
some_count answer ds n one some (inr h) =
    absurd (omega (arith, ap length (one [] (nothing_behind answer h.0))))

pub no_count : (answer ds : List ℕ) (n : ℕ)
    → ((others : List ℕ) → IsBehind answer others → ds ≡ others)
    → length ds ≡ 0 → TellsCount answer n → codes "0" ≡ decimal n
no_count answer ds n one none (inl h) =
    absurd (omega (
      arith,
      decimal_some n,
      ap length (one (decimal n) (number_behind h.0 answer n h.1)),
    ))
no_count answer ds n one none (inr h) = sym (decimal_digit 0 (omega arith)) ∙ ap decimal (sym h.1)
