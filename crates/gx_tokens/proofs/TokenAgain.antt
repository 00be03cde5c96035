-- What is spelled as the first token is found.
use Rattle.std.proofs.Common.{◌≡◌, ℕ, suc, ◌+◌, ◌-◌, ◌≤◌, Bool, true, false, not, cond, eqb, ltb, List, [], ◌∷◌, ◌++◌, length, take, Some, option_map, Ok, refl, ap, subst, ◌∙◌, append_assoc, arith, inl, inr}
use Rattle.std.specs.Prelude.{IsTrue}
use Rattle.std.specs.List.{prefix_len, AllByRecursion}
use Rattle.std.proofs.lemmas.Bool.{leb-true, lt-leb, le-ltb, eqb-true, ne_eqb, eq-eqb, or_parts, or_cases, or_from, and_left, and_parts, cond-true, cond-false}
use Rattle.std.proofs.lemmas.List.{take_at, drop_at, length-append}
use Rattle.gx_tokens.specs.Lexemes.{Lexeme, Word, Number, Quoted, Open, Close, Comma, Equals, End, is_blank, after_blanks, is_digit, is_word_start, is_word_byte, continues_run, is_printable, after_quoted, split_word, sign_len, split_digits, split_number, split_quoted, token_or, token_here, next_token}
use Rattle.gx_tokens.specs.Spelling.{spelling, IsWord, AreDigits, IsNumber, IsQuoted, IsToken, NoQuote, MayFollow, AreBlanks, FirstToken}

abbrev Stops : (ℕ → Bool) → List ℕ → Type 0
Stops p [] = Unit {0}
Stops p (b ∷ bs) = p b ≡ false

run_again : (p : ℕ → Bool) (xs rest : List ℕ) → AllByRecursion (λ y. IsTrue (p y)) xs → Stops p rest
    → prefix_len p (xs ++ rest) ≡ length xs
run_again p [] [] each stops = refl
run_again p [] (b ∷ bs) each stops = rw stops refl
run_again p (x ∷ xs) rest each stops = let ih = run_again p xs rest each.1 stops in
    let yes : p x ≡ true = each.0 in rw (yes, ih) (omega arith)

stops_word : (rest : List ℕ) → continues_run rest ≡ false → Stops is_word_byte rest
stops_word [] h = tt
stops_word (b ∷ bs) h = (or_parts _ _ h).0

stops_digit : (rest : List ℕ) → continues_run rest ≡ false → Stops is_digit rest
stops_digit [] h = tt
stops_digit (b ∷ bs) h = (or_parts _ _ (or_parts (is_word_byte b) (eqb b 45) h).0).1

word_again : (text rest : List ℕ) → IsWord text → continues_run rest ≡ false
    → split_word (text ++ rest) ≡ Some (text, rest)
word_again text rest word apart =
    let n = run_again is_word_byte text rest word.each (stops_word rest apart) in
    let short : ltb 16 (length text) ≡ false = le-ltb _ _ word.short in
    rw (n, short, take_at text rest (length text) refl, drop_at text rest (length text) refl, apart)
    refl

word_start_from : (b : ℕ) → is_word_start b ≡ true → 95 ≤ b
word_start_from b h =
    elim (or_cases _ _ h) [
      | inl range ↦ let low = leb-true 97 b (and_parts _ _ range).0 in omega arith
      | inr is ↦ let e = eqb-true b 95 is in omega arith
    ]

-- the sixth choice, where no mark stands
past_marks : {A : Type 0} (c1 c2 c3 c4 c5 : Bool) (a b c d e x : A) → c1 ≡ false → c2 ≡ false
    → c3 ≡ false → c4 ≡ false → c5 ≡ false
    → cond c1 a (cond c2 b (cond c3 c (cond c4 d (cond c5 e x)))) ≡ x
past_marks c1 c2 c3 c4 c5 a b c d e x e1 e2 e3 e4 e5 = rw (e1, e2, e3, e4, e5) refl

record NoMark (b : ℕ) : Type 0 where
  pub not_open : b ≡ 40 → ⊥
  pub not_close : b ≡ 41 → ⊥
  pub not_comma : b ≡ 44 → ⊥
  pub not_equals : b ≡ 61 → ⊥
  pub not_quote : b ≡ 34 → ⊥

no_mark : (b : ℕ) (bs : List ℕ) → NoMark b
    → token_here (b ∷ bs) ≡ cond (is_word_start b)
    (token_or Word (length (b ∷ bs)) (split_word (b ∷ bs)))
    (token_or Number (length (b ∷ bs)) (split_number (b ∷ bs)))
no_mark b bs h =
    past_marks (eqb b 40) (eqb b 41) (eqb b 44) (eqb b 61) (eqb b 34) _ _ _ _ _ _
    (ne_eqb b 40 h.not_open) (ne_eqb b 41 h.not_close) (ne_eqb b 44 h.not_comma)
    (ne_eqb b 61 h.not_equals) (ne_eqb b 34 h.not_quote)

here_word : (text rest : List ℕ) → IsWord text → continues_run rest ≡ false
    → token_here (text ++ rest) ≡ Ok (Word text, rest)
here_word [] rest word apart = absurd word.starts
here_word (b ∷ bs) rest word apart =
    let starts : is_word_start b ≡ true = word.starts in
    let big : 95 ≤ b = word_start_from b starts in
    no_mark b (bs ++ rest) (record {
      not_open = λ e. omega arith;
      not_close = λ e. omega arith;
      not_comma = λ e. omega arith;
      not_equals = λ e. omega arith;
      not_quote = λ e. omega arith;
    })
    ∙ (cond-true (is_word_start b) _ _ starts
    ∙ ap (token_or Word (length (b ∷ (bs ++ rest)))) (word_again (b ∷ bs) rest word apart))

-- ---- numbers

low_no_word : (b : ℕ) → b ≤ 57 → is_word_start b ≡ false
low_no_word b h = or_from _ _ (and_left _ _ (lt-leb 97 b (omega arith)))
    (ne_eqb b 95 (λ e. omega arith))

pub digit_range : (b : ℕ) → is_digit b ≡ true → (48 ≤ b) × (b ≤ 57)
digit_range b h = let p = and_parts _ _ h in (leb-true 48 b p.0, leb-true b 57 p.1)

digits_again : (digits rest : List ℕ) → AreDigits digits → continues_run rest ≡ false
    → (prefix_len is_digit (digits ++ rest) ≡ length digits) × (eqb (length digits) 0 ≡ false)
digits_again digits rest h apart =
    let some = h.some in
    (run_again is_digit digits rest h.each (stops_digit rest apart), ne_eqb _ _ (λ e. omega arith))

unsigned_again : (text rest : List ℕ) → prefix_len is_digit (text ++ rest) ≡ length text
    → eqb (length text) 0 ≡ false → continues_run rest ≡ false
    → split_digits 0 (text ++ rest) ≡ Some (text, rest)
unsigned_again text rest run some apart =
    let k : 0 + length text ≡ length text = omega arith in
    rw (
      run,
      some,
      k,
      take_at text rest (length text) refl,
      drop_at text rest (length text) refl,
      apart,
    ) refl

plain_again : (b : ℕ) (bs rest : List ℕ) → AreDigits (b ∷ bs) → continues_run rest ≡ false
    → split_number (b ∷ (bs ++ rest)) ≡ Some (b ∷ bs, rest)
plain_again b bs rest h apart =
    let text = b ∷ bs in
    let n = digits_again text rest h apart in
    let range = digit_range b h.each.0 in
    let low : 48 ≤ b = range.0 in
    let no_sign : sign_len (b ∷ (bs ++ rest)) ≡ 0 =
    cond-false (eqb b 45) 1 0 (ne_eqb b 45 (λ e. omega arith)) in
    ap (λ (sign : ℕ). split_digits sign (b ∷ (bs ++ rest))) no_sign
    ∙ unsigned_again (b ∷ bs) rest n.0 n.1 apart

signed_again : (digits rest : List ℕ) → AreDigits digits → continues_run rest ≡ false
    → split_number (45 ∷ (digits ++ rest)) ≡ Some (45 ∷ digits, rest)
signed_again digits rest h apart =
    let text = 45 ∷ digits in
    let n = digits_again digits rest h apart in
    let k : 1 + length digits ≡ suc (length digits) = omega arith in
    rw (
      n.0,
      n.1,
      k,
      take_at text rest (length text) refl,
      drop_at text rest (length text) refl,
      apart,
    ) refl

here_plain : (text rest : List ℕ) → AreDigits text → continues_run rest ≡ false
    → token_here (text ++ rest) ≡ Ok (Number text, rest)
here_plain [] rest h apart = let some = h.some in absurd (omega arith)
here_plain (b ∷ bs) rest h apart =
    let range = digit_range b h.each.0 in
    let low : 48 ≤ b = range.0 in
    let high : b ≤ 57 = range.1 in
    no_mark b (bs ++ rest) (record {
      not_open = λ e. omega arith;
      not_close = λ e. omega arith;
      not_comma = λ e. omega arith;
      not_equals = λ e. omega arith;
      not_quote = λ e. omega arith;
    })
    ∙ (cond-false (is_word_start b) _ _ (low_no_word b high)
    ∙ ap (token_or Number (length (b ∷ (bs ++ rest)))) (plain_again b bs rest h apart))

here_number : (text rest : List ℕ) → IsNumber text → continues_run rest ≡ false
    → token_here (text ++ rest) ≡ Ok (Number text, rest)
here_number text rest (inl digits) apart = here_plain text rest digits apart
here_number text rest (inr signed) apart =
    let e : text ≡ 45 ∷ signed.0 = signed.1 in
    rw e (ap (token_or Number (length (45 ∷ (signed.0 ++ rest))))
    (signed_again signed.0 rest signed.2 apart))

-- ---- quoted texts

quote_over : (rest : List ℕ) → NoQuote rest → after_quoted true rest ≡ Some rest
quote_over [] h = refl
quote_over (b ∷ bs) h = rw (ne_eqb b 34 h) refl

closes_again : (flag : Bool) (text rest : List ℕ) → IsQuoted flag text → NoQuote rest
    → after_quoted flag ((text ++ 34 ∷ []) ++ rest) ≡ Some rest
closes_again false [] rest q free = quote_over rest free
closes_again true [] rest q free = absurd q
closes_again true (b ∷ bs) rest q free = let ih = closes_again false bs rest q.1 free in
    rw (eq-eqb b 34 q.0) ih
closes_again false (b ∷ bs) rest (inl q) free = let ih = closes_again true bs rest q.1 free in
    rw (eq-eqb b 34 q.0) ih
closes_again false (b ∷ bs) rest (inr q) free = let ih = closes_again false bs rest q.2 free in
    let p : is_printable b ≡ true = q.1 in rw (ne_eqb b 34 q.0, p) ih

pub quoted_again : (text rest : List ℕ) → IsQuoted false text → NoQuote rest
    → split_quoted ((text ++ 34 ∷ []) ++ rest) ≡ Some (text, rest)
quoted_again text rest q free =
    let whole = (text ++ 34 ∷ []) ++ rest in
    let regrouped : whole ≡ text ++ 34 ∷ rest = append_assoc text (34 ∷ []) rest in
    let len : length whole - length rest - 1 ≡ length text =
    omega (arith, ap length regrouped, length-append text (34 ∷ rest)) in
    let front : take (length whole - length rest - 1) whole ≡ text =
    rw len (ap (take (length text)) regrouped ∙ take_at text (34 ∷ rest) (length text) refl) in
    ap (option_map (λ (r : List ℕ). (take (length whole - length r - 1) whole, r)))
    (closes_again false text rest q free) ∙ ap (λ (t : List ℕ). Some (t, rest)) front

-- ---- all

pub here_again : (t : Lexeme) (rest : List ℕ) → IsToken t → MayFollow t rest
    → token_here (spelling t ++ rest) ≡ Ok (t, rest)
here_again (Word text) rest tok free = here_word text rest tok free
here_again (Number text) rest tok free = here_number text rest tok free
here_again (Quoted text) rest tok free =
    ap (token_or Quoted (length (34 ∷ ((text ++ 34 ∷ []) ++ rest))))
    (quoted_again text rest tok free)
here_again Open rest tok free = refl
here_again Close rest tok free = refl
here_again Comma rest tok free = refl
here_again Equals rest tok free = refl
here_again End rest tok free = let e : rest ≡ [] = free in rw e refl

-- no blank and no comment comes first
abbrev NoBlanks : List ℕ → Type 0
NoBlanks [] = Unit {0}
NoBlanks (b ∷ bs) = (is_blank b ≡ false) × (eqb b 35 ≡ false)

blanks_over : (rest : List ℕ) → NoBlanks rest → after_blanks false rest ≡ rest
blanks_over [] h = refl
blanks_over (b ∷ bs) h = cond-false (eqb b 35) _ _ h.1 ∙ cond-false (is_blank b) _ _ h.0

no_hash_blank : is_blank 35 ≡ true → ⊥
no_hash_blank h = cc

blank_no_hash : (b : ℕ) → is_blank b ≡ true → eqb b 35 ≡ false
blank_no_hash b h =
    ne_eqb b 35 (λ e. absurd (no_hash_blank (subst (λ (n : ℕ). is_blank n ≡ true) e h)))

skips_blank : (b : ℕ) (bs rest : List ℕ) → is_blank b ≡ true → after_blanks false bs ≡ rest
    → after_blanks false (b ∷ bs) ≡ rest
skips_blank b bs rest blank h = cond-false (eqb b 35) _ _ (blank_no_hash b blank)
    ∙ (cond-true (is_blank b) _ _ blank ∙ h)

blanks_again : (flag : Bool) (blanks rest : List ℕ) → AreBlanks rest flag blanks → NoBlanks rest
    → after_blanks flag (blanks ++ rest) ≡ rest
blanks_again false [] rest g h = blanks_over rest h
blanks_again true [] rest g h = let e : rest ≡ [] = g in rw e refl
blanks_again true (b ∷ bs) rest g h = blanks_again (not (eqb b 10)) bs rest g h
blanks_again false (b ∷ bs) rest (inl g) h = let ih = blanks_again true bs rest g.1 h in
    rw (eq-eqb b 35 g.0) ih
blanks_again false (b ∷ bs) rest (inr g) h = let blank : is_blank b ≡ true = g.0 in let ih =
    blanks_again false bs rest g.1 h in skips_blank b (bs ++ rest) rest blank ih

-- no token begins as a blank does
no_blank : (b : ℕ) → 36 ≤ b → is_blank b ≡ false
no_blank b h =
    let e1 = ne_eqb b 32 (λ e. omega arith) in
    let e2 = ne_eqb b 9 (λ e. omega arith) in
    let e3 = ne_eqb b 13 (λ e. omega arith) in
    let e4 = ne_eqb b 10 (λ e. omega arith) in
    or_from _ _ (or_from _ _ (or_from _ _ e1 e2) e3) e4

no_blanks_digits : (text rest : List ℕ) → AreDigits text → NoBlanks (text ++ rest)
no_blanks_digits [] rest h = let some = h.some in absurd (omega arith)
no_blanks_digits (b ∷ bs) rest h =
    let range = digit_range b h.each.0 in
    let low : 48 ≤ b = range.0 in
    (no_blank b (omega arith), ne_eqb b 35 (λ e. omega arith))

no_blanks_number : (text rest : List ℕ) → IsNumber text → NoBlanks (text ++ rest)
no_blanks_number text rest (inl digits) = no_blanks_digits text rest digits
no_blanks_number text rest (inr signed) = let e : text ≡ 45 ∷ signed.0 = signed.1 in
    rw e (refl, refl)

no_blanks : (t : Lexeme) (rest : List ℕ) → IsToken t → MayFollow t rest
    → NoBlanks (spelling t ++ rest)
no_blanks (Word []) rest tok free = absurd tok.starts
no_blanks (Word (b ∷ bs)) rest tok free = let starts : is_word_start b ≡ true = tok.starts in
    let big : 95 ≤ b = word_start_from b starts in
    (no_blank b (omega arith), ne_eqb b 35 (λ e. omega arith))
no_blanks (Number text) rest tok free = no_blanks_number text rest tok
no_blanks (Quoted text) rest tok free = (refl, refl)
no_blanks Open rest tok free = (refl, refl)
no_blanks Close rest tok free = (refl, refl)
no_blanks Comma rest tok free = (refl, refl)
no_blanks Equals rest tok free = (refl, refl)
no_blanks End rest tok free = let e : rest ≡ [] = free in rw e tt

pub first_again : (bytes : List ℕ) (t : Lexeme) (rest : List ℕ) → FirstToken bytes t rest
    → next_token bytes ≡ Ok (t, rest)
first_again bytes t rest h =
    let b = h.begins in
    let none : NoBlanks h.here = rw b.parts (no_blanks t rest b.is_token b.follows) in
    let here : after_blanks false bytes ≡ h.here = ap (after_blanks false) h.parts
    ∙ blanks_again false h.blanks h.here h.are_blanks none in
    ap token_here here ∙ (ap token_here b.parts ∙ here_again t rest b.is_token b.follows)
