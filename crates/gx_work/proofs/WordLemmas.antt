-- The words of the script's lines.
use Rattle.std.proofs.Common.{◌≡◌, ℕ, ◌^◌, ◌<◌, ◌≤◌, Bool, true, false, List, [], ◌∷◌, ◌++◌, refl, sym, ap, ◌∙◌, append-nil, inr, arith}
use Rattle.std.specs.Prelude.{IsTrue, ◌||◌}
use Rattle.std.specs.List.{AllByRecursion, list_all}
use Rattle.std.specs.Fmt.{decimal}
use Rattle.std.proofs.lemmas.Bool.{and_from, le-leb, ne_eqb}
use Rattle.std.proofs.lemmas.List.Folds.{list_all-append}
use Rattle.gx_tokens.specs.Lexemes.{is_digit}
use Rattle.gx_tokens.specs.Spelling.{IsQuoted, AreDigits}
use Rattle.gx_tokens.specs.Quotes.{unquoted}
use Rattle.gx_tokens.proofs.NumberLaws.{decimal_is}
use Rattle.gx_tokens.proofs.TokenAgain.{digit_range}
use Rattle.gx_commands.specs.Words.{Word, Bare, Quoted, spelling, is_line_blank, is_character, IsLineWord, AreWords}

-- ---- words with one blank between them

abbrev pub spaced : List Word → List ℕ
spaced [] = []
spaced (w ∷ []) = spelling w
spaced (w ∷ v ∷ ws) = spelling w ++ 32 ∷ spaced (v ∷ ws)

-- a word of characters
pub record IsGood (w : Word) : Type 0 where
  pub is_word : IsLineWord w
  pub characters : list_all is_character (spelling w) ≡ true

blank_before : (line : List ℕ) (w : Word) (ws : List Word) → AreWords line (w ∷ ws)
    → AreWords (32 ∷ line) (w ∷ ws)
blank_before line w ws h =
    let f = h.1 in (
      h.0,
      record {
        blanks = 32 ∷ f.blanks;
        parts = ap (λ t. 32 ∷ t) f.parts;
        are_blanks = (refl, f.are_blanks);
        is_word = f.is_word;
        ends = f.ends;
      },
      h.2,
    )

pub words_are : (ws : List Word) → AllByRecursion IsGood ws → AreWords (spaced ws) ws
words_are [] h = tt
words_are (w ∷ []) h = (
  [],
  record {
    blanks = [];
    parts = sym (append-nil (spelling w));
    are_blanks = tt;
    is_word = h.0.is_word;
    ends = tt;
  },
  tt,
)
words_are (w ∷ v ∷ ws) h = (
  32 ∷ spaced (v ∷ ws),
  record {
    blanks = [];
    parts = refl;
    are_blanks = tt;
    is_word = h.0.is_word;
    ends = refl;
  },
  blank_before (spaced (v ∷ ws)) v ws
      (words_are (v ∷ ws) h.1),
)

pub all_characters : (ws : List Word) → AllByRecursion IsGood ws
    → list_all is_character (spaced ws) ≡ true
all_characters [] h = refl
all_characters (w ∷ []) h = h.0.characters
all_characters (w ∷ v ∷ ws) h = list_all-append is_character (spelling w) (32 ∷ spaced (v ∷ ws))
    ∙ and_from _ _ h.0.characters (all_characters (v ∷ ws) h.1)

-- ---- numbers

or_right : (x y : Bool) → y ≡ true → (x || y) ≡ true
or_right true y e = refl
or_right false y e = e

no_blank : (b : ℕ) → 32 < b → is_line_blank b ≡ false
no_blank b lt = let x = ne_eqb b 32 (λ e. omega arith) in let y = ne_eqb b 9 (λ e. omega arith) in
    cc

is_char : (b : ℕ) → 32 < b → b ≤ 126 → is_character b ≡ true
is_char b lt le = or_right (is_line_blank b) _
    ((and_from _ _ (le-leb 32 b (omega arith)) (le-leb b 126 le)))

each_no_blank : (text : List ℕ) → AllByRecursion (λ b. IsTrue (is_digit b)) text
    → AllByRecursion (λ b. is_line_blank b ≡ false) text
each_no_blank [] h = tt
each_no_blank (b ∷ bs) h =
    (let d = digit_range b h.0 in no_blank b (omega arith), each_no_blank bs h.1)

each_char : (text : List ℕ) → AllByRecursion (λ b. IsTrue (is_digit b)) text
    → list_all is_character text ≡ true
each_char [] h = refl
each_char (b ∷ bs) h = and_from _ _ (let d = digit_range b h.0 in
    is_char b (omega arith) (omega arith)) (each_char bs h.1)

digits_word : (text : List ℕ) → AreDigits text → IsLineWord (Bare text)
digits_word [] h = absurd (omega (arith, h.some))
digits_word (b ∷ bs) h =
    (let d = digit_range b h.each.0 in λ e. omega arith, each_no_blank (b ∷ bs) h.each)

pub number_good : (n : ℕ) → n < 2 ^ 64 → IsGood (Bare (decimal n))
number_good n lt = let d = decimal_is n lt in
    record {
      is_word = digits_word (decimal n) d.digits;
      characters = each_char (decimal n) d.digits.each;
    }

-- ---- quoted texts without a quote

-- a printable byte that is no quote
pub record IsPlain (b : ℕ) : Type 0 where
  pub low : 32 ≤ b
  pub high : b ≤ 126
  pub other : b ≡ 34 → ⊥

pub plain_digits : (text : List ℕ) → AllByRecursion (λ b. IsTrue (is_digit b)) text
    → AllByRecursion IsPlain text
plain_digits [] h = tt
plain_digits (b ∷ bs) h = (
  let d = digit_range b h.0 in record {
    low = omega arith;
    high = omega arith;
    other = λ e. omega arith;
  },
  plain_digits bs h.1,
)

plain_quoted : (text : List ℕ) → AllByRecursion IsPlain text → IsQuoted false text
plain_quoted [] h = tt
plain_quoted (b ∷ bs) h =
    inr (h.0.other, and_from _ _ (le-leb 32 b h.0.low) (le-leb b 126 h.0.high), plain_quoted bs h.1)

plain_chars : (text : List ℕ) → AllByRecursion IsPlain text → list_all is_character text ≡ true
plain_chars [] h = refl
plain_chars (b ∷ bs) h =
    and_from _ _ (or_right (is_line_blank b) _
    ((and_from _ _ (le-leb 32 b h.0.low) (le-leb b 126 h.0.high)))) (plain_chars bs h.1)

pub quoted_good : (text : List ℕ) → AllByRecursion IsPlain text → IsGood (Quoted text)
quoted_good text h = record {
  is_word = plain_quoted text h;
  characters = list_all-append is_character text (34 ∷ []) ∙ and_from _ _ (plain_chars text h) refl;
}

pub plain_unquoted : (text : List ℕ) → AllByRecursion IsPlain text → unquoted false text ≡ text
plain_unquoted [] h = refl
plain_unquoted (b ∷ bs) h =
    ap (λ t. b ∷ t) (ap (λ q. unquoted q bs) (ne_eqb b 34 h.0.other) ∙ plain_unquoted bs h.1)

pub plain_decimal : (n : ℕ) → n < 2 ^ 64 → AllByRecursion IsPlain (decimal n)
plain_decimal n lt = plain_digits (decimal n) (decimal_is n lt).digits.each
