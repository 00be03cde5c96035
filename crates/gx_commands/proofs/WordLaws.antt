-- The first word of a line, both ways.
use Rattle.std.proofs.Common.{◌≡◌, ℕ, suc, ◌+◌, ◌<◌, Bool, true, false, not, cond, eqb, List, [], ◌∷◌, ◌++◌, length, take, drop, Option, Some, None, Result, Ok, refl, sym, ap, subst, ◌∙◌, arith}
use Rattle.std.specs.List.{prefix_len, AllByRecursion}
use Rattle.std.proofs.lemmas.Bool.{cond_both, eqb-true, eqb-false, ne_eqb}
use Rattle.std.proofs.lemmas.List.{take_at, drop_at, take-append-drop, length-append}
use Rattle.std.proofs.lemmas.Option.{same_Some}
use Rattle.gx_tokens.specs.declared.fault.Fault.{Fault}
use Rattle.gx_tokens.specs.Lexemes.{Lexeme, split_quoted, token_or}
use Rattle.gx_tokens.specs.Lexemes as lexemes
use Rattle.gx_tokens.specs.Spelling.{NoQuote, Begins}
use Rattle.gx_tokens.proofs.TokenFound.{found_here, done_is}
use Rattle.gx_tokens.proofs.TokenAgain.{quoted_again}
use Rattle.gx_commands.specs.Words.{Word, Bare, Quoted, is_line_blank, past_blanks, spelling, IsLineWord, EndsWord, FirstWord}
use Rattle.gx_commands.specs.Cutting.{ends_word, quoted_word, split_word, first_word}

abbrev pub is_inside : ℕ → Bool
is_inside b = not (is_line_blank b)

-- ---- blanks

pub over_blanks : (blanks rest : List ℕ) → AllByRecursion (λ b. is_line_blank b ≡ true) blanks
    → past_blanks (blanks ++ rest) ≡ past_blanks rest
over_blanks [] rest h = refl
over_blanks (b ∷ bs) rest h = rw h.0 (over_blanks bs rest h.1)

pub at_byte : (b : ℕ) (bs : List ℕ) → is_line_blank b ≡ false → past_blanks (b ∷ bs) ≡ b ∷ bs
at_byte b bs h = rw h refl

abbrev pub NoBlankFirst : List ℕ → Type 0
NoBlankFirst [] = Unit {0}
NoBlankFirst (b ∷ bs) = is_line_blank b ≡ false

-- the blanks at the front, and what follows them
pub record Blanks (line rest : List ℕ) : Type 0 where
  pub blanks : List ℕ
  pub parts : line ≡ blanks ++ rest
  pub are_blanks : AllByRecursion (λ b. is_line_blank b ≡ true) blanks
  pub first : NoBlankFirst rest

blanks_step : (t : Bool) (b : ℕ) (bs : List ℕ) → is_line_blank b ≡ t → Blanks bs (past_blanks bs)
    → Blanks (b ∷ bs) (cond t (past_blanks bs) (b ∷ bs))
blanks_step true b bs is h =
    record {
      blanks = b ∷ h.blanks;
      parts = ap (λ (ys : List ℕ). b ∷ ys) h.parts;
      are_blanks = (is, h.are_blanks);
      first = h.first;
    }
blanks_step false b bs is h = record { blanks = []; parts = refl; are_blanks = tt; first = is }

pub blanks_of : (line : List ℕ) → Blanks line (past_blanks line)
blanks_of [] = record { blanks = []; parts = refl; are_blanks = tt; first = tt }
blanks_of (b ∷ bs) = blanks_step (is_line_blank b) b bs refl (blanks_of bs)

-- ---- bare words

pub run_len : (text rest : List ℕ) → AllByRecursion (λ c. is_line_blank c ≡ false) text
    → EndsWord rest
    → prefix_len is_inside (text ++ rest) ≡ length text
run_len [] [] h e = refl
run_len [] (c ∷ cs) h e = rw e refl
run_len (b ∷ bs) rest h e = let ih = run_len bs rest h.1 e in rw (h.0, ih) (omega arith)

run_step : (t : Bool) (b : ℕ) (bs : List ℕ) (n : ℕ) → is_line_blank b ≡ t
    → AllByRecursion (λ c. is_line_blank c ≡ false) (take n bs) × EndsWord (drop n bs)
    → AllByRecursion (λ c. is_line_blank c ≡ false) (take (cond (not t) (1 + n) 0) (b ∷ bs))
    × EndsWord (drop (cond (not t) (1 + n) 0) (b ∷ bs))
run_step true b bs n is h = (tt, is)
run_step false b bs n is h = let k : 1 + n ≡ suc n = omega arith in rw k ((is, h.0), h.1)

pub run_of : (text : List ℕ)
    → AllByRecursion (λ c. is_line_blank c ≡ false) (take (prefix_len is_inside text) text)
    × EndsWord (drop (prefix_len is_inside text) text)
run_of [] = (tt, tt)
run_of (b ∷ bs) = run_step (is_line_blank b) b bs (prefix_len is_inside bs) refl (run_of bs)

-- ---- quoted texts

abbrev spelled : Option (List ℕ × List ℕ) → ℕ → Result (Lexeme × List ℕ) Fault
spelled o left = token_or lexemes.Quoted left o

split_is : (o : Option (List ℕ × List ℕ)) (left : ℕ) (text rest : List ℕ)
    → spelled o left ≡ Ok (lexemes.Quoted text, rest) → o ≡ Some (text, rest)
split_is None left text rest e = absurd cc
split_is (Some x) left text rest e =
    let p = done_is (lexemes.Quoted x.0, x.1) (lexemes.Quoted text, rest) e in
    let q : lexemes.Quoted x.0 ≡ lexemes.Quoted text = ap (λ (z : Lexeme × List ℕ). z.0) p in
    let front : x.0 ≡ text = cc in
    let back : x.1 ≡ rest = ap (λ (z : Lexeme × List ℕ). z.1) p in
    ap (λ (t : List ℕ). Some (t, x.1)) front ∙ ap (λ (t : List ℕ). Some (text, t)) back

pub quoted_found : (bs text rest : List ℕ) → split_quoted bs ≡ Some (text, rest)
    → Begins (34 ∷ bs) (lexemes.Quoted text) rest
quoted_found bs text rest e =
    found_here (34 ∷ bs) (lexemes.Quoted text, rest)
    (ap (λ (o : Option (List ℕ × List ℕ)). spelled o (length (34 ∷ bs))) e)

no_quote : (rest : List ℕ) → EndsWord rest → NoQuote rest
no_quote [] h = tt
no_quote (b ∷ bs) h = λ e. let f = subst (λ (n : ℕ). is_line_blank n ≡ true) e h in absurd cc

ends_true : (rest : List ℕ) → EndsWord rest → ends_word rest ≡ true
ends_true [] h = refl
ends_true (b ∷ bs) h = h

ends_is : (rest : List ℕ) → ends_word rest ≡ true → EndsWord rest
ends_is [] h = tt
ends_is (b ∷ bs) h = h

-- ---- the first word

pub word_again : (w : Word) (rest : List ℕ) → IsLineWord w → EndsWord rest
    → past_blanks (spelling w ++ rest) ≡ spelling w ++ rest
word_again (Bare []) rest h e = absurd h
word_again (Bare (b ∷ bs)) rest h e = at_byte b (bs ++ rest) h.1.0
word_again (Quoted text) rest h e = refl

pub split_again : (w : Word) (rest : List ℕ) → IsLineWord w → EndsWord rest
    → split_word (spelling w ++ rest) ≡ Some (w, rest)
split_again (Bare []) rest h e = absurd h
split_again (Bare (b ∷ bs)) rest h e =
    let text = b ∷ bs in
    let n : prefix_len is_inside (text ++ rest) ≡ length text = run_len text rest h.1 e in
    let front : take (length text) (text ++ rest) ≡ text = take_at text rest (length text) refl in
    let back : drop (length text) (text ++ rest) ≡ rest = drop_at text rest (length text) refl in
    rw (ne_eqb b 34 h.0) (ap (λ (k : ℕ). Some (Bare (take k (text ++ rest)), drop k (text ++ rest)))
    n ∙ (ap (λ (t : List ℕ). Some (Bare t, drop (length text) (text ++ rest))) front
    ∙ ap (λ (t : List ℕ). Some (Bare text, t)) back))
split_again (Quoted text) rest h e =
    rw (quoted_again text rest h (no_quote rest e), ends_true rest e) refl

pub first_again : (line : List ℕ) (w : Word) (rest : List ℕ) → FirstWord line w rest
    → first_word line ≡ Some (w, rest)
unfolding first_word
first_again line w rest f =
    let here = spelling w ++ rest in
    let there : past_blanks line ≡ here = ap past_blanks f.parts
    ∙ (over_blanks f.blanks here f.are_blanks ∙ word_again w rest f.is_word f.ends) in
    ap split_word there ∙ split_again w rest f.is_word f.ends

-- the word that a text is at the front
pub record Splits (text : List ℕ) (x : Word × List ℕ) : Type 0 where
  pub parts : text ≡ spelling x.0 ++ x.1
  pub is_word : IsLineWord x.0
  pub ends : EndsWord x.1

bare_word : (b : ℕ) (bs : List ℕ) (n : ℕ) → (b ≡ 34 → ⊥) → is_line_blank b ≡ false
    → AllByRecursion (λ c. is_line_blank c ≡ false) (take n bs)
    → IsLineWord (Bare (take (1 + n) (b ∷ bs)))
bare_word b bs n other inside all = let k : 1 + n ≡ suc n = omega arith in
    rw k (other, (inside, all))

bare_split : (b : ℕ) (bs : List ℕ) → eqb b 34 ≡ false → is_line_blank b ≡ false
    → Splits (b ∷ bs) (
      Bare (take (prefix_len is_inside (b ∷ bs)) (b ∷ bs)),
      drop (prefix_len is_inside (b ∷ bs)) (b ∷ bs),
    )
bare_split b bs other inside =
    let n = prefix_len is_inside (b ∷ bs) in
    let run = run_of (b ∷ bs) in
    let len : n ≡ 1 + prefix_len is_inside bs = rw inside refl in
    record {
      parts = sym (take-append-drop n (b ∷ bs));
      is_word = rw len (bare_word b bs (prefix_len is_inside bs) (eqb-false b 34 other) inside
          (run_of bs).0);
      ends = run.1;
    }

quoted_split : (b : ℕ) (bs : List ℕ) (o : Option (List ℕ × List ℕ)) (x : Word × List ℕ) → b ≡ 34
    → split_quoted bs ≡ o → quoted_word o ≡ Some x → Splits (b ∷ bs) x
quoted_split b bs None x is e h = absurd cc
quoted_split b bs (Some y) x is e h =
    cond_both (ends_word y.1) (Some (Quoted y.0, y.1)) None
    (λ (r : Option (Word × List ℕ)). r ≡ Some x → Splits (b ∷ bs) x)
    (λ ends k.
    let q = quoted_found bs y.0 y.1 e in
    subst (Splits (b ∷ bs)) (same_Some (Quoted y.0, y.1) x k)
    (record {
      parts = ap (λ (n : ℕ). n ∷ bs) is ∙ q.parts;
      is_word = q.is_token;
      ends = ends_is y.1 ends;
    }))
    (λ _ k. absurd cc)
    h

pub split_found : (text : List ℕ) (x : Word × List ℕ) → NoBlankFirst text → split_word text ≡ Some x
    → Splits text x
split_found [] x free e = absurd cc
split_found (b ∷ bs) x free e =
    let bare : Word × List ℕ = (
      Bare (take (prefix_len is_inside (b ∷ bs)) (b ∷ bs)),
      drop (prefix_len is_inside (b ∷ bs)) (b ∷ bs),
    ) in
    cond_both (eqb b 34) (quoted_word (split_quoted bs)) (Some bare)
    (λ (r : Option (Word × List ℕ)). r ≡ Some x → Splits (b ∷ bs) x)
    (λ is h. quoted_split b bs (split_quoted bs) x (eqb-true b 34 is) refl h)
    (λ other h. subst (Splits (b ∷ bs)) (same_Some bare x h) (bare_split b bs other free))
    e

pub first_found : (line : List ℕ) (x : Word × List ℕ) → first_word line ≡ Some x
    → FirstWord line x.0 x.1
unfolding first_word
first_found line x e =
    let b = blanks_of line in
    let s = split_found (past_blanks line) x b.first e in
    record {
      blanks = b.blanks;
      parts = b.parts ∙ ap (λ (ys : List ℕ). b.blanks ++ ys) s.parts;
      are_blanks = b.are_blanks;
      is_word = s.is_word;
      ends = s.ends;
    }

-- each word has a byte
pub spelling_length : (w : Word) → IsLineWord w → 0 < length (spelling w)
spelling_length (Bare []) h = absurd h
spelling_length (Bare (b ∷ bs)) h = omega arith
spelling_length (Quoted text) h = omega arith

pub first_shorter : (line : List ℕ) (w : Word) (rest : List ℕ) → FirstWord line w rest
    → length rest < length line
first_shorter line w rest f =
    omega (
      arith,
      ap length f.parts,
      length-append f.blanks (spelling w ++ rest),
      length-append (spelling w) rest,
      spelling_length w f.is_word,
    )
