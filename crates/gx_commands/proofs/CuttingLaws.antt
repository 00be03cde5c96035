-- The words of a line, found one after another.
use Rattle.std.proofs.Common.{◌≡◌, ℕ, zero, suc, ◌≤◌, Bool, true, eqb, List, [], ◌∷◌, ◌++◌, length, Option, Some, None, refl, sym, ap, subst, ◌∙◌, arith, inl, inr}
use Rattle.std.specs.List.{AllByRecursion}
use Rattle.std.specs.Prelude.{IsTrue, ◌↔◌}
use Rattle.std.proofs.lemmas.Bool.{eqb-true, cases_Bool}
use Rattle.std.proofs.lemmas.List.{append-nil}
use Rattle.gx_commands.specs.Words.{Word, is_line_blank, past_blanks, AreWords}
use Rattle.gx_commands.specs.Cutting.{split_word, first_word, words_from, words_at, words_in}
use Rattle.gx_commands.proofs.WordLaws.{blanks_of, first_again, first_found, first_shorter}

none_is : (line : List ℕ) → length line ≤ 0 → line ≡ []
none_is [] h = refl
none_is (b ∷ bs) h = absurd (omega arith)

empty_words : (n : ℕ) → words_at n [] ≡ []
unfolding words_at first_word
empty_words zero = refl
empty_words (suc n) = refl

steady_from : (n m : ℕ) (line : List ℕ) (o : Option (Word × List ℕ)) → first_word line ≡ o
    → length line ≤ suc n → length line ≤ suc m
    → ((rest : List ℕ) → length rest ≤ n → length rest ≤ m → words_at n rest ≡ words_at m rest)
    → words_at (suc n) line ≡ words_at (suc m) line
unfolding words_at
steady_from n m line None is a b again = ap (words_from (λ (r : List ℕ). words_at n r)) is
    ∙ sym (ap (words_from (λ (r : List ℕ). words_at m r)) is)
steady_from n m line (Some x) is a b again =
    let less = first_shorter line x.0 x.1 (first_found line x is) in
    let same = again x.1 (omega arith) (omega arith) in
    ap (words_from (λ (r : List ℕ). words_at n r)) is
    ∙ (ap (λ (ws : List Word). x.0 ∷ ws) same
    ∙ sym (ap (words_from (λ (r : List ℕ). words_at m r)) is))

-- how many words are looked for at most doesn't matter, where there are as many bytes
steady : (n m : ℕ) (line : List ℕ) → length line ≤ n → length line ≤ m
    → words_at n line ≡ words_at m line
steady zero m line a b = let e = none_is line a in
    subst (λ (l : List ℕ). words_at zero l ≡ words_at m l) (sym e) (empty_words zero
    ∙ sym (empty_words m))
steady (suc n) zero line a b = let e = none_is line b in
    subst (λ (l : List ℕ). words_at (suc n) l ≡ words_at zero l) (sym e) (empty_words (suc n)
    ∙ sym (empty_words zero))
steady (suc n) (suc m) line a b =
    steady_from n m line (first_word line) refl a b (λ rest c d. steady n m rest c d)

step_from : (n : ℕ) (line : List ℕ) (o : Option (Word × List ℕ)) → first_word line ≡ o
    → length line ≤ n → words_at n line ≡ words_from words_in o
unfolding words_at words_in
step_from zero line None is le = refl
step_from zero line (Some x) is le = let less = first_shorter line x.0 x.1 (first_found line x is)
    in absurd (omega arith)
step_from (suc n) line None is le = ap (words_from (λ (r : List ℕ). words_at n r)) is
step_from (suc n) line (Some x) is le =
    let less = first_shorter line x.0 x.1 (first_found line x is) in
    ap (words_from (λ (r : List ℕ). words_at n r)) is
    ∙ (ap (λ (ws : List Word). x.0 ∷ ws)
    (steady n (length x.1) x.1 (omega arith) (omega arith)))

pub words_step : (line : List ℕ) (o : Option (Word × List ℕ)) → first_word line ≡ o
    → words_in line ≡ words_from words_in o
unfolding words_in
words_step line o is = step_from (length line) line o is (omega arith)

-- ---- the lines that are words

all_blank : (line : List ℕ) → AllByRecursion (λ b. is_line_blank b ≡ true) line
    → past_blanks line ≡ []
all_blank [] h = refl
all_blank (b ∷ bs) h = rw h.0 (all_blank bs h.1)

pub none_first : (line : List ℕ) → AreWords line [] → first_word line ≡ None
unfolding first_word
none_first line h = ap split_word (all_blank line h)

pub words_of_line : (line : List ℕ) (ws : List Word) → AreWords line ws → words_in line ≡ ws
words_of_line line [] h = words_step line None (none_first line h)
words_of_line line (w ∷ ws) h = words_step line (Some (w, h.0)) (first_again line w h.0 h.1)
    ∙ ap (λ (vs : List Word). w ∷ vs) (words_of_line h.0 ws h.2)

pub blank_line : (line : List ℕ) → past_blanks line ≡ [] → AreWords line []
blank_line line e =
    let b = blanks_of line in
    let whole : line ≡ b.blanks =
    b.parts ∙ (ap (λ (ys : List ℕ). b.blanks ++ ys) e ∙ append-nil b.blanks) in
    subst (AllByRecursion (λ b. is_line_blank b ≡ true)) (sym whole) b.are_blanks

abbrev pub HasWords : List ℕ → Type 0
HasWords line = (ws : List Word) × AreWords line ws

-- where the first word stands, the line is words where the rest is
pub words_after : (line : List ℕ) (x : Word × List ℕ) → first_word line ≡ Some x → HasWords line
    → HasWords x.1
words_after line x is ([], h) = let n = none_first line h in absurd cc
words_after line x is (w ∷ ws, h) =
    let f = first_again line w h.0 h.1 in
    let same : Some (w, h.0) ≡ Some x = sym f ∙ is in
    let e : (w, h.0) ≡ x = cc in
    (ws, subst (λ (y : Word × List ℕ). AreWords y.1 ws) e h.2)

pub words_before : (line : List ℕ) (x : Word × List ℕ) → first_word line ≡ Some x → HasWords x.1
    → HasWords line
words_before line x is h = (x.0 ∷ h.0, (x.1, first_found line x is, h.1))

-- where no first word stands behind the blanks, the line is no words
pub no_words : (line : List ℕ) → first_word line ≡ None → (past_blanks line ≡ [] → ⊥)
    → HasWords line → ⊥
no_words line is some ([], h) = some (all_blank line h)
no_words line is some (w ∷ ws, h) = let f = first_again line w h.0 h.1 in cc

length_zero : (xs : List ℕ) → eqb (length xs) 0 ≡ true → xs ≡ []
length_zero [] h = refl
length_zero (x ∷ xs) h = absurd (let z = eqb-true (length (x ∷ xs)) 0 h in omega arith)

-- where no first word stands, the line is words exactly where only blanks are left
pub blank_or_not : (line : List ℕ) (b : Bool) → first_word line ≡ None
    → b ≡ eqb (length (past_blanks line)) 0 → IsTrue b ↔ HasWords line
blank_or_not line b none is = (
  (λ t. let e : eqb (length (past_blanks line)) 0 ≡ true = cc in
      ([], blank_line line (length_zero (past_blanks line) e))),
  (λ words. elim (cases_Bool b) [
    | inl t ↦ t
    | inr f ↦ absurd (no_words line none (λ e. let g : b ≡ true =
        is ∙ ap (λ (xs : List ℕ). eqb (length xs) 0) e in cc) words)
  ]),
)
