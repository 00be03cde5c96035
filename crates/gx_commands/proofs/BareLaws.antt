-- Words without a quote at the front of a line.
use Rattle.std.proofs.Common.{◌≡◌, ℕ, zero, suc, ◌-◌, ◌<◌, ◌≤◌, ◌⊎◌, inl, inr, Bool, true, false, eqb, List, [], ◌∷◌, ◌++◌, Option, Some, None, length, take, drop, refl, sym, ap, subst, ◌∙◌, arith}
use Rattle.std.specs.Prelude.{◌↔◌, slice_index, ◌==◌}
use Rattle.std.specs.List.{AllByRecursion, prefix_len}
use Rattle.std.proofs.lemmas.Bool.{eqb-false}
use Rattle.std.proofs.lemmas.List.{take-append-drop, length-append, append_assoc, append-nil}
use Rattle.gx_commands.specs.Words.{Word, Bare, is_line_blank, past_blanks, IsLineWord, EndsWord}
use Rattle.gx_commands.specs.Cutting.{split_word, first_word}
use Rattle.gx_commands.proofs.WordLaws.{is_inside, run_of, first_again}
use Rattle.gx_commands.proofs.CuttingLaws.{HasWords, words_after, words_before, blank_or_not}

-- the last byte is a blank, if there is one
abbrev pub EndsBlank : List ℕ → Type 0
EndsBlank [] = Unit {0}
EndsBlank (b ∷ []) = is_line_blank b ≡ true
EndsBlank (b ∷ c ∷ cs) = EndsBlank (c ∷ cs)

behind_first : (b : ℕ) (bs : List ℕ) → EndsBlank (b ∷ bs) → EndsBlank bs
behind_first b [] ends = tt
behind_first b (c ∷ cs) ends = ends

behind_run : (run more : List ℕ) → EndsBlank (run ++ more) → EndsBlank more
behind_run [] more ends = ends
behind_run (b ∷ bs) more ends = behind_run bs more (behind_first b (bs ++ more) ends)

-- a word doesn't end with a blank
no_blank_end : (b : ℕ) (bs : List ℕ) → AllByRecursion (λ c. is_line_blank c ≡ false) (b ∷ bs)
    → EndsBlank (b ∷ bs) → ⊥
no_blank_end b [] all ends = let not : is_line_blank b ≡ false = all.0 in cc
no_blank_end b (c ∷ cs) all ends = no_blank_end c cs all.1 ends

abbrev pub NoQuotes : List ℕ → Type 0
NoQuotes = AllByRecursion (λ b. (b == 34) ≡ false)

quotes_behind : (run more : List ℕ) → NoQuotes (run ++ more) → NoQuotes more
quotes_behind [] more free = free
quotes_behind (b ∷ bs) more free = quotes_behind bs more free.1

-- ---- a blank, and a word, in front of a line

behind_blank_from : (b : ℕ) (line : List ℕ) (found : Option (Word × List ℕ))
    → first_word line ≡ found → first_word (b ∷ line) ≡ found
    → past_blanks (b ∷ line) ≡ past_blanks line → HasWords line ↔ HasWords (b ∷ line)
behind_blank_from b line None none more same =
    let t = eqb (length (past_blanks line)) 0 in
    let here = blank_or_not line t none refl in
    let there = blank_or_not (b ∷ line) t more (ap (λ (xs : List ℕ). eqb (length xs) 0) (sym same))
    in
    ((λ h. there.0 (here.1 h)), (λ h. here.0 (there.1 h)))
behind_blank_from b line (Some x) is more same = (
  (λ h. words_before (b ∷ line) x more (words_after line x is h)),
  (λ h. words_before line x is (words_after (b ∷ line) x more h)),
)

behind_blank : (b : ℕ) (line : List ℕ) → is_line_blank b ≡ true
    → HasWords line ↔ HasWords (b ∷ line)
unfolding first_word
behind_blank b line blank =
    let same : past_blanks (b ∷ line) ≡ past_blanks line = rw blank refl in
    behind_blank_from b line (first_word line) refl (ap split_word same) same

behind_bare : (run rest : List ℕ) → IsLineWord (Bare run) → EndsWord rest
    → HasWords rest ↔ HasWords (run ++ rest)
behind_bare run rest word ends =
    let first = first_again (run ++ rest) (Bare run) rest
    (record { blanks = []; parts = refl; are_blanks = tt; is_word = word; ends = ends }) in (
      (λ h. words_before (run ++ rest) (Bare run, rest) first h),
      (λ h. words_after (run ++ rest) (Bare run, rest) first h),
    )

-- ---- many of them

-- the words of the front are over where it ends
abbrev pub IsClosed : List ℕ → List ℕ → Type 0
IsClosed front rest = EndsBlank front ⊎ (rest ≡ [])

run_ends : (b : ℕ) (run more rest : List ℕ)
    → AllByRecursion (λ c. is_line_blank c ≡ false) (b ∷ run)
    → EndsWord more → IsClosed ((b ∷ run) ++ more) rest → EndsWord (more ++ rest)
run_ends b run [] rest all ends (inl blank) =
    absurd (no_blank_end b run all (subst EndsBlank (append-nil (b ∷ run)) blank))
run_ends b run [] rest all ends (inr none) = subst EndsWord (sym none) tt
run_ends b run (c ∷ cs) rest all ends closed = ends

closed_behind : (run more rest : List ℕ) → IsClosed (run ++ more) rest → IsClosed more rest
closed_behind run more rest (inl blank) = inl (behind_run run more blank)
closed_behind run more rest (inr none) = inr none

both : {A B C : Type 0} → A ↔ B → B ↔ C → A ↔ C
both f g = ((λ a. g.0 (f.0 a)), (λ c. f.1 (g.1 c)))

-- a word at the front, of so many bytes behind its first
words_at_word : (n b k : ℕ) (bs rest : List ℕ) → NoQuotes (b ∷ bs) → IsClosed (b ∷ bs) rest
    → length (b ∷ bs) ≤ suc n → is_line_blank b ≡ false
    → AllByRecursion (λ c. is_line_blank c ≡ false) (b ∷ take k bs) → EndsWord (drop k bs)
    → ((front : List ℕ) → length front ≤ n → NoQuotes front → IsClosed front rest
    → HasWords rest ↔ HasWords (front ++ rest))
    → HasWords rest ↔ HasWords ((b ∷ bs) ++ rest)
words_at_word n b k bs rest free closed le other all ends again =
    let run = b ∷ take k bs in
    let more = drop k bs in
    let parts : run ++ more ≡ b ∷ bs = ap (λ (xs : List ℕ). b ∷ xs) (take-append-drop k bs) in
    let free_run : NoQuotes (run ++ more) = subst NoQuotes (sym parts) free in
    let closed_run : IsClosed (run ++ more) rest =
    subst (λ (xs : List ℕ). IsClosed xs rest) (sym parts) closed in
    let less : length more ≤ n =
    omega (arith, ap length (take-append-drop k bs), length-append (take k bs) more, le) in
    let rest_words = again more less (quotes_behind run more free_run)
    (closed_behind run more rest closed_run) in
    let word : IsLineWord (Bare run) = (eqb-false b 34 free.0, all) in
    let here = behind_bare run (more ++ rest) word
    (run_ends b (take k bs) more rest all ends closed_run) in
    subst (λ (xs : List ℕ). HasWords rest ↔ HasWords xs) (sym (append_assoc run more rest)
    ∙ ap (λ (xs : List ℕ). xs ++ rest) parts) (both rest_words here)

words_from_byte : (n b : ℕ) (bs rest : List ℕ) (t : Bool) → is_line_blank b ≡ t → NoQuotes (b ∷ bs)
    → IsClosed (b ∷ bs) rest → length (b ∷ bs) ≤ suc n
    → ((front : List ℕ) → length front ≤ n → NoQuotes front → IsClosed front rest
    → HasWords rest ↔ HasWords (front ++ rest))
    → HasWords rest ↔ HasWords ((b ∷ bs) ++ rest)
words_from_byte n b bs rest true is free closed le again =
    both (again bs (omega (arith, le)) free.1 (closed_behind (b ∷ []) bs rest closed))
    (behind_blank b (bs ++ rest) is)
words_from_byte n b bs rest false is free closed le again =
    let run = run_of bs in
    words_at_word n b (prefix_len is_inside bs) bs rest free closed le is (is, run.0) run.1 again

words_before_rest : (n : ℕ) (front rest : List ℕ) → length front ≤ n → NoQuotes front
    → IsClosed front rest → HasWords rest ↔ HasWords (front ++ rest)
words_before_rest n [] rest le free closed = ((λ h. h), (λ h. h))
words_before_rest zero (b ∷ bs) rest le free closed = absurd (omega (arith, le))
words_before_rest (suc n) (b ∷ bs) rest le free closed =
    words_from_byte n b bs rest (is_line_blank b) refl free closed le
    (λ front less none ends. words_before_rest n front rest less none ends)

-- words without a quote stand in front of the rest of a line
pub bare_front : (front rest : List ℕ) → NoQuotes front → IsClosed front rest
    → HasWords rest ↔ HasWords (front ++ rest)
bare_front front rest free closed =
    words_before_rest (length front) front rest (omega arith) free closed

-- the byte in front of a place is a blank
ends_blank : (n : ℕ) (line : List ℕ) → n < length line → is_line_blank (slice_index line n) ≡ true
    → EndsBlank (take (suc n) line)
ends_blank zero [] lt blank = tt
ends_blank zero (b ∷ bs) lt blank = blank
ends_blank (suc n) [] lt blank = tt
ends_blank (suc n) (b ∷ []) lt blank = absurd (omega (arith, lt))
ends_blank (suc n) (b ∷ c ∷ cs) lt blank = ends_blank n (c ∷ cs) (omega (arith, lt)) blank

-- what stands from a quote on that begins a word
pub quote_words : (line : List ℕ) (at : ℕ) → 0 < at → at ≤ length line → NoQuotes (take at line)
    → is_line_blank (slice_index line (at - 1)) ≡ true
    → HasWords (drop at line) ↔ HasWords line
quote_words line zero some within free blank = absurd (omega (arith, some))
quote_words line (suc n) some within free blank =
    let same : suc n - 1 ≡ n = omega arith in
    let ends = ends_blank n line (omega (arith, within))
    (subst (λ (k : ℕ). is_line_blank (slice_index line k) ≡ true) same blank) in
    subst (λ (xs : List ℕ). HasWords (drop (suc n) line) ↔ HasWords xs)
    (take-append-drop (suc n) line)
    (bare_front (take (suc n) line) (drop (suc n) line) free (inl ends))

-- a line without a quote
pub no_quote_words : (line : List ℕ) → NoQuotes line → HasWords [] ↔ HasWords line
no_quote_words line free =
    subst (λ (xs : List ℕ). HasWords [] ↔ HasWords xs) (append-nil line)
    (bare_front line [] free (inr refl))
