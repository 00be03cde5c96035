-- The words behind blanks, and behind a place with only blanks up to what is left of a line.
use Rattle.std.proofs.Common.{◌≡◌, ℕ, ◌-◌, ◌≤◌, true, List, ◌++◌, length, take, drop, refl, sym, ap, ◌∙◌, arith}
use Rattle.std.specs.List.{AllByRecursion}
use Rattle.std.proofs.lemmas.List.{take-append-drop, drop-append-le, length-drop}
use Rattle.gx_commands.specs.Words.{is_line_blank}
use Rattle.gx_commands.specs.Cutting.{split_word, first_word, words_in, IsRestOf}
use Rattle.gx_commands.proofs.WordLaws.{over_blanks}
use Rattle.gx_commands.proofs.CuttingLaws.{words_step}

first_past : (blanks rest : List ℕ) → AllByRecursion (λ b. is_line_blank b ≡ true) blanks
    → first_word (blanks ++ rest) ≡ first_word rest
unfolding first_word
first_past blanks rest are = ap split_word (over_blanks blanks rest are)

words_past : (blanks rest : List ℕ) → AllByRecursion (λ b. is_line_blank b ≡ true) blanks
    → words_in (blanks ++ rest) ≡ words_in rest
words_past blanks rest are =
    words_step (blanks ++ rest) (first_word rest) (first_past blanks rest are)
    ∙ sym (words_step rest (first_word rest) refl)

-- up to a place there are only blanks from another on
words_between : (bytes : List ℕ) (place end : ℕ) → place ≤ length (take end bytes)
    → AllByRecursion (λ b. is_line_blank b ≡ true) (drop place (take end bytes))
    → words_in (drop place bytes) ≡ words_in (drop end bytes)
words_between bytes place end within are =
    let parts : drop place bytes ≡ drop place (take end bytes) ++ drop end bytes =
    ap (drop place) (sym (take-append-drop end bytes))
    ∙ drop-append-le place (take end bytes) (drop end bytes) within in
    ap words_in parts ∙ words_past (drop place (take end bytes)) (drop end bytes) are

pub taken_words : (bytes rest : List ℕ) (place : ℕ) → IsRestOf bytes rest
    → place ≤ length (take (length bytes - length rest) bytes)
    → AllByRecursion (λ b. is_line_blank b ≡ true)
    (drop place (take (length bytes - length rest) bytes))
    → words_in (drop place bytes) ≡ words_in rest
taken_words bytes rest place left within are =
    let long = ap (λ (xs : List ℕ). length xs) left.is ∙ length-drop left.from bytes in
    let here : length bytes - length rest ≡ left.from = omega (arith, long, left.within) in
    words_between bytes place (length bytes - length rest) within are
    ∙ ap (λ (n : ℕ). words_in (drop n bytes)) here
    ∙ ap words_in (sym left.is)
