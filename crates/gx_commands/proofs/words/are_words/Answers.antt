use Rattle.std.proofs.Common.{◌≡◌, List, ℕ, Some, None, sym, ap, ◌∙◌, arith}
use Rattle.std.proofs.Common.{length, eqb}
use Rattle.gx_commands.specs.Words.{Word}
use Rattle.gx_commands.specs.Cutting.{word_of, first_word}
use Rattle.gx_commands.proofs.WordLaws.{first_found, first_shorter}
use Rattle.gx_commands.proofs.CuttingLaws.{words_after, words_before, blank_or_not}
use Rattle.gx_commands.proofs.words.are_words.Goals as goal

pub returns-in-None : goal.returns-in-None
returns-in-None c =
    let line = c.from_quote-quoted.result.now in
    let none : first_word line ≡ None = sym c.in-None.ensures in
    let here = blank_or_not line c.is_empty.result none (c.is_empty.ensures
    ∙ ap (λ (xs : List ℕ). eqb (length xs) 0) c.after_blanks.ensures) in (
      (λ t. c.loop-after.invariant.0 (c.from_quote-quoted.ensures.same.0 (here.0 t))),
      (λ words. here.1 (c.from_quote-quoted.ensures.same.1 (c.loop-after.invariant.1 words))),
    )

pub loop-after-preserved : goal.loop-after-preserved
loop-after-preserved c =
    let line = c.from_quote-quoted.result.now in
    let x : Word × List ℕ = (word_of c.in-Some.field-0-0, c.in-Some.after.now) in
    let first : first_word line ≡ Some x = sym c.in-Some.ensures in (
      (λ words. c.loop-after.invariant.0
          (c.from_quote-quoted.ensures.same.0 (words_before line x first words))),
      (λ words. words_after line x first
          (c.from_quote-quoted.ensures.same.1 (c.loop-after.invariant.1 words))),
    )

pub loop-after-smaller : goal.loop-after-smaller
loop-after-smaller c =
    let line = c.from_quote-quoted.result.now in
    let x : Word × List ℕ = (word_of c.in-Some.field-0-0, c.in-Some.after.now) in
    let first : first_word line ≡ Some x = sym c.in-Some.ensures in
    let less = first_shorter line x.0 x.1 (first_found line x first) in
    omega (arith, less, c.from_quote-quoted.ensures.within)
