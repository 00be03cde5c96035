use Rattle.std.proofs.Common.{◌≡◌, ◌-◌, List, ℕ, length, take, drop, sym, subst, ◌∙◌, arith}
use Rattle.std.specs.Prelude.{◌↔◌}
use Rattle.std.proofs.lemmas.List.{take_all, length-drop}
use Rattle.gx_commands.proofs.CuttingLaws.{HasWords}
use Rattle.gx_commands.proofs.LineLaws.{ended_at, not_ended}
use Rattle.gx_commands.proofs.BareLaws.{NoQuotes, quote_words, no_quote_words}
use Rattle.gx_commands.proofs.words.from_quote.Goals as goal

pub returns-in-None-clause-same : goal.returns-in-None-clause-same
returns-in-None-clause-same c =
    let line = c.args.line.now in
    let free = not_ended 34 line c.memchr.result (length line) c.memchr.ensures c.in-None.is in
    no_quote_words line (subst NoQuotes (take_all (length line) line (omega arith)) free)

pub returns-then-is_blank-clause-same : goal.returns-then-is_blank-clause-same
returns-then-is_blank-clause-same c =
    let line = c.args.line.now in
    let at = c.in-Some.at in
    let found = ended_at 34 line c.memchr.result at c.memchr.ensures c.in-Some.is in
    let same : take (length line - at) (drop at line) ≡ drop at line =
    take_all (length line - at) (drop at line) (omega (arith, length-drop at line)) in
    subst (λ (xs : List ℕ). HasWords xs ↔ HasWords line) (sym same)
    (quote_words line at (omega (arith, c.in-Some.at-test)) found.1.0 found.0
    (sym c.is_blank.ensures ∙ c.if-is_blank.true))
