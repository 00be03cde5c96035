-- What was found in a piece.
use Rattle.std.proofs.Common.{◌≡◌, ℕ, ◌+◌, ◌<◌, ◌≤◌, List, [], ◌++◌, drop, Bool, true, false, Option, Some, None, subst}
use Rattle.std.specs.Prelude.{IfSome}
use Rattle.gx_commands.specs.Lines.{with_line, no_lines}
use Rattle.gx_reader.specs.declared.reader.LineReader.{LineReader}
use Rattle.gx_reader.specs.Reader.{meant, line_of, number_of}
use Rattle.gx_reader.specs.Pieces.{IsNextIn, IsLastLine, Passes, taken_of, lines_of}

pub found_line : (found : Option ℕ) (count : ℕ) (piece rest : List ℕ) (old new : LineReader)
    → found ≡ Some count → IsNextIn found piece rest old new
    → meant old (piece ++ rest) ≡ with_line (line_of new) (meant new (drop count piece ++ rest))
found_line found count piece rest old new is next =
    subst (λ (f : Option ℕ). IsNextIn f piece rest old new) is next

pub found_passes : (found : Option ℕ) (count all : ℕ) (old new : LineReader)
    → found ≡ Some count → Passes old new (taken_of found all) (lines_of found)
    → Passes old new count 1
found_passes found count all old new is passes =
    subst (λ (f : Option ℕ). Passes old new (taken_of f all) (lines_of f)) is passes

-- no line ends in it
pub found_none : (found : Option ℕ) (piece rest : List ℕ) (old new : LineReader)
    → found ≡ None → IsNextIn found piece rest old new
    → meant old (piece ++ rest) ≡ meant new rest
found_none found piece rest old new is next =
    subst (λ (f : Option ℕ). IsNextIn f piece rest old new) is next

pub none_passes : (found : Option ℕ) (all : ℕ) (old new : LineReader)
    → found ≡ None → Passes old new (taken_of found all) (lines_of found)
    → Passes old new all 0
none_passes found all old new is passes =
    subst (λ (f : Option ℕ). Passes old new (taken_of f all) (lines_of f)) is passes

pub found_within : (found : Option ℕ) (count all : ℕ) → found ≡ Some count
    → IfSome found (λ n. (0 < n) × (n ≤ all)) → (0 < count) × (count ≤ all)
found_within found count all is within =
    subst (λ (f : Option ℕ). IfSome f (λ n. (0 < n) × (n ≤ all))) is within

pub last_line : (is : Bool) (old new : LineReader) → is ≡ true → IsLastLine is old new
    → (meant old [] ≡ with_line (line_of new) no_lines) × (number_of new ≡ number_of old + 1)
last_line is old new found last = subst (λ (b : Bool). IsLastLine b old new) found last

pub no_last_line : (is : Bool) (old new : LineReader) → is ≡ false → IsLastLine is old new
    → (meant old [] ≡ no_lines) × (number_of new ≡ number_of old)
no_last_line is old new none last = subst (λ (b : Bool). IsLastLine b old new) none last
