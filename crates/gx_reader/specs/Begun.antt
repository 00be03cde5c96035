-- The bytes of a line that hasn't ended.
use Rattle.std.specs.Prelude.{◌≡◌, ℕ, Bool, false, List, [], take, ◌==◌, if◌then◌else◌}
use Rattle.std.specs.List.{AllByRecursion}

-- no LF stands in it
abbrev pub HasNoLf : List ℕ → Type 0
HasNoLf text = AllByRecursion (λ b. (b == 10) ≡ false) text

abbrev pub unended : Bool → ℕ → List ℕ → List ℕ
unended ended len line = if ended then [] else take len line
