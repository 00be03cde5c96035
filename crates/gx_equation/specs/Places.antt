-- Places of a text: how many bytes are left with each.
use Rattle.std.specs.Prelude.{ℕ, ◌≤◌, List, [], ◌∷◌}

-- none stands before the one that it follows
abbrev pub AreInOrder : ℕ → List ℕ → Type 0
AreInOrder from [] = Unit {0}
AreInOrder from (p ∷ ps) = (p ≤ from) × AreInOrder p ps
