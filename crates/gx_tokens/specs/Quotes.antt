-- What quoted texts mean.
use Rattle.std.specs.Prelude.{ℕ, Bool, true, false, List, [], ◌∷◌, ◌++◌, ◌==◌, if◌then◌else◌}

-- the text with each quote twice
abbrev pub doubled : List ℕ → List ℕ
doubled [] = []
doubled (b ∷ bs) = if b == 34 then 34 ∷ 34 ∷ doubled bs else b ∷ doubled bs

-- the text as it stands between quotes, with them
abbrev pub quoted_text : List ℕ → List ℕ
quoted_text text = 34 ∷ doubled text ++ 34 ∷ []

-- the text with the second quote of each pair left out; the flag says that the first of a pair has
-- just come
abbrev pub unquoted : Bool → List ℕ → List ℕ
unquoted second [] = []
unquoted true (b ∷ bs) = unquoted false bs
unquoted false (b ∷ bs) = b ∷ unquoted (b == 34) bs
