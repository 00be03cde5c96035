-- Pages counted by their owners.
use Rattle.std.specs.Prelude.{ℕ, zero, suc, ◌+◌, ◌==◌, List}
use Rattle.std.specs.List.{count_by}

-- how many pages have this owner
abbrev pub count_owned : ℕ → List ℕ → ℕ
count_owned owner owners = count_by (λ n. n == owner) owners

-- f 0 + .. + f (n - 1)
abbrev pub sum_below : (ℕ → ℕ) → ℕ → ℕ
sum_below f zero = 0
sum_below f (suc n) = sum_below f n + f n
