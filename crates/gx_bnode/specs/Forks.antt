-- The way from an inner page to a key.
use Rattle.std.specs.Prelude.{◌≡◌, ◌↔◌, ℕ, ◌≤◌, List, ◌∷◌, length, map, take, drop, slice_index, IsTrue}
use Rattle.std.specs.Cmp.Lexicographic.{slice_cmp}
use Rattle.std.specs.List.{All}
use Rattle.std.specs.Ordering.{nat_cmp, is_le}
use Rattle.std.specs.declared.cmp.Ordering.TheVariants.{Less}
use Rattle.gx_bnode.specs.declared.leading.Fork.{Fork}
use Rattle.gx_bnode.specs.Branches.{Branch}
use Rattle.gx_bnode.specs.Page.{HasRoom, separators_in, separators_of, first_of, branches_of}

-- The separators before a place are at or below the key, those from there on stand behind it, and
-- this is the child between.
pub record IsWay (first : ℕ) (branches : List Branch) (key : List ℕ) (place child : ℕ) : Type 0
  where
    pub within : place ≤ length branches
    pub before : All (λ separator. IsTrue (is_le (slice_cmp nat_cmp separator key)))
        (take place (separators_in branches))
    pub behind : All (λ separator. slice_cmp nat_cmp key separator ≡ Less)
        (drop place (separators_in branches))
    pub child_is : child ≡ slice_index (first ∷ map (λ branch. branch.child) branches) place

-- the way from an inner page to a key, and whether the page has room for a separator
pub record IsFork (bytes key : List ℕ) (fork : Fork) : Type 0 where
  pub way : IsWay (first_of bytes) (branches_of bytes) key fork.place fork.child
  pub last : IsTrue fork.is_last ↔ (fork.place ≡ length (separators_of bytes))
  pub room : IsTrue fork.has_room ↔ HasRoom (separators_of bytes)
