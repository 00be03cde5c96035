use Rattle.std.proofs.Common.{◌≡◌, ◌<◌, ℕ, List, length}
use Rattle.std.specs.Prelude.{Some, slice_get}
use Rattle.gx_pages.specs.Owners.{owner_number}
use Rattle.gx_pages.proofs.table.read_numbers.Given as goal

pub record AreRead (table : List ℕ) (into : List ℕ) (page : ℕ) : Type 0 where
  pub many : length into ≡ 2048
  pub numbers : (i : ℕ) → i < page → slice_get into i ≡ Some (owner_number table i)

abbrev pub invariant-loop-page : goal.invariant-loop-page
invariant-loop-page l = AreRead l.table l.into l.page
