use Rattle.std.proofs.Common.{◌≡◌, ◌≤◌, ◌<◌, ℕ}
use Rattle.gx_pages.specs.Owners.{owner_number}
use Rattle.gx_pages.proofs.table.free_between.Given as goal

abbrev pub invariant-loop-page : goal.invariant-loop-page
invariant-loop-page l = (p : ℕ) → l.from ≤ p → p < l.page → owner_number l.table p ≡ 0 → ⊥
