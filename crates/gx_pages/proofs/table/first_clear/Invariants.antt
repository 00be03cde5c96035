use Rattle.std.proofs.Common.{◌≡◌, ◌≤◌, ◌<◌, ℕ}
use Rattle.gx_pages.specs.Owners.{owner_number}
use Rattle.gx_pages.proofs.table.first_clear.Given as goal

abbrev pub invariant-loop-page : goal.invariant-loop-page
invariant-loop-page l = record {
  own : (p : ℕ) → p < l.page → owner_number l.numbers p ≡ 65535;
  free : (p : ℕ) → l.page ≤ p → p < 2048 → owner_number l.numbers p ≡ 0;
}
