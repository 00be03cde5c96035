-- How many pages leaves take.
use Rattle.std.specs.Prelude.{ℕ, ◌==◌, not, count_by}
use Rattle.gx_ports.specs.Sheets.{Sheets}

-- how many pages aren't free
abbrev pub taken_pages : Sheets → ℕ
taken_pages sheets = count_by (λ owner. not (owner == 0)) sheets.owners
