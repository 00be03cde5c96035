use Rattle.std.proofs.Common.{◌≡◌, ◌≤◌, ◌<◌, ◌/◌, ℕ, ap, arith}
use Rattle.gx_layout.specs.Places.{table_pages}
use Rattle.gx_journal.specs.Journal.{working_of}
use Rattle.gx_ports.specs.Sheets.{IsPast}
use Rattle.gx_pages.specs.Paged.{ground_of}
use Rattle.gx_pages.proofs.OwnerLemmas.{found_on}
use Rattle.gx_pages.proofs.owners.free_on.Goals as goal

pub returns-clause-free : goal.returns-clause-free
returns-clause-free g c told =
    let j = c.args.journal.now in
    let size = c.pages.ensures in
    let same = c.read_page.ensures.reads.keeps.size in
    let least = c.max.ensures in
    let tables = c.tables.ensures.count in
    let blocks = ap table_pages c.read_page.ensures.reads.keeps.blocks in
    let first = c.min-first.ensures in
    let end = c.min-end.ensures in
    let middle = c.clamp-middle.ensures in
    let within : (page : ℕ) → page / 2048 ≡ c.args.table → IsPast (ground_of j) page
    → (c.min-first.result ≤ page) × (page < c.min-end.result) = λ page at past.
    let low = past.past in
    let below = past.below in (
      omega (arith, at, low, below, size, same, least, first, end, tables, blocks),
      omega (arith, at, low, below, size, same, end),
    ) in
    let inside : (page : ℕ) → c.min-first.result ≤ page → page < c.clamp-middle.result
    → page / 2048 ≡ c.args.table =
    λ page from to. omega (arith, from, to, size, same, least, first, end, middle, tables, blocks) in
    found_on (ground_of j) (working_of j) c.read_page.new.into c.args.table c.min-first.result
    c.clamp-middle.result c.min-end.result c.free_between-2.result
    (c.in_ok-read_page.ensures.page told) within inside c.in_default.ensures
    c.free_between-2.ensures
