-- Each leaf has few pages. So all that aren't free are few, and where none is free the pages are.
use Rattle.std.proofs.Common.{◌≡◌, ◌≢◌, true, not, ℕ, ◌+◌, ◌*◌, ◌-◌, ◌<◌, ◌≤◌, ◌==◌, List, length, sym, ap, ◌∙◌, arith, eq-eqb}
use Rattle.std.specs.Prelude.{slice_get, Some}
use Rattle.std.specs.List.{sum_by}
use Rattle.std.specs.FinMap.{len}
use Rattle.std.proofs.lemmas.Bool.{true≢false}
use Rattle.std.proofs.lemmas.Option.{slice_get_within}
use Rattle.std.proofs.lemmas.List.Sums.{sum-map}
use Rattle.gx_ports.specs.declared.pages.Place.{Place}
use Rattle.gx_ports.specs.LeafMaps.{LeafMap, entry_count}
use Rattle.gx_ports.specs.Roots.{roots_of, root_pages}
use Rattle.gx_ports.specs.Sheets.{Sheets, Ground, IsPast, HasNone}
use Rattle.gx_ports.specs.Files.{OthersStay, page_count}
use Rattle.gx_leaves.specs.Kinds.{IsFileAt, map_in}
use Rattle.gx_leaves.specs.Places.{IsLaidOut, specs_of}
use Rattle.gx_leaves.specs.Space.{taken_pages}
use Rattle.gx_leaves.specs.Wholeness.{maps_of, limits_of, IsTable, AreLaid}
use Rattle.gx_leaves.proofs.SumLemmas.{some_at, sum_by_map, sum_least, sum_least_but, counted_some, counted_all}
use Rattle.gx_leaves.proofs.PlaceLemmas.{placed}
use Rattle.gx_leaves.proofs.FrameLemmas.{laws_at, file_stays, table_stays}

-- the root pages and the entries of all leaves, place by place
sums : (base : Ground) (places : List Place) (sheets : Sheets)
    → (root_pages (specs_of places) ≡ sum_by (λ p. roots_of p.spec) places)
    × (entry_count (maps_of base places sheets) ≡ sum_by (λ p. len (map_in base p sheets))
    places)
sums base places sheets = (
  sum-map roots_of (specs_of places) ∙ sum_by_map roots_of (λ (p : Place). p.spec) places,
  sum_by_map len (λ p. map_in base p sheets) places,
)

-- each page past the table that isn't free belongs to the place of a leaf
owner_of : (base : Ground) (places : List Place) → IsLaidOut base places → (sheets : Sheets)
    → IsTable base (length places) sheets → length sheets.owners ≡ base.size
    → (page owner : ℕ) → base.tables ≤ page → slice_get sheets.owners page ≡ Some owner
    → owner ≢ 0 → (j : ℕ) × (p : Place) × (slice_get places j ≡ Some p) × (p.owner ≡ owner)
owner_of base places laid sheets table many page owner past at least =
    let within = slice_get_within sheets.owners page owner at in
    let is : IsPast base page = record { past = past; below = omega (arith, within, many) } in
    let most = table.owned page owner is at in
    let j = owner - 1 in
    let one : 1 ≤ owner = omega (arith, least) in
    let s = some_at places j (omega (arith, most, one)) in
    (j, s.0, s.1, omega (arith, (placed base places laid j s.0 s.1).number, one))

is_taken : (owner : ℕ) → not (owner == 0) ≡ true → owner ≢ 0
is_taken owner taken free = absurd (true≢false (sym taken ∙ ap not (eq-eqb owner 0 free)))

pub few_taken : (base : Ground) (places : List Place) → IsLaidOut base places → (sheets : Sheets)
    → AreLaid base places sheets → length sheets.owners ≡ base.size
    → taken_pages sheets ≤ (limits_of base places).fixed + 2 * entry_count (maps_of base places sheets)
few_taken base places laid sheets whole many =
    let all = counted_some (λ (p : Place). p.owner) places (λ owner. not (owner == 0)) base.tables
    sheets.owners
    (λ page owner past at taken. owner_of base places laid sheets whole.table many page owner past
    at (is_taken owner taken)) in
    let most = sum_least (λ (p : Place). page_count p.owner sheets) (λ p. roots_of p.spec)
    (λ p. len (map_in base p sheets)) places
    (λ i place at. (
    let h = whole.each i place at in
    let laws = laws_at base places laid i place at in
    let f = laws.few sheets h.0 h.1 in
    omega (arith, f, ap len (laws.one sheets h.0 h.1)))) in
    let s = sums base places sheets in
    omega (arith, all, most, s.0, s.1)

pub crowded : (base : Ground) (places : List Place) → IsLaidOut base places
    → (old new : Sheets) (leaf : ℕ) (place : Place) → slice_get places leaf ≡ Some place
    → OthersStay base place.owner old new → AreLaid base places old → HasNone base new
    → length new.owners ≡ base.size
    → ((m : LeafMap) → IsFileAt base place old m
    → page_count place.owner new ≤ roots_of place.spec + 2 * len m + 1)
    → base.size < (limits_of base places).fixed + 2 * entry_count (maps_of base places old) + 2
crowded base places laid old new leaf place at others whole none many few =
    let table = table_stays base places laid old new leaf place at others whole.table in
    let all = counted_all (λ (p : Place). p.owner) places base.tables new.owners
    (λ page owner past at. (
    let within = slice_get_within new.owners page owner at in
    let is : IsPast base page = record { past = past; below = omega (arith, within, many) } in
    owner_of base places laid new table many page owner past at
    (λ free. none page is (at ∙ ap Some free)))) in
    let held = whole.each leaf place at in
    let here = few held.0 held.1 in
    let one = (laws_at base places laid leaf place at).one old held.0 held.1 in
    let most = sum_least_but (λ (p : Place). page_count p.owner new) (λ p. roots_of p.spec)
    (λ p. len (map_in base p old)) places leaf place at
    (omega (arith, here, ap len one))
    (λ i other differ there. (
    let h = whole.each i other there in
    let laws = laws_at base places laid i other there in
    let f = laws.few new h.0
    (file_stays base places laid old new leaf place at others i other differ there h.0 h.1) in
    omega (arith, f, ap len (laws.one old h.0 h.1)))) in
    let s = sums base places old in
    let pages = many in
    omega (arith, all, most, s.0, s.1, pages)
