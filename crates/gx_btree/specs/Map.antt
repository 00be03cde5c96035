-- The map that is read on the pages of an owner.
use Rattle.std.specs.Prelude.{◌==◌, ◌&&◌, ℕ, zero, suc, Bool, List, [], ◌++◌, length, map, slice_index_or, if◌then◌else◌}
use Rattle.std.specs.FinMap.{from_entries}
use Rattle.gx_ports.specs.declared.pages.Place.{Place}
use Rattle.gx_ports.specs.LeafMaps.{LeafMap}
use Rattle.gx_ports.specs.Sheets.{Sheets, Ground, bytes_at}
use Rattle.gx_slots.specs.Entries.{Entry}
use Rattle.gx_slots.specs.Page.{entries_of}

-- the owner has the page, and it begins as an entry page
abbrev pub has_entries : ℕ → Sheets → ℕ → Bool
has_entries owner sheets page =
    (slice_index_or sheets.owners page 0 == owner) &&
    (slice_index_or (bytes_at sheets page) 0 0 == 0x44)

abbrev pub tree_entries_on : ℕ → Sheets → ℕ → List Entry
tree_entries_on owner sheets page =
    if has_entries owner sheets page then entries_of (bytes_at sheets page) else []

-- the entries on those of the first pages that are entry pages of the owner
abbrev pub tree_entries_below : ℕ → Sheets → ℕ → List Entry
tree_entries_below owner sheets zero = []
tree_entries_below owner sheets (suc n) =
    tree_entries_on owner sheets n ++ tree_entries_below owner sheets n

-- the entries on all entry pages of the owner
abbrev pub bplus_map : Ground → Place → Sheets → LeafMap
bplus_map base place sheets =
    from_entries
    (map (λ e. (e.key, e.body)) (tree_entries_below place.owner sheets (length sheets.owners)))
