-- The map that is read on the pages of an owner.
use Rattle.std.specs.Prelude.{◌==◌, ℕ, zero, suc, Bool, List, [], ◌++◌, length, map, slice_index_or, if◌then◌else◌}
use Rattle.std.specs.FinMap.{from_entries}
use Rattle.gx_ports.specs.LeafMaps.{LeafMap}
use Rattle.gx_ports.specs.Sheets.{Sheets}
use Rattle.gx_slots.specs.Entries.{Entry}
use Rattle.gx_chain.specs.Chain.{entries_at}

abbrev pub has_owner : ℕ → Sheets → ℕ → Bool
has_owner owner sheets page = slice_index_or sheets.owners page 0 == owner

-- the entries on a page, where the owner has it
abbrev pub entries_if_owned : ℕ → Sheets → ℕ → List Entry
entries_if_owned owner sheets page =
    if has_owner owner sheets page then entries_at sheets page else []

-- the entries on those of the first pages that the owner has
abbrev pub owned_entries : ℕ → Sheets → ℕ → List Entry
owned_entries owner sheets zero = []
owned_entries owner sheets (suc n) = entries_if_owned owner sheets n ++ owned_entries owner sheets n

-- the entries on all pages of the owner
abbrev pub owned_map : ℕ → Sheets → LeafMap
owned_map owner sheets =
    from_entries (map (λ e. (e.key, e.body)) (owned_entries owner sheets (length sheets.owners)))
