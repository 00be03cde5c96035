-- Entries that a selection gives.
use Rattle.std.specs.Prelude.{◌≡◌, ℕ, true, List, length, map, filter, take, ◌&&◌}
use Rattle.std.specs.Cmp.Lexicographic.{slice_cmp}
use Rattle.std.specs.Ordering.{nat_cmp, is_le, is_gt}
use Rattle.gx_values.specs.Keys.{is_inside}
use Rattle.gx_ports.specs.declared.leaves.Entry.{Entry as LeafEntry}
use Rattle.gx_slots.specs.Entries.{Entry}

-- an entry of a page as leaves give it
abbrev pub given_entry : Entry → LeafEntry
given_entry e = record { key = e.key; body = e.body }

-- those of some entries that lie inside a span, from a key on
abbrev pub given_from : List ℕ → List ℕ → List ℕ → List Entry → List LeafEntry
given_from from lo hi es =
    map given_entry (filter (λ e. is_le (slice_cmp nat_cmp from e.key) && is_inside lo hi e.key) es)

-- a key stands behind the keys of a span with this upper bound
abbrev pub IsPastSpan : List ℕ → List ℕ → Type 0
IsPastSpan hi key = is_gt (slice_cmp nat_cmp (take (length hi) key) hi) ≡ true
