-- The entries of a chain inside a span.
use Rattle.std.specs.Prelude.{◌≡◌, ◌≢◌, ◌↔◌, ℕ, true, List, ◌++◌, map, filter}
use Rattle.std.specs.List.{AllPairs, Contains, flat_map}
use Rattle.std.specs.List.Sorted.{IsPermutation, IsSortedBy, IsStrictlySortedBy}
use Rattle.std.specs.Ordering.{is_lt}
use Rattle.std.specs.declared.cmp.Ordering.{Ordering}
use Rattle.gx_values.specs.Keys.{is_inside}
use Rattle.gx_ports.specs.declared.leaves.Entry.{Entry as LeafEntry}
use Rattle.gx_ports.specs.Sheets.{Sheets, bytes_at}
use Rattle.gx_ports.specs.Keyed.{key_cmp}
use Rattle.gx_slots.specs.Entries.{Entry}
use Rattle.gx_slots.specs.Page.{IsEntryPage}
use Rattle.gx_chain.specs.Chain.{entries_at, IsOn}

-- an entry of a page, as one of a leaf
abbrev pub leaf_entry : Entry → LeafEntry
leaf_entry e = record { key = e.key; body = e.body }

-- those of these entries that are inside a span, in their order
abbrev pub inside_of : List ℕ → List ℕ → List Entry → List LeafEntry
inside_of lo hi es = map leaf_entry (filter (λ e. is_inside lo hi e.key) es)

-- those of pages, one page after the other
abbrev pub inside_on : Sheets → List ℕ → List ℕ → List ℕ → List LeafEntry
inside_on sheets lo hi pages = flat_map (λ page. inside_of lo hi (entries_at sheets page)) pages

-- entries in the order of their keys
abbrev pub entry_cmp : LeafEntry → LeafEntry → Ordering
entry_cmp a b = key_cmp a.key b.key

-- these are entry pages, each once, and no key stands twice on them
pub record ArePagesApart (sheets : Sheets) (pages : List ℕ) : Type 0 where
  pub once : AllPairs (λ a b. a ≢ b) pages
  pub each : (page : ℕ) → Contains pages page → IsEntryPage (bytes_at sheets page)
  pub apart : (page other : ℕ) (key body again : List ℕ) → Contains pages page
      → Contains pages other
      → Contains (entries_at sheets page) (record { key = key; body = body })
      → Contains (entries_at sheets other) (record { key = key; body = again })
      → page ≡ other

-- the entries that were found were appended, in ascending order of their keys
pub record HasAppended (found old new : List LeafEntry) : Type 0 where
  pub more : List LeafEntry
  pub appended : new ≡ old ++ more
  pub those : IsPermutation found more
  pub in_order : IsSortedBy (λ a b. is_lt (entry_cmp a b)) more

-- These are the entries on the pages inside the span, each once, and their keys ascend.
pub record AreCollected (sheets : Sheets) (lo hi : List ℕ) (pages : List ℕ)
    (entries : List LeafEntry) : Type 0 where
  pub ascending : IsStrictlySortedBy key_cmp (map (λ e. e.key) entries)
  pub those : (key body : List ℕ)
      → Contains entries (record { key = key; body = body }) ↔
      ((is_inside lo hi key ≡ true) × IsOn sheets pages key body)

-- they were appended
abbrev pub HasCollected : Sheets → List ℕ → List ℕ → List ℕ → List LeafEntry → List LeafEntry
    → Type 0
HasCollected sheets lo hi pages old new =
    (more : List LeafEntry) × (new ≡ old ++ more) × AreCollected sheets lo hi pages more
