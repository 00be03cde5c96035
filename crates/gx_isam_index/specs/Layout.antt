-- Entries that are laid out anew, and what is written of them on an index page.
use Rattle.std.specs.Prelude.{◌≡◌, ℕ, ◌+◌, ◌-◌, ◌*◌, ◌<◌, ◌≤◌, List, length, drop, map, slice_get, slice_index, slice_index_or, Some}
use Rattle.std.specs.declared.cmp.Ordering.TheVariants.{Less}
use Rattle.gx_bytes.specs.Records.{HoldsRecords}
use Rattle.gx_bytes.specs.declared.page.TheConstants.{PAGE_LEN}
use Rattle.gx_ports.specs.declared.leaves.Entry.{Entry as LeafEntry}
use Rattle.gx_ports.specs.Keyed.{key_cmp}
use Rattle.gx_slots.specs.Entries.{IsFit}
use Rattle.gx_isam_index.specs.Fresh.{begin_of}
use Rattle.gx_isam_index.specs.Index.{IsFitSeparator as IsSeparator, bucket_count, separator_bytes}

abbrev pub keys_of : List LeafEntry → List (List ℕ)
keys_of entries = map (λ entry. entry.key) entries

-- an entry fits a page
abbrev pub FitsPage : LeafEntry → Type 0
FitsPage entry = IsFit (record { key = entry.key; body = entry.body })

-- each entry fits a page, and its key stands before the next one in the order of bytes
pub record AreOrdered (entries : List LeafEntry) : Type 0 where
  pub fit : (i : ℕ) (entry : LeafEntry) → slice_get entries i ≡ Some entry → FitsPage entry
  pub ascending : (i : ℕ) (entry next : LeafEntry) → slice_get entries i ≡ Some entry
      → slice_get entries (i + 1) ≡ Some next → key_cmp entry.key next.key ≡ Less

-- the bytes begin as an index page of so many buckets
pub record HasFront (bytes : List ℕ) (count : ℕ) : Type 0 where
  pub size : length bytes ≡ PAGE_LEN
  pub kind : slice_index bytes 0 ≡ 0x58
  pub blank : slice_index bytes 1 ≡ 0
  pub count_is : bucket_count bytes ≡ count

-- behind the first pages of so many buckets stand the first keys of the buckets, and the first four
-- bytes are as they were
pub record HasSeparators (old new : List ℕ) (keys : List (List ℕ)) (count : ℕ) : Type 0 where
  pub size : length new ≡ PAGE_LEN
  pub front : (i : ℕ) → i < 4 → slice_index_or new i 0 ≡ slice_index_or old i 0
  pub separators : List (List ℕ)
  pub number : length separators + 1 ≡ count
  pub holds : HoldsRecords separator_bytes IsSeparator separators (drop (4 + 4 * count) new)
  pub each : (bucket : ℕ) → 1 ≤ bucket → bucket < count
      → slice_get separators (bucket - 1) ≡ slice_get keys (begin_of bucket count (length keys))
