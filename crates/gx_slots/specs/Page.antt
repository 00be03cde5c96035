-- Entry pages: what the bytes of a page say, and which bytes are one.
use Rattle.std.specs.Prelude.{ℕ, List}
use Rattle.gx_bytes.specs.Page.{IsRecordPage, records_of, number_of, used}
use Rattle.gx_slots.specs.Entries.{Entry, IsFit, AreDistinct, AreAscending, entry_bytes, entry_len, first_entry}

-- the bytes are an entry page with these entries, in their order, and this next page
pub record IsPageOf (entries : List Entry) (next : ℕ) (bytes : List ℕ) : Type 0 where
  pub page : IsRecordPage entry_bytes IsFit 0x44 entries next bytes
  pub distinct : AreDistinct entries

-- the bytes are an entry page
pub record IsEntryPage (bytes : List ℕ) : Type 0 where
  pub entries : List Entry
  pub next : ℕ
  pub is : IsPageOf entries next bytes

-- the entries of an entry page
unfoldable pub entries_of : List ℕ → List Entry
entries_of = records_of entry_bytes first_entry

-- the next page of an entry page
unfoldable pub next_of : List ℕ → ℕ
next_of = number_of

-- how many bytes of a page are taken up to the end of these entries
abbrev pub used_by : List Entry → ℕ
used_by = used entry_len

-- the bytes are an entry page whose keys ascend
pub record IsAscendingPage (bytes : List ℕ) : Type 0 where
  pub page : IsEntryPage bytes
  pub ascending : AreAscending (entries_of bytes)
