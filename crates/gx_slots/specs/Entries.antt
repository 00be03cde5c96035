-- Entries: a key and what is stored under it, and how they are written.
use Rattle.std.specs.Prelude.{◌≡◌, ◌≢◌, ℕ, ◌+◌, ◌≤◌, List, ◌++◌, length, take, drop}
use Rattle.std.specs.Borrow.{Bor}
use Rattle.std.specs.Cmp.Lexicographic.{slice_cmp}
use Rattle.std.specs.Int.{w16, to_be_bytes, from_be_bytes}
use Rattle.std.specs.List.{AllPairs}
use Rattle.std.specs.Ordering.{nat_cmp}
use Rattle.std.specs.declared.cmp.Ordering.TheVariants.{Less}
use Rattle.gx_bytes.specs.Records.{records, HoldsRecordCount}
use Rattle.gx_values.specs.declared.bytes.TheConstants.{MAX_KEY_LEN}
use Rattle.gx_ports.specs.declared.leaves.TheConstants.{MAX_ENTRY_LEN}

-- a key and the body stored under it
pub record Entry : Type 0 where
  pub key : List ℕ
  pub body : List ℕ

-- a key has at most MAX_KEY_LEN bytes, and a key and its body have at most MAX_ENTRY_LEN together
pub record IsFit (entry : Entry) : Type 0 where
  pub key : length entry.key ≤ MAX_KEY_LEN
  pub whole : length entry.key + length entry.body ≤ MAX_ENTRY_LEN

-- an entry is written as the lengths of its key and of its body, the key, and the body
unfoldable pub entry_bytes : Entry → List ℕ
entry_bytes entry =
    to_be_bytes w16 (length entry.key)
    ++ (to_be_bytes w16 (length entry.body) ++ (entry.key ++ entry.body))

-- how many bytes an entry takes
abbrev pub entry_len : Entry → ℕ
entry_len entry = 4 + length entry.key + length entry.body

-- the entry that bytes begin with
unfoldable pub first_entry : List ℕ → Entry
first_entry bytes =
    let key_len = from_be_bytes w16 bytes in
    let body_len = from_be_bytes w16 (drop 2 bytes) in
    record { key = take key_len (drop 4 bytes); body = take body_len (drop (4 + key_len) bytes) }

-- the first n entries of bytes
abbrev pub entries_in : ℕ → List ℕ → List Entry
entries_in = records entry_bytes first_entry

-- the bytes begin with n entries
abbrev pub HoldsCount : ℕ → List ℕ → Type 0
HoldsCount = HoldsRecordCount entry_bytes IsFit

-- no key stands twice
abbrev pub AreDistinct : List Entry → Type 0
AreDistinct = AllPairs (λ a b. a.key ≢ b.key)

-- each key stands before those behind it in the order of bytes
abbrev pub AreAscending : List Entry → Type 0
AreAscending = AllPairs (λ a b. slice_cmp nat_cmp a.key b.key ≡ Less)

-- an entry as it is lent: its key and its body
abbrev pub lent : Bor (List ℕ) × Bor (List ℕ) → Entry
lent entry = record { key = entry.0.now; body = entry.1.now }
