-- A scan for entries of different keys.
use Rattle.std.specs.Prelude.{◌≡◌, ℕ, ◌+◌, ◌*◌, ◌%◌, List, length, Bool, false, true, slice_index_or}
use Rattle.std.specs.List.{All, fold}
use Rattle.gx_bytes.specs.Records.{HoldsRecords, HoldsAscendingRecords}
use Rattle.gx_slots.specs.declared.validity.TheConstants.{HASHES}
use Rattle.gx_slots.specs.Entries.{Entry, IsFit, AreDistinct, entry_bytes}

-- the bytes begin with n entries, and no key stands twice among them
pub record HoldsDistinct (n : ℕ) (bytes : List ℕ) : Type 0 where
  pub entries : List Entry
  pub count : length entries ≡ n
  pub holds : HoldsRecords entry_bytes IsFit entries bytes
  pub distinct : AreDistinct entries

-- the bytes begin with n entries whose keys ascend
abbrev pub HoldsAscending : ℕ → List ℕ → Type 0
HoldsAscending = HoldsAscendingRecords entry_bytes IsFit (λ entry. entry.key)

-- a hash of a key, below HASHES
abbrev pub hash_of : List ℕ → ℕ
hash_of key = fold (λ hash byte. (hash * 839 + byte) % HASHES) 0 key

-- the flags are set at the hashes of the keys of these entries
abbrev pub HasSeen : List Bool → List Entry → Type 0
HasSeen seen = All (λ entry. slice_index_or seen (hash_of entry.key) false ≡ true)
