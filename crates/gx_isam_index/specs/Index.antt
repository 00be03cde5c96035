-- Index pages: byte 0 is 0x58, byte 1 is 0, the number of buckets, 1 to 64, in two bytes, for each
-- bucket its first page in four, and then for each bucket but the first a separator.
use Rattle.std.specs.Prelude.{◌≡◌, ℕ, ◌+◌, ◌-◌, ◌*◌, ◌^◌, ◌<◌, ◌≤◌, Bool, true, false, List, ◌++◌, length, take, drop, slice_index}
use Rattle.std.specs.Borrow.{Bor}
use Rattle.std.specs.Int.{w16, w32, to_be_bytes, from_be_bytes}
use Rattle.std.specs.List.{AllPairs, count_by}
use Rattle.std.specs.Ordering.{is_le}
use Rattle.std.specs.declared.cmp.Ordering.TheVariants.{Less}
use Rattle.gx_bytes.specs.Page.{count_of}
use Rattle.gx_bytes.specs.Records.{records, HoldsRecordCount, HoldsAscendingRecords}
use Rattle.gx_bytes.specs.declared.page.TheConstants.{PAGE_LEN}
use Rattle.gx_ports.specs.Keyed.{key_cmp}

-- a separator is written as its length, in two bytes, and its bytes
unfoldable pub separator_bytes : List ℕ → List ℕ
separator_bytes separator = to_be_bytes w16 (length separator) ++ separator

-- it may have any length that fits
pub record IsFitSeparator (separator : List ℕ) : Type 0 where
  pub short : length separator < 2 ^ 16

-- the separator that bytes begin with
unfoldable pub first_separator : List ℕ → List ℕ
first_separator bytes = take (from_be_bytes w16 bytes) (drop 2 bytes)

-- the first n separators of bytes
abbrev pub separators_in : ℕ → List ℕ → List (List ℕ)
separators_in = records separator_bytes first_separator

-- the bytes begin with n separators
abbrev pub HoldsCount : ℕ → List ℕ → Type 0
HoldsCount = HoldsRecordCount separator_bytes IsFitSeparator

-- a separator as it is lent
abbrev pub lent : Bor (List ℕ) → List ℕ
lent separator = separator.now

-- each stands before those behind it in the order of bytes
abbrev pub AreAscending : List (List ℕ) → Type 0
AreAscending = AllPairs (λ a b. key_cmp a b ≡ Less)

-- the bytes begin with n separators, which ascend
abbrev pub HoldsAscending : ℕ → List ℕ → Type 0
HoldsAscending = HoldsAscendingRecords separator_bytes IsFitSeparator (λ separator. separator)

-- the number of buckets
abbrev pub bucket_count : List ℕ → ℕ
bucket_count bytes = count_of bytes

-- the first page of a bucket, NONE where it has no page
abbrev pub first_page_of : List ℕ → ℕ → ℕ
first_page_of bytes bucket = from_be_bytes w32 (drop (4 + 4 * bucket) bytes)

-- the bytes behind the first pages
abbrev pub behind_firsts : List ℕ → List ℕ
behind_firsts bytes = drop (4 + 4 * bucket_count bytes) bytes

-- the separators, one less than there are buckets
abbrev pub separators_of : List ℕ → List (List ℕ)
separators_of bytes = separators_in (bucket_count bytes - 1) (behind_firsts bytes)

-- the bytes are an index page
pub record IsIndexPage (bytes : List ℕ) : Type 0 where
  pub size : length bytes ≡ PAGE_LEN
  pub kind : slice_index bytes 0 ≡ 0x58
  pub blank : slice_index bytes 1 ≡ 0
  pub some : 1 ≤ bucket_count bytes
  pub most : bucket_count bytes ≤ 64
  pub separators : HoldsAscending (bucket_count bytes - 1) (behind_firsts bytes)

-- the part of a separator that is compared with a key: the front that is as long as the key, or the
-- whole
abbrev pub part_of : Bool → List ℕ → List ℕ → List ℕ
part_of true key separator = take (length key) separator
part_of false key separator = separator

-- the bucket of a key among separators: how many of them are at or below it
abbrev pub bucket_among : List (List ℕ) → List ℕ → ℕ
bucket_among separators key = count_by (λ separator. is_le (key_cmp separator key)) separators

-- the last bucket that has keys whose front is at or below this one: how many separators have such
-- a front
abbrev pub last_among : List (List ℕ) → List ℕ → ℕ
last_among separators hi =
    count_by (λ separator. is_le (key_cmp (take (length hi) separator) hi)) separators

-- the same by an index page
abbrev pub last_bucket : List ℕ → List ℕ → ℕ
last_bucket bytes hi = last_among (separators_of bytes) hi

-- the bucket of a key by an index page
abbrev pub bucket_of : List ℕ → List ℕ → ℕ
bucket_of bytes key = bucket_among (separators_of bytes) key
