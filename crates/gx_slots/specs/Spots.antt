-- Places of entries on a page, and the place of a key.
use Rattle.std.specs.Prelude.{◌≡◌, ◌≢◌, ℕ, ◌<◌, ◌≤◌, List, length, take, drop, false, IsTrue}
use Rattle.std.specs.Cmp.Lexicographic.{slice_cmp}
use Rattle.std.specs.List.{All, HoldsAt}
use Rattle.std.specs.Ordering.{nat_cmp, is_le}
use Rattle.std.specs.declared.cmp.Ordering.TheVariants.{Less}
use Rattle.gx_slots.specs.declared.seeking.Spot.{Spot}
use Rattle.gx_slots.specs.declared.seeking.Sought.{Sought}
use Rattle.gx_slots.specs.Entries.{Entry}
use Rattle.gx_slots.specs.Page.{used_by}

-- a place among the entries of a page, the offset at which it begins, and that at which all end
pub record IsSpot (entries : List Entry) (spot : Spot) : Type 0 where
  pub place : spot.place ≤ length entries
  pub at : spot.at ≡ used_by (take spot.place entries)
  pub end : spot.end ≡ used_by entries

-- the keys of the entries before a place stand before this one, and the others don't
pub record IsRankOf (key : List ℕ) (entries : List Entry) (place : ℕ) : Type 0 where
  pub within : place ≤ length entries
  pub before : All (λ entry. slice_cmp nat_cmp entry.key key ≡ Less) (take place entries)
  pub behind : All (λ entry. IsTrue (is_le (slice_cmp nat_cmp key entry.key))) (drop place entries)

-- the spot of a key among entries whose keys ascend, and whether an entry there has it
pub record IsSought (key : List ℕ) (entries : List Entry) (sought : Sought) : Type 0 where
  pub spot : IsSpot entries sought.spot
  pub rank : IsRankOf key entries sought.spot.place
  pub found : IsTrue sought.is_there → (sought.spot.place < length entries)
      × HoldsAt (λ entry. entry.key ≡ key) entries sought.spot.place
  pub missing : sought.is_there ≡ false → All (λ entry. entry.key ≢ key) entries
