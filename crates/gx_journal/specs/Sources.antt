-- Where the working pages and the kept ones stand.
use Rattle.std.specs.Prelude.{◌≡◌, ◌⊎◌, ◌<◌, ◌≤◌, ◌+◌, ℕ, Bool, true, false, List, length, get_or, [], Some, if◌then◌else◌}
use Rattle.std.specs.Option.{option_map_or}
use Rattle.std.specs.List.{count_by}
use Rattle.gx_frames.specs.Pool.{Resident, find_page}
use Rattle.gx_device.specs.Content.{Content}
use Rattle.gx_device.specs.Crash.{Outside}
use Rattle.gx_layout.specs.Layout.{View, head_blocks, slot, home, IsBitmap}
use Rattle.gx_layout.specs.Calm.{Calm}

-- page p on a device of so many blocks and P pages: in its slot where it is spilled, else at home
abbrev pub stored : ℕ → ℕ → List (List ℕ) → List Bool → ℕ → List ℕ
stored size P blocks spilled p =
    if get_or spilled p false then get_or blocks (slot size p) []
    else get_or blocks (home size P p) []

-- page p: in a frame where it is resident, else as it is stored
abbrev pub page_of : ℕ → ℕ → List (List ℕ) → List Bool → List Resident → ℕ → List ℕ
page_of size P blocks spilled residents p =
    option_map_or (λ r. r.bytes) (find_page p residents) (stored size P blocks spilled p)

-- a resident page that hasn't changed has the bytes that are stored of it
abbrev pub IsCached : ℕ → ℕ → List (List ℕ) → List Bool → List Resident → Type 0
IsCached size P blocks spilled residents = (p : ℕ) (r : Resident) → find_page p residents ≡ Some r
    → r.changed ≡ false → r.bytes ≡ stored size P blocks spilled p

-- each page is what it was
abbrev pub SamePages : (old new : ℕ → List ℕ) → Type 0
SamePages old new = (p : ℕ) → new p ≡ old p

-- from place i on the list has p
abbrev pub IsAmong : ℕ → List ℕ → ℕ → Type 0
IsAmong i listed p = ((j : ℕ) → i ≤ j → j < length listed → get_or listed j 0 ≡ p → ⊥) → ⊥

-- the list has each spilled page, and no more than there are
pub record IsListed (spilled : List Bool) (listed : List ℕ) : Type 0 where
  pub within : (i : ℕ) → i < length listed → get_or listed i 0 < length spilled
  pub every : (p : ℕ) → get_or spilled p false ≡ true → IsAmong 0 listed p
  pub flagged : (i : ℕ) → i < length listed → get_or spilled (get_or listed i 0) false ≡ true
  pub count : length listed ≡ count_by (λ b. b) spilled

-- a block is a slot
abbrev pub IsSlot : ℕ → ℕ → ℕ → Type 0
IsSlot size P n = (head_blocks size ≤ n) × (n < head_blocks size + P)

-- no block but slots changed, nothing was heard, and what was calm is
pub record OnlySlots (size P : ℕ) (old new : Content) : Type 0 where
  pub outside : Outside (IsSlot size P) old.now new.now
  pub script : new.script ≡ old.script
  pub aside : new.aside ≡ old.aside
  pub calm : (start : Content) (v : View) → v.size ≡ size → length v.pages ≡ P
      → Calm start v old → Calm start v new

-- the home of a page of a list
pub record IsHomeOf (size P : ℕ) (listed : List ℕ) (n : ℕ) : Type 0 where
  pub place : ℕ
  pub below : place < length listed
  pub is : n ≡ home size P (get_or listed place 0)

-- a block that a commit writes once the slots are written: the gate, the bitmap, or a home
abbrev pub IsCommitted : ℕ → ℕ → List ℕ → ℕ → Type 0
IsCommitted size P listed n = (n ≡ 1) ⊎ IsBitmap size n ⊎ IsHomeOf size P listed n

-- a block that isn't of the head
abbrev pub IsBody : ℕ → ℕ → Type 0
IsBody size n = (n ≡ 1) ⊎ IsBitmap size n ⊎ (head_blocks size ≤ n)
