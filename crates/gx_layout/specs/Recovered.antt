-- The pages that recovery finds, what a crash may leave while it works, and what it writes.
use Rattle.std.specs.Prelude.{◌≡◌, ◌⊎◌, ℕ, true, List, [], get_or, length, map}
use Rattle.std.specs.List.{range_with_len}
use Rattle.gx_device.specs.Content.{Content, NonePending, Ticks}
use Rattle.gx_device.specs.Crash.{IsImage, LeavesOnly}
use Rattle.gx_layout.specs.Layout.{View, StandsFor, IsIn, flags, has_bit_on, is_open, head_of, home, pages_of, replayed}

-- the pages of these blocks, as recovery finds them
abbrev pub replayed_pages : List (List ℕ) → List (List ℕ)
replayed_pages blocks =
    map (replayed (pages_of (length blocks)) blocks) (range_with_len 0 (pages_of (length blocks)))

-- these pages, beside what reads now
abbrev pub view_now : List (List ℕ) → Content → View
view_now pages c =
    record {
      size = length c.now.blocks;
      pages = pages;
      head = head_of c.now.blocks;
      said = c.now.said;
      shelf = c.now.shelf;
    }

-- after the first sync nothing is pending, and each image stands for the view
pub record AfterSync (v : View) (old new : Content) : Type 0 where
  pub mid : Content
  pub time : Ticks old mid
  pub first : LeavesOnly (IsImage old.now) old mid
  pub none_pending : NonePending mid
  pub then : LeavesOnly (StandsFor v) mid new

-- The blocks read as before, and at each moment a crash leaves no more than one right before could
-- have left.
pub record IsUnwritten (old new : Content) : Type 0 where
  pub blocks : new.now.blocks ≡ old.now.blocks
  pub images : LeavesOnly (IsImage old.now) old new

-- The first sync failed, and nothing followed; or it didn't.
abbrev pub Recovers : View → Content → Content → Type 0
Recovers v old new = (IsUnwritten old new × Ticks old new) ⊎ AfterSync v old new

-- a block that recovery may write: where the gate is open, the gate and the homes of the pages that
-- the bitmap names
abbrev pub IsOfRecovery : ℕ → List (List ℕ) → ℕ → Type 0
IsOfRecovery P blocks n =
    (is_open (get_or blocks 1 []) ≡ true)
    × ((n ≡ 1) ⊎ IsIn (home (length blocks) P 0) (flags (has_bit_on blocks) P) n)
