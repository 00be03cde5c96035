-- What a crash of a machine in memory leaves, exactly.
use Rattle.std.specs.Prelude.{◌≡◌, ◌≤◌, ◌<◌, ℕ, Bool, true, false, List, length, [], ◌∷◌, ◌++◌, take, drop, replicate, get_or}
use Rattle.gx_device.specs.Content.{Moment, block_of, is_pending, with_named}
use Rattle.gx_device.specs.Crash.{Image, IsImage}
use Rattle.gx_device.specs.declared.device.TheConstants.{BLOCK_LEN}
use Rattle.gx_memory_machine.specs.declared.crash.Choice.{Choice}
use Rattle.gx_memory_machine.specs.declared.crash.Choice.TheVariants.{Old, New, Fill, Split}
use Rattle.gx_memory_machine.specs.Log.{first}

-- the moment of that number: the first is 0, and what stands now comes after all earlier ones
abbrev pub moment_at : List Moment → Moment → ℕ → Moment
moment_at past now i = get_or (past ++ now ∷ []) i now

-- what stands in a block that was pending, by its synced bytes and those that it read as
abbrev pub chosen : Choice → List ℕ → List ℕ → List ℕ
chosen Old synced read = synced
chosen New synced read = read
chosen (Fill b) synced read = replicate BLOCK_LEN b
chosen (Split k) synced read = take k read ++ drop k synced

-- a block read as these bytes at the last of the moments up to this one at which it wasn't pending
pub record IsSynced (moments : ℕ → Moment) (i n : ℕ) (bytes : List ℕ) : Type 0 where
  pub at : ℕ
  pub until : at ≤ i
  pub firm : is_pending (moments at) n ≡ false
  pub since : (k : ℕ) → at < k → k ≤ i → is_pending (moments k) n ≡ true
  pub is : block_of (moments at) n ≡ bytes

-- All devices are those of an image of that moment, in which each block that was pending stands as
-- chosen. None is attached, and nothing was said since.
pub record IsLeft (moments : ℕ → Moment) (i : ℕ) (choice : Choice) (after : Moment) : Type 0 where
  pub image : Image
  pub is : IsImage (moments i) image
  pub pending : (n : ℕ) → is_pending (moments i) n ≡ true → (synced : List ℕ)
      × IsSynced moments i n synced
      × (get_or image.blocks n [] ≡ chosen choice synced (block_of (moments i) n))
  pub devices : after ≡ first (with_named image.shelf.name image.blocks image.shelf.devices)

-- the bytes kept of each block that is pending after a call are those kept before, where it was
-- pending then, and else those that it read as
pub record StaysSynced (old new : Moment) (before after : List (List ℕ)) : Type 0 where
  pub kept : (n : ℕ) → is_pending new n ≡ true → is_pending old n ≡ true
      → get_or after n [] ≡ get_or before n []
  pub first : (n : ℕ) → is_pending new n ≡ true → is_pending old n ≡ false
      → get_or after n [] ≡ block_of old n

-- blocks after a crash: those that were pending stand as chosen, and the others as before
pub record AreSpoiled (choice : Choice) (synced : List (List ℕ)) (pending : List Bool)
    (old new : List (List ℕ)) : Type 0 where
  pub count : length new ≡ length old
  pub same : (n : ℕ) → get_or pending n false ≡ false → get_or new n [] ≡ get_or old n []
  pub spoiled : (n : ℕ) → get_or pending n false ≡ true
      → get_or new n [] ≡ chosen choice (get_or synced n []) (get_or old n [])

-- the devices after a crash, of which none is attached
pub record IsSpoiled (choice : Choice) (synced : List (List ℕ)) (m after : Moment) : Type 0 where
  pub blocks : List (List ℕ)
  pub are : AreSpoiled choice synced m.pending m.blocks blocks
  pub devices : after ≡ first (with_named m.shelf.name blocks m.shelf.devices)
