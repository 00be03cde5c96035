-- A journal, as contracts see it.
use Rattle.std.specs.Prelude.{◌≡◌, ℕ, false, List, length}
use Rattle.gx_device.specs.declared.device.Device as device
use Rattle.gx_device.specs.Content.{Content}
use Rattle.gx_journal.specs.State.{pages_told, homes_told, head_told, CalmSince}
use Rattle.gx_journal.specs.Working.{IsUnchangedIn}
use Rattle.gx_journal.specs.declared.journal.Journal.{Journal}

module _ {D : Type 0} {g : device.Ghosts D} where
  abbrev pub device_of : Journal D g → D
  device_of j = j.device

  abbrev pub content_of : Journal D g → Content
  content_of j = g.content j.device

  -- how many pages there are
  abbrev pub size_of : Journal D g → ℕ
  size_of j = length j.working.spilled.items

  -- how many frames it has
  abbrev pub frames_of : Journal D g → ℕ
  frames_of j = j.working.frames.frames

  -- the pages as they were written last
  abbrev pub working_of : Journal D g → List (List ℕ)
  working_of j =
      pages_told g.tells (g.size j.device) (size_of j)
      (content_of j) j.working.spilled.items j.working.frames.resident

  -- the pages of the last commit
  abbrev pub kept_of : Journal D g → List (List ℕ)
  kept_of j = homes_told g.tells (size_of j) (content_of j)

  -- the block of the magic and those of the texts
  abbrev pub kept_head : Journal D g → List (List ℕ)
  kept_head j = head_told g.tells (content_of j)

  -- no commit has failed
  abbrev pub IsSteady : Journal D g → Type 0
  IsSteady j = j.failed ≡ false

  -- no page in a frame has changed, and none is spilled
  abbrev pub IsUnchanged : Journal D g → Type 0
  IsUnchanged j = IsUnchangedIn j.working

  -- A crash at any moment since that content leaves blocks that stand for the kept pages, and no
  -- commit has failed.
  abbrev pub IsCalm : Journal D g → Content → Type 0
  IsCalm j start = CalmSince g.tells j.failed (size_of j) start (content_of j)

  -- what every call leaves but `commit` and `seal`
  pub record Keeps (old new : Journal D g) : Type 0 where
    pub kept : kept_of new ≡ kept_of old
    pub head : kept_head new ≡ kept_head old
    pub size : size_of new ≡ size_of old
    pub frames : frames_of new ≡ frames_of old
    pub blocks : g.size (device_of new) ≡ g.size (device_of old)
    pub steady : new.failed ≡ old.failed
    pub calm : (start : Content) → IsCalm old start → IsCalm new start
