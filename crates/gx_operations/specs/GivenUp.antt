-- A request that is given up before anything was done.
use Rattle.std.specs.Prelude.{◌≡◌, ◌⊎◌, ℕ, ◌++◌, take}
use Rattle.gx_device.specs.Content.{Content}
use Rattle.gx_device.specs.Crash.{Through}
use Rattle.gx_play.specs.declared.status.Status.{Status}
use Rattle.gx_play.specs.declared.status.Status.TheVariants as status
use Rattle.gx_play.specs.Endings.{memory_line}
use Rattle.gx_operations.specs.Crashes.{IsIdle}
use Rattle.gx_operations.specs.Promises.{IsApart}

-- the line that there was no memory was said, or a call failed and a front of it was
abbrev pub GaveUp : Content → Content → Status → Type 0
GaveUp old new s =
    ((s ≡ status.Memory) × (new.now.said ≡ old.now.said ++ memory_line))
    ⊎ ((s ≡ status.Outside) × (count : ℕ) × (new.now.said ≡ old.now.said ++ take count memory_line))

-- the same, and nothing else happened
pub record GivesUp (old new : Content) (s : Status) : Type 0 where
  pub how : GaveUp old new s
  pub apart : IsApart old new
  pub through : Through (IsIdle old.now) old new
