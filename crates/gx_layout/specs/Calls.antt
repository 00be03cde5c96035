-- What a call on a device changes at most.
use Rattle.std.specs.Prelude.{◌≡◌, ℕ, Bool, false, Result, IsTrue, IfOk, OnOk, OnErr}
use Rattle.gx_device.specs.declared.device.Device as device
use Rattle.gx_device.specs.declared.device.Failed.{Failed}
use Rattle.gx_device.specs.Content.{Silent, NonePending, block_of}
use Rattle.gx_device.specs.Crash.{Through, Outside}
use Rattle.gx_device.specs.Faults.{IsCounted}
use Rattle.gx_layout.specs.Layout.{OnlyBlocks}
use Rattle.gx_layout.specs.Head.{HasMagic}
use Rattle.gx_layout.specs.Besides.{Flushes}
use Rattle.gx_layout.specs.Recovered.{IsUnwritten, IsOfRecovery}

module _ {D : Type 0} (g : device.Ghosts D) where
  -- no block changes but these, nothing is heard or said, and a failure is counted
  pub record TouchesOnly {T : Type 0} (free : ℕ → Type 0) (old new : D)
      (result : Result T Failed) : Type 0 where
    pub rest : OnlyBlocks free (g.content old) (g.content new)
    pub size : g.size new ≡ g.size old
    pub faults : IsCounted (g.faults old) (g.faults new) result

  -- the same at each moment within the call, and no other block becomes pending
  pub record WritesOnly {T : Type 0} (free : ℕ → Type 0) (old new : D)
      (result : Result T Failed) : Type 0 where
    pub run : Through (Outside free (g.content old).now) (g.content old) (g.content new)
    pub touches : TouchesOnly free old new result

  -- these blocks are written, and then there is a sync: after an Ok no block is pending
  pub record FlushesOnly {T : Type 0} (free : ℕ → Type 0) (old new : D)
      (result : Result T Failed) : Type 0 where
    pub run : Flushes free (g.content old) (g.content new)
    pub none_pending : IsTrue g.tells → OnOk result (NonePending (g.content new))
    pub touches : TouchesOnly free old new result

  -- Without the magic no block is written, whatever is answered: the blocks read as before, and a
  -- crash meanwhile leaves no more than one right before. With it none is but those that recovery
  -- may write. Nothing is heard or said, and a failure is counted.
  pub record RecoversOnly (pages : ℕ) (old new : D) (result : Result Bool Failed) : Type 0 where
    pub unwritten : IfOk result (λ found. found ≡ false →
        IsUnwritten (g.content old) (g.content new))
    pub failed : IsTrue g.tells → OnErr result
        (¬ HasMagic (g.size old) (block_of (g.content old).now 0) →
        IsUnwritten (g.content old) (g.content new))
    pub touched : IsTrue g.tells →
        OnlyBlocks (IsOfRecovery pages (g.content old).now.blocks) (g.content old) (g.content new)
    pub silent : Silent (g.content old) (g.content new)
    pub size : g.size new ≡ g.size old
    pub faults : IsCounted (g.faults old) (g.faults new) result
