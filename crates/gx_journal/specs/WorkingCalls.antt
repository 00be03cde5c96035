-- What calls on the working pages need of the device, and what they keep.
use Rattle.std.specs.Prelude.{◌≡◌, Result, IsTrue}
use Rattle.gx_device.specs.declared.device.Device as device
use Rattle.gx_device.specs.declared.device.Failed.{Failed}
use Rattle.gx_device.specs.Faults.{IsCounted}
use Rattle.gx_journal.specs.declared.working.WorkingPages.{WorkingPages}
use Rattle.gx_journal.specs.DeviceCalls.{HasPlaces, TouchesOnly}
use Rattle.gx_journal.specs.Sources.{SamePages, OnlySlots, IsBody}
use Rattle.gx_journal.specs.Working.{size_in, page_in, IsCachedIn}

module _ {D : Type 0} (g : device.Ghosts D) where
  -- the device has a slot and a home for each page, and holds the bytes of each page that stands in
  -- a frame and hasn't changed
  pub record IsBacked (d : D) (w : WorkingPages) : Type 0 where
    pub places : HasPlaces g d (size_in w)
    pub cached : IsTrue g.tells → IsCachedIn (g.size d) (size_in w) (g.content d) w

  -- what a call on the working pages keeps, whatever it answers: no block but slots changes
  pub record WritesSlots {T : Type 0} (old_device new_device : D) (old new : WorkingPages)
      (result : Result T Failed) : Type 0 where
    pub size : size_in new ≡ size_in old
    pub blocks : g.size new_device ≡ g.size old_device
    pub backed : IsBacked new_device new
    pub frames : new.frames.frames ≡ old.frames.frames
    pub slots : OnlySlots (g.size old_device) (size_in old) (g.content old_device)
        (g.content new_device)
    pub faults : IsCounted (g.faults old_device) (g.faults new_device) result

  -- the same of a call that leaves each page what it was
  pub record KeepsWorking {T : Type 0} (old_device new_device : D) (old new : WorkingPages)
      (result : Result T Failed) : Type 0 where
    pub same : IsTrue g.tells
        → SamePages (page_in (g.size old_device) (size_in old) (g.content old_device) old)
        (page_in (g.size old_device) (size_in old) (g.content new_device) new)
    pub writes : WritesSlots old_device new_device old new result

  -- what a commit keeps, whatever it answers: no block of the head changes
  pub record KeepsHead {T : Type 0} (old_device new_device : D) (old new : WorkingPages)
      (result : Result T Failed) : Type 0 where
    pub size : size_in new ≡ size_in old
    pub frames : new.frames.frames ≡ old.frames.frames
    pub backed : IsBacked new_device new
    pub touches : TouchesOnly g (IsBody (g.size old_device)) old_device new_device result
