-- What is left of a machine before a request is carried out.
use Rattle.std.specs.Prelude.{◌≡◌, ℕ, Bool, IsTrue, Result, OnOk, OnErr}
use Rattle.gx_device.specs.Content.{Content, NonePending}
use Rattle.gx_play.specs.declared.ending.Ending.{Ending}
use Rattle.gx_play.specs.Endings.{CountsFault}
use Rattle.gx_operations.specs.Crashes.{IsLater}

-- Of a machine whose content and whose count of failed calls are given by `content` and `faults`:
-- nothing was said, heard or changed. Where it goes on, nothing is pending; else as much as before.
pub record Readies {S T : Type 0} (content : S → Content) (faults : S → ℕ) (tells : Bool)
    (old new : S) (result : Result T Ending) : Type 0 where
  pub later : IsLater (content old) (content new)
  pub ready : IsTrue tells → OnOk result (NonePending (content new))
  pub refused : OnErr result ((content new).now.pending ≡ (content old).now.pending)
  pub failures : CountsFault (faults old) (faults new) result
