-- What a call that fetches texts leaves of a machine, and what it gives of them.
use Rattle.std.specs.Prelude.{◌≡◌, ℕ, List, Result, IfOk, IfErr}
use Rattle.gx_device.specs.Content.{Content, SameContent, Texts}
use Rattle.gx_device.specs.Crash.{Through}
use Rattle.gx_play.specs.declared.ending.Ending.{Ending}
use Rattle.gx_play.specs.Endings.{CountsFault}
use Rattle.gx_requests.specs.Requests.{IsUnprepared}
use Rattle.gx_requests.specs.Words.{Action}

-- Of a machine whose content and whose count of failed calls are given by `content` and `faults`:
-- its content is as it was, at each moment and then, and its failures are counted.
pub record Fetches {S T : Type 0} (content : S → Content) (faults : S → ℕ) (old new : S)
    (result : Result T Ending) : Type 0 where
  pub same : SameContent (content old) (content new)
  pub time : Through (λ m. m ≡ (content old).now) (content old) (content new)
  pub failures : CountsFault (faults old) (faults new) result

-- For all words that ask for the texts as `Asks` says: what is answered is to these words and texts
-- what `Given` says; or else the first reason why their request is refused, a failed call of the
-- machine, or want of memory.
pub record Prepares {T : Type 0} (Asks : List (List ℕ) → Action → Type 0)
    (Given : List (List ℕ) → Texts → Action → T → Type 0) (texts : Texts) (before now : ℕ)
    (result : Result T Ending) : Type 0 where
  pub ready : (words : List (List ℕ)) (a : Action) → Asks words a
      → IfOk result (Given words texts a)
  pub unprepared : (words : List (List ℕ)) (a : Action) → Asks words a
      → IfErr result (IsUnprepared words texts before now)
