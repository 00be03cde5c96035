-- What is said of a piece that is offered until it is taken whole.
use Rattle.std.specs.Prelude.{◌≡◌, ◌⊎◌, ℕ, List, ◌++◌, take, Bool, IsTrue, Result, OnOk}
use Rattle.gx_device.specs.declared.device.Failed.{Failed}
use Rattle.gx_device.specs.Content.{Moment, Content}
use Rattle.gx_device.specs.Crash.{Through}
use Rattle.gx_device.specs.Faults.{HasCause}

-- nothing changed but what was said and the blocks
pub record OnlySays (old new : Content) : Type 0 where
  pub shelf : new.now.shelf ≡ old.now.shelf
  pub script : new.script ≡ old.script
  pub aside : new.aside ≡ old.aside

-- the blocks, which of them a crash may spoil, and the other devices are as they were
pub record SameDevices (old new : Content) : Type 0 where
  pub blocks : new.now.blocks ≡ old.now.blocks
  pub pending : new.now.pending ≡ old.now.pending
  pub shelf : new.now.shelf ≡ old.now.shelf

-- all of the piece, or after a failure a front of it
pub record SaysAll {T : Type 0} (tells : Bool) (old new : Content) (before now : ℕ) (piece : List ℕ)
    (result : Result T Failed) : Type 0 where
  pub all : IsTrue tells → OnOk result (new.now.said ≡ old.now.said ++ piece)
  pub front : IsTrue tells → (count : ℕ) × (new.now.said ≡ old.now.said ++ take count piece)
  pub rest : OnlySays old new
  pub cause : HasCause before now result
  pub counted : OnOk result (now ≡ before)

-- a front of one of the two texts was said
abbrev pub IsCut : List ℕ → List ℕ → Content → Content → Type 0
IsCut one other old new =
    (count : ℕ) × ((new.now.said ≡ old.now.said ++ take count one)
    ⊎ (new.now.said ≡ old.now.said ++ take count other))

-- ---- each moment while something is said

-- a front of the text was said, and all else is as it was
pub record IsSaying (text : List ℕ) (old m : Moment) : Type 0 where
  pub said : (count : ℕ) × (m.said ≡ old.said ++ take count text)
  pub blocks : m.blocks ≡ old.blocks
  pub pending : m.pending ≡ old.pending
  pub shelf : m.shelf ≡ old.shelf

-- so is each moment from old to new
abbrev pub SaysThrough : List ℕ → Content → Content → Type 0
SaysThrough text old new = Through (IsSaying text old.now) old new
