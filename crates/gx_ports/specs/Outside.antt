-- How a call of what stands over a device hears, says, and counts faults.
use Rattle.std.specs.Prelude.{◌≡◌, ℕ, ◌≤◌, ◌<◌, List, length, Bool, Result, Ok, IsTrue, IfOk, OnOk, OnErr}
use Rattle.gx_device.specs.declared.device.Failed.{Failed}
use Rattle.gx_device.specs.Content.{Content, Hears, Listens, Says, Speaks}
use Rattle.gx_device.specs.Faults.{Rose}

-- The count of faults never falls. It rose where the call failed, and else it stays.
pub record IsCounted {T : Type 0} (before now : ℕ) (result : Result T Failed) : Type 0 where
  pub later : before ≤ now
  pub failed : OnErr result (Rose before now)
  pub counted : OnOk result (now ≡ before)

-- `hear`, of the bytes that then stand in the slice
pub record IsHearing (tells : Bool) (old new : Content) (before now : ℕ) (into : List ℕ)
    (result : Result ℕ Failed) : Type 0 where
  pub bound : IfOk result (λ n. n ≤ length into)
  pub heard : IsTrue tells → IfOk result (λ n. Hears n into old new)
  pub not_heard : OnErr result (new.script ≡ old.script)
  pub rest : Listens old new
  pub later : before ≤ now
  pub failed : OnErr result (Rose before now)
  pub counted : OnOk result (now ≡ before)

-- `say`, of a piece; to take no byte of a piece that has some is a fault
pub record IsSaying (tells : Bool) (old new : Content) (before now : ℕ) (from : List ℕ)
    (result : Result ℕ Failed) : Type 0 where
  pub bound : IfOk result (λ n. n ≤ length from)
  pub said : IsTrue tells → IfOk result (λ n. Says n from old new)
  pub not_said : OnErr result (new.now.said ≡ old.now.said)
  pub rest : Speaks old new
  pub later : before ≤ now
  pub failed : OnErr result (Rose before now)
  pub counted : IfOk result (λ n. 0 < n → now ≡ before)
  pub none_taken : result ≡ Ok 0 → 0 < length from → Rose before now
