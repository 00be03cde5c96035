-- How a call counts failures, by the calls within it.
use Rattle.std.proofs.Common.{◌≡◌, ℕ, Result, Ok, Err, sym, subst}
use Rattle.std.specs.Prelude.{OnOk, IsErr}
use Rattle.std.proofs.lemmas.Bool.{true≢false}
use Rattle.gx_device.specs.Faults.{HasCause, IsCounted}

pub counted : {T E : Type 0} {before now : ℕ} {result : Result T E} → HasCause before now result
    → OnOk result (now ≡ before) → IsCounted before now result
counted cause same = record { later = cause.later; failed = cause.failed; same = same }

-- a call that fails where one within it did
pub failed_counted : {T U E : Type 0} {before now : ℕ} {e : E} (result : Result U E)
    → IsErr result → IsCounted {T = T} before now (Err e) → IsCounted before now result
failed_counted (Ok x) is count = absurd (true≢false (sym is))
failed_counted (Err e) is count =
    record { later = count.later; failed = count.failed; same = tt }

-- one that went on came before
pub counted_after : {T E : Type 0} {before mid now : ℕ} {result : Result T E} → mid ≡ before
    → IsCounted mid now result → IsCounted before now result
counted_after {now = now} {result = result} same count =
    subst (λ (n : ℕ). IsCounted n now result) same count
