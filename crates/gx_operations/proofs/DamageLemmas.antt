-- The block in which damage is told.
use Rattle.std.proofs.Common.{ℕ, inl, inr, sym, subst}
use Rattle.gx_play.specs.declared.ending.DeviceWhy.TheVariants as device_why
use Rattle.gx_play.specs.declared.ending.Ending.{Ending}
use Rattle.gx_play.specs.declared.ending.Ending.TheVariants as ending
use Rattle.gx_operations.specs.Damage.{IsDamageOf}

-- what holds of damage in each block is kept
pub damage_kept : (P : Ending → Type 0)
    → ((block other : ℕ) → P (ending.Device (device_why.Damaged block))
    → P (ending.Device (device_why.Damaged other)))
    → (why now : Ending) → IsDamageOf why now → P why → P now
damage_kept P each why now (inl same) is = subst P (sym same) is
damage_kept P each why now (inr (block, other, was, now_is)) is =
    subst P (sym now_is) (each block other (subst P was is))
