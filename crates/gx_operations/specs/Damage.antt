-- The block in which damage is told.
use Rattle.std.specs.Prelude.{◌≡◌, ◌⊎◌, ℕ, ◌<◌}
use Rattle.gx_play.specs.declared.ending.DeviceWhy.TheVariants as device_why
use Rattle.gx_play.specs.declared.ending.Ending.{Ending}
use Rattle.gx_play.specs.declared.ending.Ending.TheVariants as ending

-- it is one of so many, where there are any
abbrev pub IsDamageBelow : ℕ → Ending → Type 0
IsDamageBelow blocks (ending.Device (device_why.Damaged block)) = 0 < blocks → block < blocks
IsDamageBelow blocks why = Unit {0}

-- the same ending, or damage in another block
abbrev pub IsDamageOf : Ending → Ending → Type 0
IsDamageOf why now =
    (now ≡ why)
    ⊎ ((block other : ℕ) × (why ≡ ending.Device (device_why.Damaged block))
    × (now ≡ ending.Device (device_why.Damaged other)))
