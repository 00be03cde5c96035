-- Why no device with an empty database is made, and how the request ends then.
use Rattle.std.specs.Prelude.{ℕ, List, Result, Ok, Err, IsSome}
use Rattle.gx_device.specs.Content.{Content, device_at}
use Rattle.gx_ports.specs.declared.kinds.LeafSpec.{LeafSpec}
use Rattle.gx_layout.specs.Layout.{pages_of}
use Rattle.gx_store.specs.Device.{IsSize}
use Rattle.gx_store.specs.declared.unopened.Unopened.{Unopened}
use Rattle.gx_play.specs.declared.ending.DeviceWhy.{DeviceWhy}
use Rattle.gx_play.specs.declared.ending.DeviceWhy.TheVariants as device_why
use Rattle.gx_play.specs.declared.ending.Ending.{Ending}
use Rattle.gx_play.specs.declared.ending.Ending.TheVariants as ending
use Rattle.gx_play.specs.Endings.{unopened_ending}

-- why no device of that name is made, with so many blocks
abbrev pub IsUnmakable : List LeafSpec → List ℕ → ℕ → Content → DeviceWhy → Type 0
IsUnmakable specs device blocks before device_why.Exists =
    IsSize specs blocks × IsSome (device_at before.now device)
IsUnmakable specs device blocks before device_why.Size = ¬ IsSize specs blocks
IsUnmakable specs device blocks before why = ⊥

-- how the request ends where making its device ended so
abbrev pub making_ending : ℕ → Result (Unit {0}) Unopened → Ending
making_ending blocks (Ok x) = ending.Made blocks (pages_of blocks)
making_ending blocks (Err why) = unopened_ending why
