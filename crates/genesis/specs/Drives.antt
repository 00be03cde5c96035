-- The device that the real machine has attached.
use Rattle.std.specs.Prelude.{ℕ, Option, Some, None}
use Rattle.genesis.specs.declared.drives.Named.{Named}

-- how many blocks there are: none before a device is attached
abbrev pub size_of : Option Named → ℕ
size_of None = 0
size_of (Some named) = named.drive.blocks
