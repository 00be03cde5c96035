-- Bytes of texts.
use Rattle.std.specs.Prelude.{ℕ, Bool, ◌&&◌, nat_le}

-- a byte that a text may have: from 0x20 to 0x7E
abbrev pub is_printable : ℕ → Bool
is_printable b = nat_le 32 b && nat_le b 126
