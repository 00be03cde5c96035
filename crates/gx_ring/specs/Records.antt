-- What the functions on the records of rings need and find.
use Rattle.std.specs.Prelude.{◌≡◌, ◌≤◌, length, Option, Some, None}
use Rattle.gx_values.specs.declared.values.Kind.{Kind}
use Rattle.gx_values.specs.declared.values.Value.{Value}
use Rattle.gx_values.specs.declared.records.Rec.{Rec}
use Rattle.gx_values.specs.Values.{Fits}
use Rattle.gx_values.specs.Keys.{bytes_of}
use Rattle.gx_values.specs.declared.bytes.TheConstants.{MAX_KEY_LEN}
use Rattle.gx_stack.specs.Internal.{IfThere}
use Rattle.gx_ring.specs.declared.records.Behind.{Behind}
use Rattle.gx_ring.specs.declared.records.Behind.TheVariants as found
use Rattle.gx_ring.specs.Ring.{chain_rec}

-- a value whose bytes a key has room for
abbrev pub IsKeyValue : Value → Type 0
IsKeyValue v = length (bytes_of v) ≤ MAX_KEY_LEN

-- what a record of a chain has behind its member
abbrev pub behind_of : Option Value → Behind
behind_of None = found.Nothing
behind_of (Some next) = found.Member next

abbrev pub FitsBehind : Kind → Behind → Type 0
FitsBehind kind found.Nothing = Unit {0}
FitsBehind kind (found.Member next) = Fits kind next
FitsBehind kind found.Unknown = Unit {0}

-- a member of the kind is behind, or none; of a record of a chain it is the one that the record has
pub record IsBehind (kind : Kind) (r : Rec) (behind : Behind) : Type 0 where
  pub fits : FitsBehind kind behind
  pub told : (owner member : Value) (next : Option Value) → IfThere next (Fits kind)
      → r ≡ chain_rec owner member next → behind ≡ behind_of next
