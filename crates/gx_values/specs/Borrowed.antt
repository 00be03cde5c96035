-- Values whose bytes another owns.
use Rattle.gx_values.specs.declared.values.Value.{Value}
use Rattle.gx_values.specs.declared.values.Value.TheVariants as value
use Rattle.gx_values.specs.declared.borrowed.ValueRef.{ValueRef}
use Rattle.gx_values.specs.declared.borrowed.ValueRef.TheVariants.{Int, Text, Bytes}

-- the value that stands there
abbrev pub value_of : ValueRef → Value
value_of (Int n) = value.Int n
value_of (Text text) = value.Text text.now
value_of (Bytes bytes) = value.Bytes bytes.now
