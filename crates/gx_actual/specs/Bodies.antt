-- The bodies of records: the values other than the key, one after the other.
use Rattle.std.specs.Prelude.{ℕ, ◌+◌, ◌≤◌, List, [], ◌∷◌, ◌++◌, length}
use Rattle.std.specs.List.{flat_map}
use Rattle.std.specs.Coded.{×_prop, Unit-prop, le_prop}
use Rattle.std.specs.Int.{w16, w64, to_be_bytes, cast_unsigned}
use Rattle.gx_values.specs.declared.values.Kind.{Kind}
use Rattle.gx_values.specs.declared.values.Kind.TheVariants as kind
use Rattle.gx_values.specs.declared.values.Value.{Value}
use Rattle.gx_values.specs.declared.values.Value.TheVariants as value
use Rattle.gx_values.specs.declared.records.Field.{Field}

-- an int as 8 bytes two's complement, a text as one length byte and its bytes, bytes as a u16
-- length and the bytes
abbrev pub field_bytes : Value → List ℕ
field_bytes (value.Int n) = to_be_bytes w64 (cast_unsigned w64 n)
field_bytes (value.Text text) = length text ∷ text
field_bytes (value.Bytes bytes) = to_be_bytes w16 (length bytes) ++ bytes

abbrev pub body_of : List Value → List ℕ
body_of = flat_map field_bytes

-- how many bytes the values of a kind take in a body at most
abbrev pub field_width : Kind → ℕ
field_width kind.Int = 8
field_width (kind.Text most) = most + 1
field_width (kind.Bytes most) = most + 2

abbrev pub field_widths : List Field → ℕ
field_widths [] = 0
field_widths (field ∷ fields) = field_width field.kind + field_widths fields

-- the lengths of the kind's values can be written
abbrev pub IsShort : Kind → Type 0
IsShort kind.Int = Unit {0}
IsShort (kind.Text most) = most ≤ 255
IsShort (kind.Bytes most) = most ≤ 65535

abbrev pub AreShort : List Field → Type 0
AreShort [] = Unit {0}
AreShort (field ∷ fields) = IsShort field.kind × AreShort fields

-- the length of each text fits one byte
abbrev pub IsShortText : Kind → Type 0
IsShortText kind.Int = Unit {0}
IsShortText (kind.Text most) = most ≤ 255
IsShortText (kind.Bytes most) = Unit {0}

abbrev pub AreShortTexts : List Field → Type 0
AreShortTexts [] = Unit {0}
AreShortTexts (field ∷ fields) = IsShortText field.kind × AreShortTexts fields

IsShort-prop : (k : Kind) → IsProp (IsShort k)
IsShort-prop kind.Int = Unit-prop
IsShort-prop (kind.Text most) = le_prop
IsShort-prop (kind.Bytes most) = le_prop

pub AreShort-prop : (fields : List Field) → IsProp (AreShort fields)
AreShort-prop [] = Unit-prop
AreShort-prop (field ∷ fields) = ×_prop (IsShort-prop field.kind) (AreShort-prop fields)

-- the length of a value can be written
abbrev pub HasLength : Value → Type 0
HasLength (value.Int n) = Unit {0}
HasLength (value.Text text) = length text ≤ 255
HasLength (value.Bytes bytes) = length bytes ≤ 65535
