-- The code of a value, and which fields may have one.
use Rattle.std.specs.Prelude.{ℕ, ◌≤◌, List, [], length}
use Rattle.std.specs.Coded.{Unit-prop, le_prop}
use Rattle.gx_values.specs.declared.values.Code.{Code}
use Rattle.gx_values.specs.declared.values.Code.TheVariants as code
use Rattle.gx_values.specs.declared.values.Kind.{Kind}
use Rattle.gx_values.specs.declared.values.Kind.TheVariants as kind
use Rattle.gx_values.specs.declared.values.Value.{Value}
use Rattle.gx_values.specs.declared.values.Value.TheVariants as value
use Rattle.gx_encode.specs.Packs.{pack}
use Rattle.gx_encode.specs.Runs.{rle}

-- an int as its shortest bytes, a text as its runs; other values have no code
abbrev pub code_of : Code → Value → List ℕ
code_of code.Pack (value.Int n) = pack n
code_of code.Pack (value.Text text) = []
code_of code.Pack (value.Bytes bytes) = []
code_of code.Rle (value.Int n) = []
code_of code.Rle (value.Text text) = rle text
code_of code.Rle (value.Bytes bytes) = []

-- the value has a code
abbrev pub IsCodable : Code → Value → Type 0
IsCodable code.Pack (value.Int n) = Unit {0}
IsCodable code.Pack (value.Text text) = ⊥
IsCodable code.Pack (value.Bytes bytes) = ⊥
IsCodable code.Rle (value.Int n) = ⊥
IsCodable code.Rle (value.Text text) = length text ≤ 200
IsCodable code.Rle (value.Bytes bytes) = ⊥

-- the values of the kind have codes
abbrev pub IsCodeKind : Code → Kind → Type 0
IsCodeKind code.Pack kind.Int = Unit {0}
IsCodeKind code.Pack (kind.Text most) = ⊥
IsCodeKind code.Pack (kind.Bytes most) = ⊥
IsCodeKind code.Rle kind.Int = ⊥
IsCodeKind code.Rle (kind.Text most) = most ≤ 200
IsCodeKind code.Rle (kind.Bytes most) = ⊥

pub IsCodeKind-prop : (c : Code) (k : Kind) → IsProp (IsCodeKind c k)
IsCodeKind-prop code.Pack kind.Int = Unit-prop
IsCodeKind-prop code.Pack (kind.Text most) = Prim.hlevel
IsCodeKind-prop code.Pack (kind.Bytes most) = Prim.hlevel
IsCodeKind-prop code.Rle kind.Int = Prim.hlevel
IsCodeKind-prop code.Rle (kind.Text most) = le_prop
IsCodeKind-prop code.Rle (kind.Bytes most) = Prim.hlevel
