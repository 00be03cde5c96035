-- The bounds of a partition, and the ranges of its children.
use mathlib.Core.Bool.{Bool-set}
use Rattle.std.specs.Prelude.{ℕ, zero, suc, ◌<◌, ◌≤◌, Bool, false, List, length, take, slice_get, Option, Some, None}
use Rattle.std.specs.List.{filter, AllByRecursion, AllByRecursion-prop}
use Rattle.std.specs.List.Sorted.{IsStrictlySortedBy, IsStrictlySortedBy-prop}
use Rattle.std.specs.Coded.{Unit-prop, le_prop}
use Rattle.std.specs.Ordering.{nat_cmp, is_le, is_gt}
use Rattle.std.specs.Cmp.Lexicographic.{slice_cmp}
use Rattle.gx_values.specs.declared.values.Kind.{Kind}
use Rattle.gx_values.specs.declared.values.Kind.TheVariants as kind
use Rattle.gx_values.specs.declared.values.Value.{Value}
use Rattle.gx_values.specs.declared.values.Value.TheVariants as value
use Rattle.gx_values.specs.declared.records.Form.{Form}
use Rattle.gx_values.specs.Values.{value_cmp, Fits}
use Rattle.gx_values.specs.Keys.{bytes_of, width_of, IsKeyKind}
use Rattle.gx_values.specs.declared.bytes.TheConstants.{MAX_KEY_LEN}
use Rattle.gx_partition.specs.declared.place.Where.{Where}
use Rattle.gx_partition.specs.declared.place.Where.TheVariants.{Key, Rest}
use Rattle.gx_partition.specs.Places.{IsPlace, kind_at}

-- the field is one of the form, an int or a text that may stand in a key; the bounds are values of
-- it, and ascend
pub record IsPartition (form : Form) (at : Where) (bounds : List Value) : Type 0 where
  pub place : IsPlace at form
  pub kind : IsKeyKind (kind_at at form)
  pub narrow : width_of (kind_at at form) ≤ MAX_KEY_LEN
  pub fit : AllByRecursion (Fits (kind_at at form)) bounds
  pub ascending : IsStrictlySortedBy value_cmp bounds
  pub few : length bounds < 65535

-- the child of a value: how many bounds are at or below it
abbrev pub child_of : List Value → Value → ℕ
child_of bounds v = length (filter (λ bound. is_le (value_cmp bound v)) bounds)

-- the bound that the values of a child are at least, and the one that they are below
abbrev pub lower_of : List Value → ℕ → Option Value
lower_of bounds zero = None
lower_of bounds (suc i) = slice_get bounds i

abbrev pub upper_of : List Value → ℕ → Option Value
upper_of bounds child = slice_get bounds child

-- keys that begin with a value below the bound all stand before `lo`
abbrev pub ends_before : Option Value → List ℕ → Bool
ends_before None lo = false
ends_before (Some bound) lo = is_le (slice_cmp nat_cmp (bytes_of bound) lo)

-- keys that begin with a value from the bound on all stand behind those that begin with `hi`
abbrev pub begins_after : Option Value → List ℕ → Bool
begins_after None hi = false
begins_after (Some bound) hi = is_gt (slice_cmp nat_cmp (take (length hi) (bytes_of bound)) hi)

-- ---- each of the conditions has one proof at most

IsPlace-prop : (at : Where) (form : Form) → IsProp (IsPlace at form)
IsPlace-prop (Key i) form = le_prop
IsPlace-prop (Rest i) form = le_prop

IsKeyKind-prop : (k : Kind) → IsProp (IsKeyKind k)
IsKeyKind-prop kind.Int = Unit-prop
IsKeyKind-prop (kind.Text most) = Unit-prop
IsKeyKind-prop (kind.Bytes most) = Prim.hlevel

Fits-prop : (k : Kind) (v : Value) → IsProp (Fits k v)
Fits-prop kind.Int (value.Int n) = Prim.hlevel le_prop
Fits-prop (kind.Text most) (value.Text t) = Prim.hlevel (le_prop, Bool-set)
Fits-prop (kind.Bytes most) (value.Bytes t) = le_prop
Fits-prop kind.Int (value.Text t) = Prim.hlevel
Fits-prop kind.Int (value.Bytes t) = Prim.hlevel
Fits-prop (kind.Text most) (value.Int n) = Prim.hlevel
Fits-prop (kind.Text most) (value.Bytes t) = Prim.hlevel
Fits-prop (kind.Bytes most) (value.Int n) = Prim.hlevel
Fits-prop (kind.Bytes most) (value.Text t) = Prim.hlevel

pub IsPartition-prop : (form : Form) (at : Where) (bounds : List Value)
    → IsProp (IsPartition form at bounds)
IsPartition-prop form at bounds a b = λ i. record {
  place = IsPlace-prop at form a.place b.place i;
  kind = IsKeyKind-prop (kind_at at form) a.kind b.kind i;
  narrow = le_prop a.narrow b.narrow i;
  fit = AllByRecursion-prop (Fits (kind_at at form))
      (Fits-prop (kind_at at form)) bounds a.fit b.fit i;
  ascending = IsStrictlySortedBy-prop value_cmp bounds a.ascending b.ascending i;
  few = le_prop a.few b.few i;
}
