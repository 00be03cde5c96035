-- The span of what meets all conditions on a field.
use Rattle.std.specs.Prelude.{◌≡◌, ℕ, ◌&&◌, Bool, true, false, List, ◌++◌, length, take, filter, nat_eq}
use Rattle.std.specs.List.{list_all}
use Rattle.std.specs.Ordering.{nat_cmp, is_le}
use Rattle.std.specs.Cmp.Lexicographic.{slice_cmp}
use Rattle.gx_values.specs.declared.values.Kind.{Kind}
use Rattle.gx_values.specs.declared.values.Op.{Op}
use Rattle.gx_values.specs.declared.values.Op.TheVariants as op
use Rattle.gx_values.specs.declared.values.Value.{Value}
use Rattle.gx_values.specs.declared.keys.Span.{Span}
use Rattle.gx_values.specs.Values.{Fits, value_cmp, is_met}
use Rattle.gx_values.specs.Keys.{bytes_of, is_inside}
use Rattle.gx_commands.specs.declared.command.Cond.{Cond}

-- the values that meet a condition by `<>` make no span
abbrev pub has_span : Op → Bool
has_span op.Unequal = false
has_span _ = true

-- whether a span of the field's values stands for the condition
abbrev pub is_on : ℕ → Cond → Bool
is_on field c = nat_eq c.field field && has_span c.op

-- whether the field's value meets each of those conditions
abbrev pub meets_on : ℕ → List Cond → Value → Bool
meets_on field conds v =
    list_all (λ c. is_met c.op (value_cmp v c.bound)) (filter (is_on field) conds)

-- a key that begins with a value of the kind is inside exactly where the value meets them
abbrev pub HoldsAllMet : Kind → ℕ → List Cond → Span → Type 0
HoldsAllMet kind field conds span = (v : Value) (rest : List ℕ) → Fits kind v
    → is_inside span.lo span.hi (bytes_of v ++ rest) ≡ meets_on field conds v

-- ---- the two ends

-- whether the lower end lets the key through
abbrev pub is_from : List ℕ → List ℕ → Bool
is_from lo key = is_le (slice_cmp nat_cmp lo key)

-- whether the upper end does
abbrev pub is_up_to : List ℕ → List ℕ → Bool
is_up_to hi key = is_le (slice_cmp nat_cmp (take (length hi) key) hi)
