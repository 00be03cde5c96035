-- Where the records of the layer go: each whole to one child.
use Rattle.std.specs.Prelude.{ℕ, zero, suc, ◌+◌, Bool, true, false, ◌||◌, List, [], ◌∷◌, length, nat_eq, Option, Some, None, if◌then◌else◌}
use Rattle.gx_values.specs.declared.values.Value.{Value}
use Rattle.gx_values.specs.declared.records.Form.{Form}
use Rattle.gx_values.specs.declared.records.Rec.{Rec}
use Rattle.gx_values.specs.declared.keys.Span.{Span}
use Rattle.gx_mapping.specs.declared.parts.Part.{Part}
use Rattle.gx_mapping.specs.Rule.{Rule, is_field}
use Rattle.gx_partition.specs.declared.place.Where.{Where}
use Rattle.gx_partition.specs.declared.place.Where.TheVariants.{Key, Rest}
use Rattle.gx_partition.specs.declared.layer.Partition.{Partition}
use Rattle.gx_partition.specs.Places.{value_at}
use Rattle.gx_partition.specs.Bounds.{child_of, lower_of, upper_of, ends_before, begins_after}

-- what contracts see of the layer: the form of the records, the place of the field, and the bounds
abbrev pub form_of : Partition → Form
form_of m = m.form

abbrev pub at_of : Partition → Where
at_of m = m.at

abbrev pub bounds_of : Partition → List Value
bounds_of m = m.bounds

-- the record to the child of its value
abbrev pub partition_part : Where → List Value → Rec → Part
partition_part at bounds r = record { child = child_of bounds (value_at at r); rec = r }

-- the record of a part, where its value belongs to the part's child
abbrev pub whole_of : Where → List Value → Part → Option Rec
whole_of at bounds p =
    if nat_eq (child_of bounds (value_at at p.rec)) p.child then Some p.rec else None

-- where the field is the first of the key, a child all of whose keys stand before the span or
-- behind it
abbrev pub is_outside : Where → List Value → ℕ → Span → Bool
is_outside (Key zero) bounds child span =
    ends_before (upper_of bounds child) span.lo || begins_after (lower_of bounds child) span.hi
is_outside (Key (suc i)) bounds child span = false
is_outside (Rest i) bounds child span = false

abbrev pub partition_rule : Form → Where → List Value → Rule
partition_rule form at bounds = record {
  kids = length bounds + 1;
  form = form;
  kid_form = λ child. form;
  holds_rest = λ child. true;
  parts = λ r. partition_part at bounds r ∷ [];
  skips = λ child span. is_outside at bounds child span;
  indexes = λ name. None;
  carries = λ child name. is_field form.fields name;
}

abbrev pub rule_of : Partition → Rule
rule_of m = partition_rule (form_of m) (at_of m) (bounds_of m)
