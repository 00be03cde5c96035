-- The records of a file that are found by an indexed field.
use Rattle.std.specs.Prelude.{◌≡◌, ◌++◌, ◌&&◌, ℕ, ◌<◌, Bool, List, length, filter, map, pos, get_or, true}
use Rattle.std.specs.List.Sorted.{IsPermutation}
use Rattle.std.specs.FinMap as fin
use Rattle.gx_values.specs.declared.values.Value.{Value}
use Rattle.gx_values.specs.declared.values.Value.TheVariants as value
use Rattle.gx_values.specs.declared.keys.Span.{Span}
use Rattle.gx_values.specs.Keys.{bytes_of, is_inside}
use Rattle.gx_values.specs.Values.{no_field}
use Rattle.gx_schema.specs.declared.schema.FileDef.{FileDef}
use Rattle.gx_schema.specs.Lookups.{data_fields}
use Rattle.gx_commands.specs.declared.command.Cond.{Cond}
use Rattle.gx_mapping.specs.Rule.{is_field, first_in}
use Rattle.gx_model.specs.States.{File, Row}
use Rattle.gx_model.specs.Found.{value_at, meets_conds}
use Rattle.gx_scan.specs.Records.{record_at, list_of_one}
use Rattle.gx_scan.specs.Within.{row_of}

-- each data field is the first one of its name
abbrev pub AreNamed : FileDef → Type 0
AreNamed file = (i : ℕ) → i < length (data_fields file) →
    (is_field (data_fields file) (get_or (data_fields file) i no_field).name ≡ true) ×
    (first_in (data_fields file) (get_or (data_fields file) i no_field).name ≡ i)

-- whether the key bytes of a record's field are inside the span, and it meets the conditions
abbrev pub is_found_by : ℕ → Span → List Cond → Row → Bool
is_found_by field span conds r = is_inside span.lo span.hi
    (bytes_of (value_at r field)) && meets_conds conds r

-- Added were the file's records whose field is within the span and that meet the conditions, each
-- once and in some order.
pub record AreAddedWhere (field : ℕ) (span : Span) (conds : List Cond) (f : File)
    (before now : List Row) : Type 0 where
  pub added : List Row
  pub appended : now ≡ before ++ added
  pub those : IsPermutation (filter (is_found_by field span conds) (fin.entries f)) added

-- the file's record at a key of one value, or none
abbrev pub rows_at_key : File → List Value → List Row
rows_at_key f key = map row_of (list_of_one (record_at f (get_or key 0 (value.Int (pos 0)))))
