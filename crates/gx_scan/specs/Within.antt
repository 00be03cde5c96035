-- The records of a file within a span that meet conditions.
use Rattle.std.specs.Prelude.{◌≡◌, ◌++◌, ◌&&◌, Bool, List, filter, pos, get_or}
use Rattle.std.specs.List.Sorted.{IsPermutation}
use Rattle.std.specs.FinMap as fin
use Rattle.gx_values.specs.declared.values.Value.TheVariants as value
use Rattle.gx_values.specs.declared.records.Rec.{Rec}
use Rattle.gx_values.specs.declared.keys.Span.{Span}
use Rattle.gx_values.specs.Keys.{bytes_of, is_inside}
use Rattle.gx_commands.specs.declared.command.Cond.{Cond}
use Rattle.gx_model.specs.States.{File, Row}
use Rattle.gx_model.specs.Found.{meets_conds}

-- whether a record's key is inside the span, and it meets the conditions
abbrev pub is_within : Span → List Cond → Row → Bool
is_within span conds r = is_inside span.lo span.hi (bytes_of r.0) && meets_conds conds r

-- Added were the file's records within the span that meet the conditions, each once and in some
-- order.
pub record AreAdded (span : Span) (conds : List Cond) (f : File)
    (before now : List Row) : Type 0 where
  pub added : List Row
  pub appended : now ≡ before ++ added
  pub those : IsPermutation (filter (is_within span conds) (fin.entries f)) added

-- the file's record of a key of one value and data
abbrev pub row_of : Rec → Row
row_of r = (get_or r.key 0 (value.Int (pos 0)), r.fields)
