-- Paths over links: the records that a path gives, and the language of lines that has paths.
use Rattle.std.specs.Prelude.{◌≡◌, ℕ, List, [], ◌∷◌, filter, Bool, true, false, Err}
use Rattle.std.specs.List.{list_any}
use Rattle.std.specs.FinMap as fin
use Rattle.gx_values.specs.declared.values.Value.{Value}
use Rattle.gx_schema.specs.declared.schema.Schema.{Schema}
use Rattle.gx_schema.specs.Lookups.{file_at}
use Rattle.gx_commands.specs.declared.command.Find.{Find}
use Rattle.gx_commands.specs.declared.path.Way.{Way}
use Rattle.gx_commands.specs.declared.path.Way.TheVariants.{Down, Up}
use Rattle.gx_commands.specs.declared.path.Leg.{Leg}
use Rattle.gx_commands.specs.declared.path.PathQuery.{PathQuery}
use Rattle.gx_script.specs.Paths.{is_path, IsPathLine, IsPathReading}
use Rattle.gx_model.specs.States.{State, Row, file_in, link_in}
use Rattle.gx_model.specs.Found.{meets_conds, is_owner}
use Rattle.gx_model.specs.Texts.{rows_text}
use Rattle.gx_model.specs.Play.{Playing, seen_state, is_inside}
use Rattle.gx_model.specs.Languages.{Language}
use Rattle.gx_model.specs.Runs.{Step, IsBadLine}

-- whether the link leads from the record with the one key to that with the other: from an owner
-- down to its member, or from a member up to its owner
abbrev pub leads : State → Way → Value → Value → Bool
leads s (Down link) from to = is_owner from (fin.get (link_in s link) to)
leads s (Up link) from to = is_owner to (fin.get (link_in s link) from)

-- the records of a file that meet the conditions, by ascending key
abbrev pub chosen : State → Find → List Row
chosen s q = filter (meets_conds q.conds) (fin.entries (file_in s q.file))

-- whether the record is linked with one of the set before
abbrev pub is_led : State → Way → List Row → Row → Bool
is_led s way rows to = list_any (λ from. leads s way from.0 to.0) rows

-- the set after a leg: those of its file that meet its conditions and are linked with a record of
-- the set before, each once
abbrev pub after_leg : State → Leg → List Row → List Row
after_leg s leg rows = filter (is_led s leg.way rows) (chosen s leg.find)

-- the set after some legs
abbrev pub after_legs : State → List Leg → List Row → List Row
after_legs s [] rows = rows
after_legs s (leg ∷ legs) rows = after_legs s legs (after_leg s leg rows)

-- the `find` of the last leg, or the one before all legs
abbrev pub last_find : Find → List Leg → Find
last_find first [] = first
last_find first (leg ∷ legs) = last_find leg.find legs

-- the last set, and its records' lines
abbrev pub path_rows : State → PathQuery → List Row
path_rows s q = after_legs s q.legs (chosen s q.first)

abbrev pub path_text : Schema → State → PathQuery → List ℕ
path_text schema s q = rows_text (file_at schema (last_find q.first q.legs).file) (path_rows s q)

-- ---- lines

-- a path line answers what the path gives, and changes nothing
pub record PathStep (schema : Schema) (p : Playing) (line answer : List ℕ)
    (next : Playing) : Type 0 where
  pub query : PathQuery
  pub means : IsPathLine schema line query
  pub answered : answer ≡ path_text schema (seen_state p) query
  pub next_is : next ≡ p

-- the one of a path line, and the other of a line that is none
abbrev pub PathOr : Bool → Type 0 → Type 0 → Type 0
PathOr true Path Other = Path
PathOr false Path Other = Other

-- each line whose first word is `path` means a path, and each other a command
abbrev pub with_paths : Schema → Language Playing ℕ
with_paths schema = record {
  Goes = λ p line answer next.
      PathOr (is_path line) (PathStep schema p line answer next) (Step schema p line answer next);
  IsBad = λ p line why.
      PathOr (is_path line) (IsPathReading schema line (Err why))
      (IsBadLine schema (is_inside p) line why);
  is_open = λ p. is_inside p;
}
