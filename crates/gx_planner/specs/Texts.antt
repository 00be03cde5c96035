-- The printed lines of plans.
use Rattle.std.specs.Prelude.{ℕ, List, [], ◌++◌, Option, Some, None, codes}
use Rattle.std.specs.Fmt.{decimal}
use Rattle.std.specs.List.{slice_get}
use Rattle.gx_schema.specs.declared.schema.FileDef.{FileDef}
use Rattle.gx_schema.specs.declared.schema.Schema.{Schema}
use Rattle.gx_schema.specs.Lookups.{file_at, link_at, field_at}
use Rattle.gx_commands.specs.declared.command.Cond.{Cond}
use Rattle.gx_commands.specs.declared.command.Of.{Of}
use Rattle.gx_commands.specs.declared.command.Find.{Find}
use Rattle.gx_planner.specs.declared.plans.Plan.{Plan}
use Rattle.gx_planner.specs.declared.plans.Plan.TheVariants.{Key, Link, Index, KeyRange, IndexRange, Scan}

-- the name of a condition's field
abbrev pub field_name : FileDef → Option Cond → List ℕ
field_name file None = []
field_name file (Some c) = (field_at file c.field).name

abbrev pub link_name : Schema → Option Of → List ℕ
link_name schema None = []
link_name schema (Some of) = (link_at schema of.link).name

abbrev pub way_text : Schema → Find → Plan → List ℕ
way_text schema q (Key number) =
    codes "key " ++ field_name (file_at schema q.file) (slice_get q.conds number)
way_text schema q Link = codes "link " ++ link_name schema q.of
way_text schema q (Index number) =
    codes "index " ++ field_name (file_at schema q.file) (slice_get q.conds number)
way_text schema q (KeyRange number) =
    codes "key range " ++ field_name (file_at schema q.file) (slice_get q.conds number)
way_text schema q (IndexRange number) =
    codes "index range " ++ field_name (file_at schema q.file) (slice_get q.conds number)
way_text schema q Scan = codes "scan"

-- what is said of the plan of a `find` in the line of this number
abbrev pub plan_text : Schema → ℕ → Find → Plan → List ℕ
plan_text schema line q plan =
    codes "line " ++ decimal line ++ codes ": " ++ way_text schema q plan ++ codes "\n"
