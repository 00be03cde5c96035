-- The records that a plan looks at and finds, and bounds on the steps that this takes.
use Rattle.std.specs.Prelude.{ℕ, ◌+◌, ◌*◌, Bool, true, List, length, filter, Option, Some, None, Result}
use Rattle.std.specs.List.{slice_get}
use Rattle.std.specs.List.Sorted.{IsPermutation}
use Rattle.std.specs.FinMap as fin
use Rattle.gx_schema.specs.declared.schema.FileDef.{FileDef}
use Rattle.gx_commands.specs.declared.command.Cond.{Cond}
use Rattle.gx_commands.specs.declared.command.Find.{Find}
use Rattle.gx_ports.specs.declared.stop.Stop.{Stop}
use Rattle.gx_ports.specs.declared.view.View.{Ghosts}
use Rattle.gx_stack.specs.Tree.{Tree, leaves_of}
use Rattle.gx_types.specs.declared.any.AnyMapping.{AnyMapping}
use Rattle.gx_planner.specs.declared.plans.Plan.{Plan}
use Rattle.gx_planner.specs.declared.plans.Plan.TheVariants.{Key, Link as ByLink, Index, KeyRange, IndexRange, Scan}
use Rattle.gx_planner.specs.Plans.{least_plan}
use Rattle.gx_model.specs.States.{File, Row}
use Rattle.gx_model.specs.Found.{meets_cond, meets_conds}
use Rattle.gx_scan.specs.Search.{AddsRows}
use Rattle.gx_scan.specs.Steps.{span_bound, index_bound}
use Rattle.gx_finds.specs.Planned.{fields_indexed}

-- ---- the candidates of a plan

-- the plan of a `find` on a file that is stored in the tree
abbrev pub plan_for : Tree AnyMapping → FileDef → Find → Plan
plan_for t file q = least_plan q (fields_indexed t file)

-- the condition that a plan is by
abbrev pub condition_of : Find → Plan → Option Cond
condition_of q (Key number) = slice_get q.conds number
condition_of q ByLink = None
condition_of q (Index number) = slice_get q.conds number
condition_of q (KeyRange number) = slice_get q.conds number
condition_of q (IndexRange number) = slice_get q.conds number
condition_of q Scan = None

abbrev pub meets_one : Option Cond → Row → Bool
meets_one None r = true
meets_one (Some c) r = meets_cond r c

-- the file's records that meet the condition, or all where there is none
abbrev pub rows_meeting : Option Cond → File → List Row
rows_meeting c f = filter (meets_one c) (fin.entries f)

-- ---- the bound

-- of so many candidates, entries of a record and leaves
abbrev pub step_bound : ℕ → ℕ → ℕ → ℕ
step_bound count most leaves = 2 * (count + 1) * (most + leaves)

-- where the candidates are those that meet a condition on the key
abbrev pub key_bound : Tree AnyMapping → Cond → (f : File) → (most : ℕ) → ℕ
key_bound t cond f most =
    span_bound (length (rows_meeting (Some cond) f)) most (length (leaves_of t))

-- a condition on an indexed field
abbrev pub field_bound : Tree AnyMapping → Cond → (f : File) → (most : ℕ) → ℕ
field_bound t cond f most =
    index_bound (length (rows_meeting (Some cond) f)) most (length (leaves_of t))

-- the condition of the plan
abbrev pub plan_bound : Tree AnyMapping → FileDef → Find → (f : File) → (most : ℕ) → ℕ
plan_bound t file q f most =
    step_bound (length (rows_meeting (condition_of q (plan_for t file q)) f)) most
    (length (leaves_of t))

-- ---- what is found

-- All rows there are now are the records that meet the conditions, in any order.
abbrev pub AddsFound : {S T : Type 0} → Ghosts S → FileDef → Tree AnyMapping → List Cond
    → (bound : File → ℕ → ℕ) → S → S → List Row → List Row → Result T Stop → Type 0
AddsFound g file t conds bound old new before now result =
    AddsRows g file t
    (λ f front rows. IsPermutation (filter (meets_conds conds) (fin.entries f)) rows)
    bound old new before now result
