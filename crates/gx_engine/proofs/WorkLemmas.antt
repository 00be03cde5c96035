-- The bound on the steps of commands that read.
use Rattle.std.proofs.Common.{◌≡◌, ℕ, ◌+◌, ◌*◌, ◌≤◌, length, true, Option, None, Result, Ok, Err, refl, sym, ap, subst, ◌∙◌, arith}
use Rattle.std.specs.Prelude.{OnOk}
use Rattle.std.specs.FinMap as fin
use Rattle.std.proofs.Math.Nat.{mul-le-mul_left}
use Rattle.std.proofs.lemmas.Bool.{true≢false}
use Rattle.gx_schema.specs.declared.schema.FileDef.{FileDef}
use Rattle.gx_schema.specs.declared.schema.Schema.{Schema}
use Rattle.gx_schema.specs.Lookups.{file_at}
use Rattle.gx_commands.specs.declared.command.Of.{Of}
use Rattle.gx_commands.specs.declared.command.Find.{Find}
use Rattle.gx_commands.specs.declared.command.Command.{Command}
use Rattle.gx_commands.specs.declared.command.Command.TheVariants as command
use Rattle.gx_stack.specs.Tree.{Tree}
use Rattle.gx_types.specs.declared.any.AnyMapping.{AnyMapping}
use Rattle.gx_types.specs.declared.built.Built.{Built}
use Rattle.gx_types.specs.Nodes.{tree_at}
use Rattle.gx_planner.specs.declared.plans.Plan.{Plan}
use Rattle.gx_planner.specs.declared.plans.Plan.TheVariants.{Key, Link, Index, KeyRange, IndexRange, Scan}
use Rattle.gx_model.specs.States.{State, Row, file_in}
use Rattle.gx_model.specs.Found.{meets_of}
use Rattle.gx_scan.proofs.ListingLemmas.{same_filter}
use Rattle.gx_finds.specs.Looked.{plan_for, condition_of, meets_one, rows_meeting, step_bound}
use Rattle.gx_edits.specs.Edits.{is_edit}
use Rattle.gx_answers.specs.Work.{IsBounded, meets_plan, candidates, most_with, find_bound}

-- ---- the records that are looked at

one_condition : (s : State) (q : Find) (plan : Plan) (r : Row) → q.of ≡ None
    → meets_plan (λ (x : Row). meets_of s q.of x.0) q plan r ≡ meets_one (condition_of q plan) r
one_condition s q (Key number) r none = refl
one_condition s q Link r none = ap (λ (o : Option Of). meets_of s o r.0) none
one_condition s q (Index number) r none = refl
one_condition s q (KeyRange number) r none = refl
one_condition s q (IndexRange number) r none = refl
one_condition s q Scan r none = refl

-- one record
pub record_within : (count most few leaves before after : ℕ) → few ≤ leaves
    → after ≤ before + (few + most) → after ≤ before + step_bound count most leaves
record_within count most few leaves before after le steps = omega (arith, le, steps)

wider : (count most few leaves before after : ℕ) → few ≤ leaves
    → after ≤ before + step_bound count most few → after ≤ before + step_bound count most leaves
wider count most few leaves before after le steps =
    let product : count * few ≤ count * leaves = mul-le-mul_left count le in
    omega (arith, le, steps, product)

-- ---- commands

-- a command whose steps aren't counted
pub nothing_counted : {A E : Type 0} (r : Result A E) → OnOk r (Unit {0})
nothing_counted (Ok x) = tt
nothing_counted (Err e) = tt

-- the steps of an edit aren't bounded
pub edit_uncounted : {A E : Type 0} (r : Result A E) (schema : Schema) (built : Built) (leaves : ℕ)
    (s : State) (c : Command) (before after : ℕ) → is_edit c ≡ true
    → OnOk r (IsBounded schema built leaves s c before after)
edit_uncounted (Err e) schema built leaves s c before after is = tt
edit_uncounted (Ok x) schema built leaves s (command.Insert file values) before after is = tt
edit_uncounted (Ok x) schema built leaves s (command.Update file key changes) before after is = tt
edit_uncounted (Ok x) schema built leaves s (command.Delete file key) before after is = tt
edit_uncounted (Ok x) schema built leaves s (command.Connect link owner member) before after is = tt
edit_uncounted (Ok x) schema built leaves s (command.Disconnect link member) before after is = tt
edit_uncounted (Ok x) schema built leaves s _ before after is = absurd (true≢false (sym is))

pub find_within : (schema : Schema) (built : Built) (leaves : ℕ) (s : State) (q : Find)
    (file : FileDef) (t : Tree AnyMapping) (few before after : ℕ) → file ≡ file_at schema q.file
    → t ≡ tree_at built.files q.file → q.of ≡ None → few ≤ leaves
    → after ≤ before + step_bound
    (length (rows_meeting (condition_of q (plan_for t file q)) (file_in s q.file)))
    (most_with built s q.of) few → after ≤ before + find_bound schema built leaves s q
find_within schema built leaves s q file t few before after is tree none le steps =
    let f = file_in s q.file in
    let plan = plan_for (tree_at built.files q.file) (file_at schema q.file) q in
    let these : rows_meeting (condition_of q plan) f ≡ candidates schema built s q =
    same_filter (meets_one (condition_of q plan))
    (meets_plan (λ (x : Row). meets_of s q.of x.0) q plan) (fin.entries f)
    (λ r h. sym (one_condition s q plan r none)) in
    let many : length (rows_meeting (condition_of q (plan_for t file q)) f) ≡ length
    (candidates schema built s q) =
    (λ i. length (rows_meeting (condition_of q (plan_for (tree i) (is i) q)) f))
    ∙ ap length these in
    wider (length (candidates schema built s q)) (most_with built s q.of) few leaves before after le
    (subst (λ n. after ≤ before + step_bound n (most_with built s q.of) few) many steps)
