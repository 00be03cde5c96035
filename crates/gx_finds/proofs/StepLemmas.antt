-- The steps that looking for records takes.
use Rattle.std.proofs.Common.{◌≡◌, ◌≢◌, ℕ, ◌+◌, ◌*◌, ◌<◌, ◌≤◌, List, length, true, Some, None, inl, inr, ap, subst, ◌∙◌, arith}
use Rattle.std.specs.Prelude.{◌⊎◌}
use Rattle.std.specs.List.{slice_get}
use Rattle.std.specs.FinMap as fin
use Rattle.std.proofs.Math.Nat.{mul-le-mul_right}
use Rattle.gx_values.specs.declared.values.Op.TheVariants as op
use Rattle.gx_values.specs.declared.keys.Span.{Span}
use Rattle.gx_values.specs.Keys.{bytes_of, is_inside}
use Rattle.gx_schema.specs.declared.schema.FileDef.{FileDef}
use Rattle.gx_schema.specs.Lookups.{field_at}
use Rattle.gx_commands.specs.declared.command.Cond.{Cond}
use Rattle.gx_commands.specs.declared.command.Find.{Find}
use Rattle.gx_mapping.specs.Rule.{In}
use Rattle.gx_mapping.proofs.RuleLemmas.{all_in}
use Rattle.gx_planner.specs.declared.plans.Plan.{Plan}
use Rattle.gx_planner.specs.declared.plans.Plan.TheVariants.{Key, Link, Index, KeyRange, IndexRange, Scan}
use Rattle.gx_model.specs.States.{File, IsRowOf, HasRowsOf}
use Rattle.gx_model.specs.Found.{value_at}
use Rattle.gx_scan.specs.Steps.{is_key_inside, rows_inside, rows_with}
use Rattle.gx_scan.proofs.ListingLemmas.{same_filter, fewer_pass}
use Rattle.gx_finds.specs.Spans.{HoldsAllMet}
use Rattle.gx_finds.specs.Looked.{condition_of, meets_one, rows_meeting, step_bound}
use Rattle.gx_finds.proofs.SpanLemmas.{inside_meets, key_inside}

-- ---- the records that are looked at

-- inside the span of all conditions on the key
pub keys_within : (file : FileDef) (c : Cond) (conds : List Cond) (s : Span) (f : File) → In c conds
    → c.field ≡ 0 → c.op ≢ op.Unequal → c.field < length file.fields
    → HoldsAllMet (field_at file c.field).kind c.field conds s → HasRowsOf file f
    → length (rows_inside s f) ≤ length (rows_meeting (Some c) f)
keys_within file c conds s f there key other lt holds fit =
    fewer_pass (is_key_inside s) (meets_one (Some c)) (fin.entries f)
    (λ r h inside. inside_meets file c conds s r there other lt holds
    (all_in (IsRowOf file) (fin.entries f) r fit h) (key_inside s r c.field key ∙ inside))

-- inside that of all conditions on another field
pub fields_within : (file : FileDef) (c : Cond) (conds : List Cond) (s : Span) (f : File)
    → In c conds → c.op ≢ op.Unequal → c.field < length file.fields
    → HoldsAllMet (field_at file c.field).kind c.field conds s → HasRowsOf file f
    → length (rows_with c.field s f) ≤ length (rows_meeting (Some c) f)
fields_within file c conds s f there other lt holds fit =
    fewer_pass (λ r. is_inside s.lo s.hi (bytes_of (value_at r c.field))) (meets_one (Some c))
    (fin.entries f)
    (λ r h inside. inside_meets file c conds s r there other lt holds
    (all_in (IsRowOf file) (fin.entries f) r fit h) inside)

-- without a condition
pub all_meeting : (s : Span) (f : File) → ((key : List ℕ) → is_inside s.lo s.hi key ≡ true)
    → length (rows_inside s f) ≡ length (rows_meeting None f)
all_meeting s f all = ap length
    (same_filter (is_key_inside s) (meets_one None) (fin.entries f) (λ r h. all (bytes_of r.0)))

pub condition_by_key : (q : Find) (plan : Plan) (number : ℕ) (c : Cond)
    → (plan ≡ Key number) ⊎ (plan ≡ KeyRange number) → slice_get q.conds number ≡ Some c
    → condition_of q plan ≡ Some c
condition_by_key q plan number c (inl e) there = ap (condition_of q) e ∙ there
condition_by_key q plan number c (inr e) there = ap (condition_of q) e ∙ there

pub condition_by_index : (q : Find) (plan : Plan) (number : ℕ) (c : Cond)
    → (plan ≡ Index number) ⊎ (plan ≡ IndexRange number) → slice_get q.conds number ≡ Some c
    → condition_of q plan ≡ Some c
condition_by_index q plan number c (inl e) there = ap (condition_of q) e ∙ there
condition_by_index q plan number c (inr e) there = ap (condition_of q) e ∙ there

pub no_condition : (q : Find) (plan : Plan) → (plan ≡ Link) ⊎ (plan ≡ Scan)
    → condition_of q plan ≡ None
no_condition q plan (inl e) = ap (condition_of q) e
no_condition q plan (inr e) = ap (condition_of q) e

-- ---- sums

-- by the key: a step for each leaf, and the entries of the candidates
pub key_steps : (count most leaves before after n : ℕ) → n ≤ count
    → after ≤ before + (leaves + n * most) → after ≤ before + (leaves + count * most)
key_steps count most leaves before after n le few =
    let product : n * most ≤ count * most = mul-le-mul_right most le in
    omega (arith, few, product)

pub key_within : (count most leaves before after n : ℕ) → count ≡ n
    → after ≤ before + (leaves + count * most) → after ≤ before + step_bound n most leaves
key_within count most leaves before after n same few =
    subst (λ k. after ≤ before + step_bound k most leaves) same (omega (arith, few))

-- by an index
pub index_steps : (count most leaves before after n : ℕ) → n ≤ count
    → after ≤ before + ((n + 1) * leaves + 2 * (n * most))
    → after ≤ before + ((count + 1) * leaves + 2 * (count * most))
index_steps count most leaves before after n le few =
    let entries : n * most ≤ count * most = mul-le-mul_right most le in
    let selections : n * leaves ≤ count * leaves = mul-le-mul_right leaves le in
    omega (arith, few, entries, selections)

pub index_within : (count most leaves before after n : ℕ) → count ≡ n
    → after ≤ before + ((count + 1) * leaves + 2 * (count * most))
    → after ≤ before + step_bound n most leaves
index_within count most leaves before after n same few =
    subst (λ k. after ≤ before + step_bound k most leaves) same (omega (arith, few))
