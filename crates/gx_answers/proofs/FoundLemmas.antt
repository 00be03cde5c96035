-- The members that a `find` gives by the key, and the bound on the steps of commands that follow a
-- link.
use Rattle.std.proofs.Common.{[], ◌≡◌, ◌≢◌, ℕ, ◌+◌, ◌*◌, ◌<◌, ◌≤◌, List, ◌∷◌, length, map, cond, Bool, true, false, Option, Some, None, inl, inr, refl, sym, ap, subst, ◌∙◌, arith}
use Rattle.std.specs.Prelude.{◌⊎◌, ◌==◌, T, filter, is_some}
use Rattle.std.specs.List.{AllByRecursion, slice_get}
use Rattle.std.specs.Option.{option_map}
use Rattle.std.specs.Ordering.{is_eq, eq_by_cmp}
use Rattle.std.specs.declared.cmp.Ordering.TheVariants.{Less}
use Rattle.std.specs.FinMap as fin
use Rattle.std.proofs.Math.Nat.{mul-le-mul_right}
use Rattle.std.proofs.lemmas.Bool.{true≢false, false_from_ne_true}
use Rattle.std.proofs.lemmas.Option.{same_Some}
use Rattle.gx_laws.proofs.BoolLemmas.{first_of_both, second_of_both}
use Rattle.gx_values.specs.declared.values.Op.{Op}
use Rattle.gx_values.specs.declared.values.Op.TheVariants as op
use Rattle.gx_values.specs.declared.values.Value.{Value}
use Rattle.gx_values.specs.Values.{value_cmp, Fits, is_met}
use Rattle.gx_values.proofs.OrderLemmas.{same_value, value_itself, other_value, value_cases}
use Rattle.gx_schema.specs.declared.schema.FileDef.{FileDef}
use Rattle.gx_schema.specs.declared.schema.Schema.{Schema}
use Rattle.gx_schema.specs.Lookups.{file_at, link_at, field_at, key_kind}
use Rattle.gx_commands.specs.declared.command.Cond.{Cond}
use Rattle.gx_commands.specs.declared.command.Of.{Of}
use Rattle.gx_commands.specs.declared.command.OrderBy.{OrderBy}
use Rattle.gx_commands.specs.declared.command.Find.{Find}
use Rattle.gx_commands.specs.declared.command.Command.TheVariants as command
use Rattle.gx_commands.specs.Commands.{IsCondOf}
use Rattle.gx_ports.specs.LeafMaps.{LeafMap}
use Rattle.gx_mapping.specs.Rule.{In}
use Rattle.gx_mapping.proofs.RuleLemmas.{all_in}
use Rattle.gx_stack.specs.Tree.{Tree, entries_of}
use Rattle.gx_gather.proofs.Lists.{none_some}
use Rattle.gx_gather.proofs.Entries.{below_in}
use Rattle.gx_types.specs.declared.any.AnyMapping.{AnyMapping}
use Rattle.gx_types.specs.declared.built.Built.{Built}
use Rattle.gx_types.specs.Any.{any_rule}
use Rattle.gx_types.specs.Nodes.{tree_at}
use Rattle.gx_planner.specs.declared.plans.Plan.{Plan}
use Rattle.gx_planner.specs.declared.plans.Plan.TheVariants.{Key, Link as ByLink, Index, KeyRange, IndexRange, Scan}
use Rattle.gx_planner.specs.Plans.{condition_rank, rank_by, is_indexed, first_of, by_or, plan_by_condition, least_plan, HasRank}
use Rattle.gx_links.specs.Links.{members_of}
use Rattle.gx_links.specs.Linksets.{LinkRule}
use Rattle.gx_model.specs.States.{File, Link, State, Row, file_in, link_in}
use Rattle.gx_model.specs.Found.{value_at, meets_cond, meets_conds, meets_of}
use Rattle.gx_scan.specs.Files.{rec_of}
use Rattle.gx_scan.specs.Records.{list_of_one}
use Rattle.gx_scan.specs.Within.{row_of}
use Rattle.gx_scan.specs.Steps.{HaveAtMost}
use Rattle.gx_scan.proofs.ListingLemmas.{same_filter, fewer_pass, filter_twice}
use Rattle.gx_pairs.specs.declared.stored.StoredLink.{StoredLink}
use Rattle.gx_pairs.specs.Stored.{node_tree, OwnersHaveAtMost}
use Rattle.gx_pairs.specs.Members.{is_member_of, is_chosen_of, member_rows, rows_at, rows_meeting_at}
use Rattle.gx_finds.specs.Looked.{plan_for, meets_one, step_bound}
use Rattle.gx_finds.proofs.PlannedLemmas.{on_key, one_met}
use Rattle.gx_states.specs.Internal.{AreFor}
use Rattle.gx_states.specs.Stored.{IsStoredLinkOf}
use Rattle.gx_states.proofs.CountLemmas.{entries_at}
use Rattle.gx_states.proofs.LinkLemmas.{file_is}
use Rattle.gx_answers.specs.Queries.{key_number}
use Rattle.gx_answers.specs.Work.{meets_plan, candidates_in, candidates, most_entries, most_owned, most_with, IsBounded}
use Rattle.gx_answers.proofs.WorkLemmas.{file_most, owned_most}

-- ---- the record at a key

none_left : (p : Row → Bool) (es : List Row) → ((r : Row) → In r es → p r ≡ true → ⊥)
    → filter p es ≡ []
none_left p [] none = refl
none_left p (r ∷ es) none = ap (λ b. cond b (r ∷ filter p es) (filter p es))
    (false_from_ne_true (p r) (none r (inl refl))) ∙ none_left p es (λ s h. none s (inr h))

abbrev one_row : Value → Option (List Value) → List Row
one_row k None = []
one_row k (Some vs) = (k, vs) ∷ []

one_found : (k : Value) (o : Option (List Value))
    → map row_of (list_of_one (option_map (λ values. rec_of (k, values)) o)) ≡ one_row k o
one_found k None = refl
one_found k (Some vs) = refl

less_apart : (k q : Value) → value_cmp k q ≡ Less → k ≢ q
less_apart k q less e = true≢false
    (sym (value_itself k) ∙ ap (λ (v : Value). is_eq (value_cmp k v)) e ∙ ap is_eq less)

-- where all that pass have the key, they are what is found at the key and passes
found_at : (p : Row → Bool) (k : Value) (es : List Row) → T (fin.is_sorted value_cmp es)
    → ((r : Row) → In r es → p r ≡ true → r.0 ≡ k)
    → filter p es ≡ filter p (one_row k (fin.find value_cmp k es))
found_at p k [] sorted keyed = refl
found_at p k (r ∷ es) sorted keyed = elim (value_cases k r.0) [
  | inl e ↦ (
      let rest : filter p es ≡ [] = none_left p es
      (λ s h passes. less_apart r.0 s.0 (below_in value_cmp r.0 es s (first_of_both _ _ sorted) h)
      (sym e ∙ sym (keyed s (inr h) passes))) in
      let here : fin.find value_cmp k (r ∷ es) ≡ Some r.1 =
      ap (λ b. cond b (Some r.1) (fin.find value_cmp k es))
      (ap (λ (v : Value). eq_by_cmp value_cmp k v) (sym e) ∙ value_itself k) in
      let same : r ≡ (k, r.1) = λ i. (sym e i, r.1) in
      ap (λ (rs : List Row). cond (p r) (r ∷ rs) rs) rest ∙ ap (λ (s : Row). filter p (s ∷ [])) same
      ∙ ap (λ o. filter p (one_row k o)) (sym here))
  | inr ne ↦ (
      let there : fin.find value_cmp k (r ∷ es) ≡ fin.find value_cmp k es =
      ap (λ b. cond b (Some r.1) (fin.find value_cmp k es)) (other_value k r.0 ne) in
      let fails : p r ≡ false =
      false_from_ne_true (p r) (λ passes. ne (sym (keyed r (inl refl) passes))) in
      ap (λ b. cond b (r ∷ filter p es) (filter p es)) fails
      ∙ found_at p k es (second_of_both _ _ sorted) (λ s h. keyed s (inr h))
      ∙ ap (λ o. filter p (one_row k o)) (sym there))
]

pub filter_at : (p : Row → Bool) (f : File) (k : Value)
    → ((r : Row) → In r (fin.entries f) → p r ≡ true → r.0 ≡ k)
    → filter p (rows_at f k) ≡ filter p (fin.entries f)
filter_at p f k keyed = ap (filter p) (one_found k (fin.get f k))
    ∙ ap (λ o. filter p (one_row k o)) (fin.get-entries f k)
    ∙ sym (found_at p k (fin.entries f) (fin.entries_sorted f) keyed)

-- ---- the plan by the key

equal_of : (o : Op) → rank_by 1 4 o ≡ 1 → o ≡ op.Equal
equal_of op.Equal e = refl
equal_of op.Unequal e = absurd (omega arith)
equal_of op.Less e = absurd (omega arith)
equal_of op.AtMost e = absurd (omega arith)
equal_of op.Greater e = absurd (omega arith)
equal_of op.AtLeast e = absurd (omega arith)

-- the condition of a plan by the key gives it
pub record GivesKey (c : Cond) : Type 0 where
  pub field : c.field ≡ 0
  pub op : c.op ≡ op.Equal

pub gives_key : (q : Find) (indexed : List Bool) (number : ℕ) (c : Cond)
    → HasRank q indexed 1 number
    → slice_get q.conds number ≡ Some c → GivesKey c
gives_key q indexed number c has there =
    let on = on_key q indexed 1 number c has there (inl refl) in
    let rank : condition_rank indexed c ≡ 1 =
    same_Some (condition_rank indexed c) 1 (sym (ap (option_map (condition_rank indexed)) there)
    ∙ has) in
    let by : rank_by 1 4 c.op ≡ 1 =
    subst (λ (n : ℕ). cond (n == 0) (rank_by 1 4 c.op)
    (cond (is_indexed indexed n) (rank_by 3 5 c.op) 6) ≡ 1)
    on.0 rank in
    record { field = on.0; op = equal_of c.op by }

pub key_bound_fits : (file : FileDef) (conds : List Cond) (c : Cond)
    → AllByRecursion (IsCondOf file) conds
    → In c conds → c.field ≡ 0 → Fits (key_kind file) c.bound
key_bound_fits file conds c fit there key =
    subst (λ (n : ℕ). Fits (field_at file n).kind c.bound) key
    (all_in (IsCondOf file) conds c fit there).fits

key_met : (c : Cond) (r : Row) → GivesKey c → meets_cond r c ≡ true → r.0 ≡ c.bound
key_met c r gives met =
    same_value r.0 c.bound (sym (λ i. is_met (gives.op i)
    (value_cmp (value_at r (gives.field i)) c.bound)) ∙ met)

pub key_conds : (c : Cond) (conds : List Cond) (r : Row) → GivesKey c → In c conds
    → meets_conds conds r ≡ true → r.0 ≡ c.bound
key_conds c conds r gives there met = key_met c r gives (one_met (meets_cond r) conds c there met)

-- the members found at the key are those that meet the conditions
pub chosen_at : (members : File) (link : Link) (owner : Value) (conds : List Cond) (c : Cond)
    (rows : List Row) → GivesKey c → In c conds
    → rows ≡ filter (is_member_of link owner) (rows_meeting_at members conds c.bound)
    → filter (is_chosen_of link owner conds) (fin.entries members) ≡ rows
chosen_at members link owner conds c rows gives there is =
    sym (is ∙ ap (filter (is_member_of link owner))
    (filter_at (meets_conds conds) members c.bound (λ r h met. key_conds c conds r gives there met))
    ∙ filter_twice (is_member_of link owner) (meets_conds conds) (fin.entries members))

-- the plan of a `find` among members is by the key or by the link
pub key_or_link : (q : Find) (indexed : List Bool) (of : Of) → q.of ≡ Some of
    → ((n : ℕ) × (least_plan q indexed ≡ Key n)) ⊎ (least_plan q indexed ≡ ByLink)
key_or_link q indexed of is = go (first_of 1 indexed q.conds) refl
  where
    go : (o : Option ℕ) → first_of 1 indexed q.conds ≡ o
        → ((n : ℕ) × (least_plan q indexed ≡ Key n)) ⊎ (least_plan q indexed ≡ ByLink)
    go (Some n) e = inl (
      n,
      ap (λ (o : Option ℕ). by_or Key o
          (cond (is_some q.of) ByLink (plan_by_condition indexed q.conds))) e,
    )
    go None e = inr ((λ i. by_or Key (e i)
        (cond (is_some (is i)) ByLink (plan_by_condition indexed q.conds))))

-- by the key: a look-up of the owner, one of the record, and one in the link where it meets the
-- conditions
pub by_key_steps : (members : File) (link : Link) (owner : Value) (q : Find) (plan : Plan)
    (number : ℕ) (c : Cond) (most leaves before after : ℕ) → GivesKey c → In c q.conds
    → plan ≡ Key number → slice_get q.conds number ≡ Some c
    → after ≤ before + (length (rows_meeting_at members q.conds c.bound) + 2) * (most + leaves)
    → after ≤ before + step_bound (length
    (filter (meets_plan (is_member_of link owner) q plan) (fin.entries members))) most leaves
by_key_steps members link owner q plan number c most leaves before after gives there is at steps =
    let all = filter (meets_plan (is_member_of link owner) q plan) (fin.entries members) in
    let rows = rows_meeting_at members q.conds c.bound in
    let same : rows ≡ filter (meets_conds q.conds) (fin.entries members) =
    filter_at (meets_conds q.conds) members c.bound
    (λ r h met. key_conds c q.conds r gives there met) in
    let few : length (filter (meets_conds q.conds) (fin.entries members)) ≤ length all =
    fewer_pass (meets_conds q.conds) (meets_plan (is_member_of link owner) q plan)
    (fin.entries members)
    (λ r h met. ap (λ (p : Plan). meets_plan (is_member_of link owner) q p r) is
    ∙ ap (λ (o : Option Cond). meets_one o r) at ∙ one_met (meets_cond r) q.conds c there met) in
    let times : (length rows + 2) * (most + leaves) ≤ 2 * (length all + 1) * (most + leaves) =
    mul-le-mul_right (most + leaves) (omega (arith, few, ap (λ (rs : List Row). length rs) same)) in
    omega (arith, steps, times)

-- by the link
pub by_link_steps : (members : File) (link : Link) (owner : Value) (q : Find) (plan : Plan)
    (most leaves before after : ℕ) → plan ≡ ByLink
    → after ≤ before + 2 * (length (member_rows members link owner) + 1) * (most + leaves)
    → after ≤ before + step_bound (length
    (filter (meets_plan (is_member_of link owner) q plan) (fin.entries members))) most leaves
by_link_steps members link owner q plan most leaves before after is steps =
    subst (λ (p : Plan). after ≤ before
    + step_bound (length (filter (meets_plan (is_member_of link owner) q p) (fin.entries members)))
    most leaves) (sym is) steps

pub key_is : (plan : Plan) (n : ℕ) → key_number plan ≡ Some n → plan ≡ Key n
key_is (Key m) n e = ap Key (same_Some m n e)
key_is ByLink n e = absurd (none_some n e)
key_is (Index m) n e = absurd (none_some n e)
key_is (KeyRange m) n e = absurd (none_some n e)
key_is (IndexRange m) n e = absurd (none_some n e)
key_is Scan n e = absurd (none_some n e)

-- the plan of a `find` among members that isn't by the key
pub link_is : (q : Find) (indexed : List Bool) (of : Of) (plan : Plan) → q.of ≡ Some of
    → plan ≡ least_plan q indexed → key_number plan ≡ None → plan ≡ ByLink
link_is q indexed of plan of_is plan_is none = elim (key_or_link q indexed of of_is) [
  | inl key ↦ absurd (none_some key.0 (sym none ∙ ap key_number (plan_is ∙ key.1)))
  | inr link ↦ plan_is ∙ link
]

-- ---- the greatest number of entries

module _ {L : Type 0} (rule : L → LinkRule) (held : L → Link → List LeafMap → Type 0)
    (valid : L → Type 0)
    (schema : Schema) (built : Built) (leaves : ℕ) (x : StoredLink L) (s : State) (of : Of)
    (for : AreFor schema built leaves) (lt : of.link < length schema.links)
    (is : IsStoredLinkOf rule held valid schema built of.link x) where
  record_most : (j : ℕ) (t : Tree AnyMapping) → length s.files ≡ length schema.files
      → j < length schema.files
      → t ≡ tree_at built.files j → HaveAtMost (most_with built s (Some of)) t (file_in s j)
  record_most j t many h tree = λ r there.
      let one : length (entries_of any_rule t (rec_of r)) ≤ most_entries built.files s.files =
      subst (λ (y : Tree AnyMapping). length (entries_of any_rule y (rec_of r))
      ≤ most_entries built.files s.files) (sym tree)
      (file_most built.files s.files j r (omega (arith, for.nodes.many))
      (omega (arith, many)) there) in
      omega (arith, one)

  pub owner_records_most : length s.files ≡ length schema.files
      → HaveAtMost (most_with built s (Some of)) (node_tree x.owners)
      (file_in s (link_at schema of.link).owner)
  owner_records_most many = record_most (link_at schema of.link).owner (node_tree x.owners) many
      (for.storable.links of.link lt).owner is.owner_tree

  pub member_records_most : length s.files ≡ length schema.files
      → HaveAtMost (most_with built s (Some of)) (node_tree x.members)
      (file_in s (link_at schema of.link).member)
  member_records_most many = record_most (link_at schema of.link).member (node_tree x.members) many
      (for.storable.links of.link lt).member is.member_tree

  pub owners_most : length s.links ≡ length schema.links
      → OwnersHaveAtMost (most_with built s (Some of)) (rule x.linkset) (link_in s of.link)
  owners_most many = λ o.
      let one : entries_at built.links of.link (link_in s of.link) o
      ≤ most_owned built.links s.links of.link =
      owned_most built.links s.links of.link o (omega (arith, for.link_nodes.many))
      (omega (arith, many)) in
      subst (λ r. length (r.entries o (members_of (link_in s of.link) o)) ≤ most_with built s
      (Some of))
      (sym is.rule_is) (omega (arith, one))

-- ---- commands

pub members_within : (schema : Schema) (built : Built) (leaves : ℕ) (s : State) (i : ℕ)
    (owner : Value) (order : OrderBy) (before after : ℕ)
    → after ≤ before + 2 * (length
    (member_rows (file_in s (link_at schema i).member) (link_in s i) owner)
    + 1) * (most_with built s (Some (record { link = i; owner = owner })) + leaves)
    → IsBounded schema built leaves s (command.Members i owner order) before after
members_within schema built leaves s i owner order before after steps = steps

same_candidate : (s : State) (q : Find) (plan : Plan) (of : Of) (r : Row) → q.of ≡ Some of
    → meets_plan (is_member_of (link_in s of.link) of.owner) q plan r
    ≡ meets_plan (λ (x : Row). meets_of s q.of x.0) q plan r
same_candidate s q (Key number) of r is = refl
same_candidate s q ByLink of r is = ap (λ (o : Option Of). meets_of s o r.0) (sym is)
same_candidate s q (Index number) of r is = refl
same_candidate s q (KeyRange number) of r is = refl
same_candidate s q (IndexRange number) of r is = refl
same_candidate s q Scan of r is = refl

pub found_within : (schema : Schema) (built : Built) (leaves : ℕ) (s : State) (q : Find) (of : Of)
    (file : FileDef) (t : Tree AnyMapping) (before after : ℕ) → q.of ≡ Some of
    → (link_at schema of.link).member ≡ q.file
    → file ≡ file_at schema (link_at schema of.link).member
    → t ≡ tree_at built.files (link_at schema of.link).member
    → after ≤ before + step_bound (length
    (candidates_in (is_member_of (link_in s of.link) of.owner) t file q
    (file_in s (link_at schema of.link).member))) (most_with built s (Some of)) leaves
    → IsBounded schema built leaves s (command.Find q) before after
found_within schema built leaves s q of file t before after of_is at file_is tree steps =
    let def : file ≡ file_at schema q.file = file_is ∙ ap (file_at schema) at in
    let node : t ≡ tree_at built.files q.file = tree ∙ ap (tree_at built.files) at in
    let is_member = is_member_of (link_in s of.link) of.owner in
    let plan = plan_for (tree_at built.files q.file) (file_at schema q.file) q in
    let moved : candidates_in is_member t file q (file_in s (link_at schema of.link).member)
    ≡ candidates_in is_member (tree_at built.files q.file) (file_at schema q.file) q
    (file_in s q.file) =
    λ i. candidates_in is_member (node i) (def i) q (file_in s (at i)) in
    let these : candidates_in is_member (tree_at built.files q.file) (file_at schema q.file) q
    (file_in s q.file) ≡ candidates schema built s q =
    same_filter (meets_plan is_member q plan) (meets_plan (λ (x : Row). meets_of s q.of x.0) q plan)
    (fin.entries (file_in s q.file)) (λ r h. same_candidate s q plan of r of_is) in
    subst (λ (o : Option Of). after ≤ before + step_bound (length (candidates schema built s q))
    (most_with built s o) leaves) (sym of_is)
    (subst (λ (rs : List Row). after ≤ before + step_bound (length rs)
    (most_with built s (Some of)) leaves) (moved ∙ these) steps)
