-- How many steps a command may take that reads. A step is a selection from a leaf that was
-- answered, or an entry that one gave.
use Rattle.std.specs.Prelude.{ℕ, zero, suc, ◌+◌, ◌*◌, ◌≤◌, max, Bool, true, false, List, [], ◌∷◌, length, filter, Option, Some, None}
use Rattle.std.specs.FinMap as fin
use Rattle.gx_values.specs.declared.values.Op.TheVariants as op
use Rattle.gx_schema.specs.declared.schema.FileDef.{FileDef}
use Rattle.gx_schema.specs.declared.schema.Schema.{Schema}
use Rattle.gx_schema.specs.Lookups.{file_at, link_at}
use Rattle.gx_commands.specs.declared.command.Of.{Of}
use Rattle.gx_commands.specs.declared.command.Find.{Find}
use Rattle.gx_commands.specs.declared.command.Command.{Command}
use Rattle.gx_commands.specs.declared.command.Command.TheVariants as command
use Rattle.gx_stack.specs.declared.node.Node.{Node}
use Rattle.gx_stack.specs.Tree.{Tree, entries_of}
use Rattle.gx_stack.specs.Seen.{tree_of}
use Rattle.gx_types.specs.declared.any.AnyMapping.{AnyMapping}
use Rattle.gx_types.specs.Any.{any_rule}
use Rattle.gx_types.specs.Nodes.{tree_at}
use Rattle.gx_types.specs.declared.built.Built.{Built}
use Rattle.gx_types.specs.declared.built.LinkTree.{LinkTree}
use Rattle.gx_links.specs.Links.{Link, owners_of}
use Rattle.gx_values.specs.declared.values.Value.{Value}
use Rattle.gx_planner.specs.declared.plans.Plan.{Plan}
use Rattle.gx_planner.specs.declared.plans.Plan.TheVariants.{Key, Link as ByLink, Index, KeyRange, IndexRange, Scan}
use Rattle.gx_model.specs.States.{File, State, Row, file_in}
use Rattle.gx_model.specs.Found.{meets_of}
use Rattle.gx_scan.specs.Files.{rec_of}
use Rattle.gx_pairs.specs.declared.stored.StoredFile.{StoredFile}
use Rattle.gx_pairs.specs.Stored.{file_of, node_tree}
use Rattle.gx_pairs.specs.Members.{is_member_of}
use Rattle.gx_finds.specs.Looked.{plan_for, condition_of, meets_one, step_bound}
use Rattle.gx_states.specs.Internal.{owner_count}

-- ---- the candidates of a plan

-- whether a record meets the one condition of the plan: an equality, a range, or that it is a
-- member of the owner
abbrev pub meets_plan : (Row → Bool) → Find → Plan → Row → Bool
meets_plan is_member q (Key number) r = meets_one (condition_of q (Key number)) r
meets_plan is_member q ByLink r = is_member r
meets_plan is_member q (Index number) r = meets_one (condition_of q (Index number)) r
meets_plan is_member q (KeyRange number) r = meets_one (condition_of q (KeyRange number)) r
meets_plan is_member q (IndexRange number) r = meets_one (condition_of q (IndexRange number)) r
meets_plan is_member q Scan r = true

-- the records of a file with this tree and this definition that do
abbrev pub candidates_in : (Row → Bool) → Tree AnyMapping → FileDef → Find → File → List Row
candidates_in is_member t def q f =
    filter (meets_plan is_member q (plan_for t def q)) (fin.entries f)

-- those of a state
abbrev pub candidates : Schema → Built → State → Find → List Row
candidates schema built s q =
    candidates_in (λ r. meets_of s q.of r.0) (tree_at built.files q.file) (file_at schema q.file) q
    (file_in s q.file)

-- How many look-ups a `find` among the members of an owner takes at most: two for each of the
-- records of the members' file that meet the one condition of the plan, and two for the record of
-- the owner and its link.
abbrev pub member_look_ups : StoredFile → Find → Value → File → Link → ℕ
member_look_ups stored q owner members link =
    2 * (length (candidates_in (is_member_of link owner) (node_tree stored) (file_of stored) q
    members) + 1)

-- ---- the entries of a record

-- the greatest number of leaf entries that come from one of the records
abbrev pub most_of : Tree AnyMapping → List Row → ℕ
most_of t [] = 0
most_of t (r ∷ rs) = max (length (entries_of any_rule t (rec_of r))) (most_of t rs)

-- from one record of any file
abbrev pub most_entries : List (Node AnyMapping) → List File → ℕ
most_entries [] fs = 0
most_entries (n ∷ ns) [] = 0
most_entries (n ∷ ns) (f ∷ fs) = max (most_of (tree_of n) (fin.entries f)) (most_entries ns fs)

-- from one of the owners
abbrev pub most_of_owners : LinkTree → Link → List Value → ℕ
most_of_owners x link [] = 0
most_of_owners x link (o ∷ os) = max (owner_count x link o) (most_of_owners x link os)

-- from one owner of the link with this number
abbrev pub most_owned : List LinkTree → List Link → ℕ → ℕ
most_owned [] ls i = 0
most_owned (x ∷ xs) [] i = 0
most_owned (x ∷ xs) (l ∷ ls) zero = most_of_owners x l (owners_of l)
most_owned (x ∷ xs) (l ∷ ls) (suc i) = most_owned xs ls i

-- from one record of any file, or from one owner of the link of `of` where it stands
abbrev pub most_with : Built → State → Option Of → ℕ
most_with built s None = most_entries built.files s.files
most_with built s (Some of) =
    max (most_entries built.files s.files) (most_owned built.links s.links of.link)

-- ---- the bound

abbrev pub find_bound : Schema → Built → ℕ → State → Find → ℕ
find_bound schema built leaves s q =
    step_bound (length (candidates schema built s q)) (most_with built s q.of) leaves

-- The `find` as which a command's steps count: `get` has one equality on the key, `members` has its
-- owner alone.
abbrev pub counted_as : Schema → Command → Option Find
counted_as schema (command.Get file key) =
    Some (record {
      file = file;
      conds = record { field = 0; op = op.Equal; bound = key } ∷ [];
      of = None;
      order = record { field = 0; desc = false };
    })
counted_as schema (command.Members link owner order) =
    Some (record {
      file = (link_at schema link).member;
      conds = [];
      of = Some
          (record { link = link; owner = owner });
      order = order;
    })
counted_as schema (command.Find q) = Some q
counted_as schema _ = None

abbrev pub IsWithin : Schema → Built → ℕ → State → Option Find → ℕ → ℕ → Type 0
IsWithin schema built leaves s None before after = Unit {0}
IsWithin schema built leaves s (Some q) before after =
    after ≤ before + find_bound schema built leaves s q

-- the steps of a command that reads are bounded; for other commands this says nothing
abbrev pub IsBounded : Schema → Built → ℕ → State → Command → ℕ → ℕ → Type 0
IsBounded schema built leaves s c before after =
    IsWithin schema built leaves s (counted_as schema c) before after
