-- What a `find` gives, and in what order.
use Rattle.std.specs.Prelude.{◌≡◌, ℕ, pos, List, [], ◌∷◌, filter, slice_index_or, Bool, true, false, ◌&&◌, Option, None, Some, if◌then◌else◌}
use Rattle.std.specs.List.{list_all, AllByRecursion}
use Rattle.std.specs.List.Sorted.{IsPermutation}
use Rattle.std.specs.FinMap as fin
use Rattle.std.specs.Ordering.{ordering_then, ordering_reverse}
use Rattle.std.specs.declared.cmp.Ordering.{Ordering}
use Rattle.std.specs.declared.cmp.Ordering.TheVariants.{Less}
use Rattle.gx_values.specs.declared.values.Value.{Value}
use Rattle.gx_values.specs.declared.values.Value.TheVariants as value
use Rattle.gx_values.specs.Values.{value_cmp, is_met}
use Rattle.gx_commands.specs.declared.command.Cond.{Cond}
use Rattle.gx_commands.specs.declared.command.Of.{Of}
use Rattle.gx_commands.specs.declared.command.OrderBy.{OrderBy}
use Rattle.gx_commands.specs.declared.command.Find.{Find}
use Rattle.gx_model.specs.States.{File, State, Row, link_in, is_same}

-- the value of a field, the key being field 0
abbrev pub value_at : Row → ℕ → Value
value_at r field = slice_index_or (r.0 ∷ r.1) field (value.Int (pos 0))

abbrev pub meets_cond : Row → Cond → Bool
meets_cond r c = is_met c.op (value_cmp (value_at r c.field) c.bound)

abbrev pub meets_conds : List Cond → Row → Bool
meets_conds cs r = list_all (meets_cond r) cs

-- whether what a link has for a member is this owner
abbrev pub is_owner : Value → Option Value → Bool
is_owner owner None = false
is_owner owner (Some found) = is_same found owner

-- whether the key is that of a member of the owner, where one is asked for
abbrev pub meets_of : State → Option Of → Value → Bool
meets_of s None key = true
meets_of s (Some of) key = is_owner of.owner (fin.get (link_in s of.link) key)

abbrev pub turned : Bool → Ordering → Ordering
turned desc r = if desc then ordering_reverse r else r

-- by the field, ascending or descending; ties by the key, always ascending
abbrev pub row_cmp : OrderBy → Row → Row → Ordering
row_cmp o a b =
    ordering_then (turned o.desc (value_cmp (value_at a o.field) (value_at b o.field)))
    (value_cmp a.0 b.0)

-- each before all later ones
abbrev pub Ascends : {A : Type 0} → (A → A → Ordering) → List A → Type 0
Ascends cmp [] = Unit {0}
Ascends cmp (x ∷ xs) = AllByRecursion (λ y. cmp x y ≡ Less) xs × Ascends cmp xs

-- the file's records that pass the test, each once, in the order
pub record IsListed (f : File) (test : Row → Bool) (order : OrderBy)
    (rows : List Row) : Type 0 where
  pub those : IsPermutation (filter test (fin.entries f)) rows
  pub in_order : Ascends (row_cmp order) rows

-- the records that meet every condition, and are members of the owner where `of` stands
abbrev pub is_chosen : State → Find → Row → Bool
is_chosen s q r = meets_conds q.conds r && meets_of s q.of r.0
