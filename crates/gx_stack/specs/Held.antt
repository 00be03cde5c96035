-- What is found where the leaves of a tree are read whole.
use Rattle.std.specs.Prelude.{◌≡◌, ◌≢◌, ℕ, Bool, not, ◌&&◌, nat_eq, List, ◌⊎◌, length, slice_get, Option, Some, None}
use Rattle.std.specs.List.{filter, flat_map}
use Rattle.std.specs.FinMap.{len}
use Rattle.std.specs.List.Sorted.{IsPermutation, IsSortedBy, IsStrictlySortedBy}
use Rattle.std.specs.Ordering.{is_lt, eq_by_cmp}
use Rattle.gx_values.specs.Values.{values_cmp}
use Rattle.gx_values.specs.declared.records.Form.{Form}
use Rattle.gx_values.specs.declared.records.Rec.{Rec}
use Rattle.gx_ports.specs.LeafMaps.{LeafMap, map_at}
use Rattle.gx_mapping.specs.declared.parts.Part.{Part}
use Rattle.gx_mapping.specs.Rule.{Rule, In, IsOf, part_cmp}
use Rattle.gx_stack.specs.Tree.{Tree, tree_form}
use Rattle.gx_stack.specs.Internal.{IsLeafMap, IsInternal, HasLeafSet, HasSet}
use Rattle.gx_gather.specs.Gather.{rec_cmp, gather_cmp, AreMade, IsUnmade}

-- ---- trees

-- the leaves hold these records, which stand in the order of their keys
pub record AreHeld {M : Type 0} (rule : M → Rule) (t : Tree M) (whole : Type 0)
    (maps : List LeafMap) (found : List Rec) : Type 0 where
  pub fit : (r : Rec) → In r found → IsOf (tree_form rule t) r
  pub in_order : whole → IsStrictlySortedBy rec_cmp found
  pub held : whole → IsInternal rule t found maps

abbrev pub IsHeld : {M : Type 0} (rule : M → Rule) → Tree M → Type 0 → List LeafMap
    → Option (List Rec) → Type 0
IsHeld rule t whole maps None = whole → ¬ HasSet rule t maps
IsHeld rule t whole maps (Some found) = AreHeld rule t whole maps found

-- ---- one leaf

pub record AreLeafHeld (form : Form) (whole : Type 0) (m : LeafMap)
    (found : List Rec) : Type 0 where
  pub fit : (r : Rec) → In r found → IsOf form r
  pub in_order : whole → IsStrictlySortedBy rec_cmp found
  pub held : whole → IsLeafMap m found

abbrev pub IsLeafHeld : Form → Type 0 → LeafMap → Option (List Rec) → Type 0
IsLeafHeld form whole m None = whole → ¬ HasLeafSet form m
IsLeafHeld form whole m (Some found) = AreLeafHeld form whole m found

-- ---- counts of entries

-- each count that was noted at the number of a leaf is that of the leaf's entries
abbrev pub AreCounts : List LeafMap → List (Option ℕ) → Type 0
AreCounts maps counts = (leaf count : ℕ) → slice_get counts leaf ≡ Some (Some count)
    → count ≡ len (map_at maps leaf)

-- ---- the parts of one layer

-- the parts of a record for children that aren't data children
abbrev pub other_parts : Rule → Rec → List Part
other_parts rule r = filter (λ part. not (rule.holds_rest part.child)) (rule.parts r)

abbrev pub is_same_part : Part → Part → Bool
is_same_part p q =
    nat_eq p.child q.child &&
    (eq_by_cmp values_cmp p.rec.key q.rec.key && eq_by_cmp values_cmp p.rec.fields q.rec.fields)

-- these are all parts of these records
pub record AreMadeWith (rule : Rule) (main others : List Part) (found : List Rec) : Type 0 where
  pub made : AreMade rule main found
  pub rest : IsPermutation (flat_map (other_parts rule) found) others

-- the data parts are those of records that have other parts besides
pub record AreMadeWithout (rule : Rule) (main others : List Part) : Type 0 where
  pub found : List Rec
  pub made : AreMade rule main found
  pub parts : List Part
  pub those : IsPermutation (flat_map (other_parts rule) found) parts
  pub in_order : IsSortedBy (λ a b. is_lt (gather_cmp 0 a b)) parts
  pub apart : parts ≢ others

abbrev pub AreJoined : Rule → List Part → List Part → Option (List Rec) → Type 0
AreJoined rule main others (Some found) = AreMadeWith rule main others found
AreJoined rule main others None =
    IsUnmade rule (length rule.form.keys) (IsStrictlySortedBy part_cmp main) main
    ⊎ AreMadeWithout rule main others
