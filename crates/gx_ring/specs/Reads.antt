-- The record of a node at a key of one value.
use Rattle.std.specs.Prelude.{◌≡◌, ◌≢◌, ℕ, ◌+◌, ◌≤◌, List, [], ◌∷◌, length, Option, Some, None}
use Rattle.gx_values.specs.declared.values.Value.{Value}
use Rattle.gx_values.specs.declared.records.Rec.{Rec}
use Rattle.gx_ports.specs.LeafMaps.{LeafMap}
use Rattle.gx_mapping.specs.Rule.{Rule, In, IsOf}
use Rattle.gx_stack.specs.Tree.{Tree, leaves_of, tree_form}
use Rattle.gx_stack.specs.Internal.{IsSet, IsInternal, IfThere, HasSet, entries_if}

-- the record has that key, or none has it
abbrev pub IsFoundAt : List Rec → Value → Option Rec → Type 0
IsFoundAt R v None = (r : Rec) → In r R → r.key ≢ v ∷ []
IsFoundAt R v (Some r) = In r R × (r.key ≡ v ∷ [])

-- What was found: a record of the form, or none. Where the leaves are whole and hold a set of
-- records, it is the one at the key. The steps are then at most one for each leaf and one for each
-- leaf entry of the record.
pub record IsRecordAt {M : Type 0} (rule : M → Rule) (t : Tree M) (whole : Type 0)
    (maps : List LeafMap) (v : Value) (steps_before steps : ℕ) (found : Option Rec) : Type 0 where
  pub fit : IfThere found (IsOf (tree_form rule t))
  pub that : whole → (R : List Rec) → IsSet (tree_form rule t) R → IsInternal rule t R maps
      → IsFoundAt R v found
  pub few_steps : whole → HasSet rule t maps
      → steps ≤ steps_before + (length (leaves_of t) + length (entries_if rule t found))
