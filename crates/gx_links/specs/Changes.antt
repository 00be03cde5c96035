-- Two changes of records, one after the other.
use Rattle.std.specs.Prelude.{◌≡◌, ℕ, List, Some, None}
use Rattle.gx_values.specs.declared.records.Form.{Form}
use Rattle.gx_values.specs.declared.records.Rec.{Rec}
use Rattle.gx_ports.specs.LeafMaps.{LeafMap, map_at}
use Rattle.gx_mapping.specs.Rule.{Rule, In, IsOf}
use Rattle.gx_stack.specs.Tree.{Tree, leaves_of, tree_form}
use Rattle.gx_stack.specs.Internal.{IsSet, IsInternal, IsChange, IfThere, changed}
use Rattle.gx_links.specs.declared.changes.Change.{Change}

-- a record that comes
abbrev pub coming : Rec → Change
coming r = record { old = None; new = Some r }

-- a change undone
abbrev pub reversed : Change → Change
reversed c = record { old = c.new; new = c.old }

-- its records are of the form
abbrev pub FitsChange : Form → Change → Type 0
FitsChange form c = IfThere c.old (IsOf form) × IfThere c.new (IsOf form)

-- one record of a node was changed, and nothing else
pub record IsReplaced {M : Type 0} (rule : M → Rule) (t : Tree M) (c : Change)
    (old new : List LeafMap) : Type 0 where
  pub internal : (R : List Rec) → IsSet (tree_form rule t) R → IsChange R c.old c.new
      → IsInternal rule t R old → IsInternal rule t (changed R c.old c.new) new
  pub others : (n : ℕ) → ¬ In n (leaves_of t) → map_at new n ≡ map_at old n

pub record AreReplaced {M : Type 0} (rule : M → Rule) (first second : Tree M) (a b : Change)
    (old new : List LeafMap) : Type 0 where
  pub half : List LeafMap
  pub one : IsReplaced rule first a old half
  pub two : IsReplaced rule second b half new
