-- What is counted of the records of a node.
use Rattle.std.specs.Prelude.{◌≡◌, ℕ, ◌+◌, ◌≤◌, List, length}
use Rattle.gx_values.specs.declared.records.Rec.{Rec}
use Rattle.gx_values.specs.declared.keys.Span.{Span}
use Rattle.gx_values.specs.declared.values.Value.{Value}
use Rattle.gx_ports.specs.LeafMaps.{LeafMap}
use Rattle.gx_mapping.specs.Rule.{Rule}
use Rattle.gx_stack.specs.Tree.{Tree, leaves_of, tree_form, entry_total}
use Rattle.gx_stack.specs.Internal.{IsSet, IsInternal}
use Rattle.gx_stack.specs.Selected.{IsSelection}
use Rattle.gx_links.specs.Links.{Link, members_of, IsLink}
use Rattle.gx_links.specs.Linksets.{LinkRule, steps_for}

-- so many records are inside the span, in at most one step for each leaf and one for each of their
-- leaf entries
pub record IsCountOf {M : Type 0} (rule : M → Rule) (t : Tree M) (R : List Rec) (span : Span)
    (steps_before steps count : ℕ) : Type 0 where
  pub found : List Rec
  pub selected : IsSelection R span found
  pub counted : count ≡ length found
  pub few_steps : steps ≤ steps_before + (length (leaves_of t) + entry_total rule t found)

-- of each set of records that whole leaves hold
abbrev pub IsCount : {M : Type 0} (rule : M → Rule) → Tree M → Type 0 → List LeafMap → Span → ℕ → ℕ
    → ℕ → Type 0
IsCount rule t whole maps span steps_before steps count = whole → (R : List Rec)
    → IsSet (tree_form rule t) R → IsInternal rule t R maps
    → IsCountOf rule t R span steps_before steps count

-- so many members has the owner in the link that whole leaves hold
pub record IsMemberCount (rule : LinkRule) (held : Link → List LeafMap → Type 0) (whole : Type 0)
    (maps : List LeafMap) (owner : Value) (steps_before steps count : ℕ) : Type 0 where
  pub counted : whole → (link : Link) → IsLink rule.owner rule.member link → held link maps
      → count ≡ length (members_of link owner)
  pub few_steps : whole → (link : Link) → IsLink rule.owner rule.member link → held link maps
      → steps ≤ steps_before + steps_for rule link owner
