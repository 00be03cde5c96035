-- The fields that are indexed in a term are those that are indexed in the node that it means.
use Rattle.std.proofs.Common.{◌≡◌, ℕ, zero, suc, ◌+◌, List, [], ◌∷◌, Bool, false, refl, ap, ◌∙◌}
use Rattle.std.specs.Prelude.{not, ◌&&◌, ◌||◌, is_some}
use Rattle.gx_values.specs.declared.records.Form.{Form}
use Rattle.gx_schema.specs.declared.schema.FileDef.{FileDef}
use Rattle.gx_mapping.specs.Rule.{Rule}
use Rattle.gx_equation.specs.declared.heads.Head.{Head}
use Rattle.gx_equation.specs.declared.heads.Head.TheVariants as heads
use Rattle.gx_equation.specs.Trees.{TermTree, Trees, node, none, kid, SideTree, file_side, link_side, DefinitionTree}
use Rattle.gx_stack.specs.declared.node.Node.{Node}
use Rattle.gx_stack.specs.Tree.{Tree as NodeTree, Kids as NodeKids, leaf, layer, no_kids, kid as node_kid}
use Rattle.gx_stack.specs.Seen.{tree_of}
use Rattle.gx_stack.specs.Indexed.{is_carried, is_indexed, are_indexed}
use Rattle.gx_typing.specs.Dues.{file_form}
use Rattle.gx_forms.specs.Forms.{kid_form}
use Rattle.gx_types.specs.declared.any.AnyMapping.{AnyMapping}
use Rattle.gx_types.specs.Any.{any_rule}
use Rattle.gx_types.specs.HeadRules.{head_rule}
use Rattle.gx_types.specs.Build.{leaf_count, side_leaf_count, IsLeafOf, IsTreeOf, AreTreesOf, IsTreeOfSide, AreTreesOfFiles}
use Rattle.gx_types.specs.Nodes.{tree_at}
use Rattle.gx_types.proofs.TreeLaws.{all_shift, no_shift, one_shift}
use Rattle.gx_explain.specs.Indexed.{some_carries, term_indexed, terms_indexed, side_indexed, file_indexed}

-- no field is indexed in a leaf
leaf_not : (n : ℕ) (form : Form) (top : Head) (kids : Trees) (m : ℕ) (f : Form) (name : List ℕ)
    → IsLeafOf n form top kids m f → false ≡ term_indexed form (node top kids) name
leaf_not n form (heads.Leaf kind) none m f name is = refl
leaf_not n form (heads.Leaf kind) (kid t ts) m f name is = absurd is
leaf_not n form heads.Actual kids m f name is = absurd is
leaf_not n form (heads.Encode field code) kids m f name is = absurd is
leaf_not n form (heads.Segment names) kids m f name is = absurd is
leaf_not n form heads.Transpose kids m f name is = absurd is
leaf_not n form (heads.Partition field bounds) kids m f name is = absurd is
leaf_not n form (heads.Divide size) kids m f name is = absurd is
leaf_not n form (heads.Index field) kids m f name is = absurd is

-- the children that carry a field, where `given` counts them from the child with the number i on
carried_as : (n : ℕ) (forms : ℕ → Form) (i : ℕ) (ts : Trees) (us : NodeKids AnyMapping)
    (given carries : ℕ → Bool) → ((c : ℕ) → given c ≡ carries (i + c)) → AreTreesOf n forms i ts us
    → is_carried us given ≡ some_carries carries i ts
carried_as n forms i none no_kids given carries same are = refl
carried_as n forms i none (node_kid u us) given carries same are = absurd are
carried_as n forms i (kid t ts) no_kids given carries same are = absurd are
carried_as n forms i (kid t ts) (node_kid u us) given carries same are =
    let first : given 0 ≡ carries i = same 0 ∙ ap carries (no_shift i) in
    let others = carried_as (n + leaf_count t) forms (suc i) ts us (λ c. given (suc c)) carries
    (λ c. same (suc c) ∙ ap carries (one_shift i c)) are.1 in
    λ j. first j || others j

mutual
  pub indexed_as : (n : ℕ) (form : Form) (t : TermTree) (u : NodeTree AnyMapping) (name : List ℕ)
      → IsTreeOf n form t u → is_indexed any_rule u name ≡ term_indexed form t name
  indexed_as n form (node top kids) (leaf m f) name is = leaf_not n form top kids m f name is
  indexed_as n form (node top kids) (layer m ks) name is =
      let carries : ℕ → Bool = λ c. (head_rule top form).carries c name in
      let carried = carried_as n (kid_form top form) 0 kids ks carries carries
      (λ c. ap carries (all_shift c)) is.1 in
      let indexed = all_indexed_as n (kid_form top form) 0 kids ks carries carries name
      (λ c. ap carries (all_shift c)) is.1 in
      ap (λ (r : Rule). is_some (r.indexes name) || (is_carried ks
      (λ c. r.carries c name) && are_indexed any_rule ks (λ c. r.carries c name) name)) is.0.1
      ∙ (λ j. is_some ((head_rule top form).indexes name) || (carried j && indexed j))

  all_indexed_as : (n : ℕ) (forms : ℕ → Form) (i : ℕ) (ts : Trees) (us : NodeKids AnyMapping)
      (given carries : ℕ → Bool) (name : List ℕ) → ((c : ℕ) → given c ≡ carries (i + c))
      → AreTreesOf n forms i ts us
      → are_indexed any_rule us given name ≡ terms_indexed forms carries i ts name
  all_indexed_as n forms i none no_kids given carries name same are = refl
  all_indexed_as n forms i none (node_kid u us) given carries name same are = absurd are
  all_indexed_as n forms i (kid t ts) no_kids given carries name same are = absurd are
  all_indexed_as n forms i (kid t ts) (node_kid u us) given carries name same are =
      let first : given 0 ≡ carries i = same 0 ∙ ap carries (no_shift i) in
      let one = indexed_as n (forms i) t u name are.0 in
      let others = all_indexed_as (n + leaf_count t) forms (suc i) ts us
      (λ c. given (suc c)) carries name
      (λ c. same (suc c) ∙ ap carries (one_shift i c)) are.1 in
      λ j. (not (first j) || one j) && others j

side_indexed_as : (n : ℕ) (form : Form) (side : SideTree) (u : NodeTree AnyMapping) (name : List ℕ)
    → IsTreeOfSide n form side u → is_indexed any_rule u name ≡ side_indexed form side name
side_indexed_as n form (file_side t) u name is = indexed_as n form t u name is
side_indexed_as n form (link_side linkset ts) u name is = absurd is

-- the same of a file and its node, by their number
pub file_indexed_as : (n : ℕ) (files : List FileDef) (ds : List DefinitionTree)
    (nodes : List (Node AnyMapping))
    (i : ℕ) (name : List ℕ) → AreTreesOfFiles n files ds nodes
    → is_indexed any_rule (tree_at nodes i) name ≡ file_indexed files ds i name
file_indexed_as n [] ds [] i name are = refl
file_indexed_as n [] ds (x ∷ xs) i name are = absurd are
file_indexed_as n (file ∷ files) [] xs i name are = absurd are
file_indexed_as n (file ∷ files) (d ∷ ds) [] i name are = absurd are
file_indexed_as n (file ∷ files) (d ∷ ds) (x ∷ xs) zero name are =
    side_indexed_as n (file_form file) d.side (tree_of x) name are.0
file_indexed_as n (file ∷ files) (d ∷ ds) (x ∷ xs) (suc i) name are =
    file_indexed_as (n + side_leaf_count d.side) files ds xs i name are.1
