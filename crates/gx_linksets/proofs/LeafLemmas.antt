-- No link has more leaves than there are.
use Rattle.std.proofs.Common.{◌≡◌, ◌<◌, ◌≤◌, ℕ, suc, List, [], ◌∷◌, true, false, length, inl, inr}
use Rattle.std.specs.List.{AllByRecursion, IsDistinct, list_any}
use Rattle.std.proofs.Math.Dec.{eqb}
use Rattle.std.proofs.lemmas.Bool.{eqb-true, ne_eqb}
use Rattle.std.proofs.lemmas.Map.Steps.{length-le_from_distinct_below}
use Rattle.std.proofs.lemmas.Map.Views.{Contains-from_any}
use Rattle.gx_values.specs.declared.records.Form.{Form}
use Rattle.gx_schema.specs.declared.schema.Schema.{Schema}
use Rattle.gx_schema.specs.Lookups.{link_at}
use Rattle.gx_mapping.specs.Rule.{Rule, In}
use Rattle.gx_gather.proofs.Lists.{contains_in, once_joined, IsOnce}
use Rattle.gx_stack.specs.declared.node.Node.{Node}
use Rattle.gx_stack.specs.Tree.{Tree, Kids, leaf, layer, no_kids, kid, leaves_of, kids_leaves, IsValid, AreValid}
use Rattle.gx_forms.specs.Forms.{link_form}
use Rattle.gx_typing.specs.Dues.{owner_kind, member_kind}
use Rattle.gx_types.specs.declared.any.AnyMapping.{AnyMapping}
use Rattle.gx_types.specs.declared.built.LinkTree.{LinkTree}
use Rattle.gx_types.specs.Any.{any_rule}
use Rattle.gx_types.specs.Links.{linkset_at, link_kids_at}
use Rattle.gx_types.specs.Nodes.{AreLinkNodes}
use Rattle.gx_linksets.specs.Stored.{rule_at}

module _ {M : Type 0} (rule : M → Rule) where
  mutual
    leaves_once : (t : Tree M) → IsValid rule t → IsOnce (leaves_of t)
    leaves_once (leaf n form) valid = (λ i. i, tt)
    leaves_once (layer m ks) valid = kids_once ((rule m).kid_form) ks valid.1

    kids_once : (forms : ℕ → Form) (ks : Kids M) → AreValid rule forms ks → IsOnce (kids_leaves ks)
    kids_once forms no_kids valid = tt
    kids_once forms (kid t ks) valid =
        once_joined (leaves_of t) (kids_leaves ks) (leaves_once t valid.1)
        (kids_once (λ c. forms (suc c)) ks valid.3) valid.2

among : (n : ℕ) (xs : List ℕ) → list_any (eqb n) xs ≡ true → In n xs
among n xs is = contains_in n xs (Contains-from_any eqb-true n xs is)

all_unlike : (n : ℕ) (xs : List ℕ) → (In n xs → ⊥) → AllByRecursion (λ x. eqb n x ≡ false) xs
all_unlike n [] absent = tt
all_unlike n (x ∷ xs) absent =
    (ne_eqb n x (λ e. absent (inl e)), all_unlike n xs (λ h. absent (inr h)))

distinct : (xs : List ℕ) → IsOnce xs → IsDistinct eqb xs
unfolding IsDistinct
distinct [] once = tt
distinct (x ∷ xs) once = (all_unlike x xs once.0, distinct xs once.1)

pub few_leaves : (schema : Schema) (files : List (Node AnyMapping)) (links : List LinkTree)
    (leaves i : ℕ) → AreLinkNodes schema files links leaves → i < length schema.links
    → length (rule_at schema links i).leaves ≤ leaves
few_leaves schema files links leaves i are lt =
    let ks = link_kids_at links i in
    let forms = link_form (linkset_at links i) (owner_kind schema.files (link_at schema i))
    (member_kind schema.files (link_at schema i)) in
    length-le_from_distinct_below (kids_leaves ks) leaves
    (distinct (kids_leaves ks) (kids_once any_rule forms ks (are.valid i lt)))
    (λ n h. are.below i n lt (among n (kids_leaves ks) h))
