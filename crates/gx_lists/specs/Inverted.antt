-- Inverted lists: a record of each pair under its owner, and one under its member.
use Rattle.std.specs.Prelude.{◌≡◌, true, List, [], ◌∷◌, Option, Some, None, get_or}
use Rattle.std.specs.List.{flat_map}
use Rattle.gx_values.specs.declared.values.Value.{Value}
use Rattle.gx_values.specs.declared.records.Rec.{Rec}
use Rattle.gx_values.specs.Spans.{IsSpanKind}
use Rattle.gx_values.specs.Values.{no_value}
use Rattle.gx_mapping.specs.declared.parts.Part.{Part}
use Rattle.gx_mapping.specs.Rule.{Rule}
use Rattle.gx_gather.specs.Gather.{part_for}
use Rattle.gx_stack.specs.Tree.{Tree, tree_form, AreValid}
use Rattle.gx_links.specs.Kinds.{kinds_of}
use Rattle.gx_links.specs.Linksets.{LinkRule}
use Rattle.gx_links.specs.Pairs.{pair_at}
use Rattle.gx_links.specs.Rows.{two_forms, link_rule, two_nodes, owner_kind, member_kind}

-- the record of a pair under its owner and then its member, without data
abbrev pub pair_rec : Value → Value → Rec
pair_rec owner member = record { key = owner ∷ member ∷ []; fields = [] }

-- the record of a member, with its owner
abbrev pub owned_rec : Value → Value → Rec
owned_rec owner member = record { key = member ∷ []; fields = owner ∷ [] }

-- the two records of a pair, in the first node and in the second
abbrev pub pair_rows : Value → Value → List Part
pair_rows owner member =
    part_for 0 (pair_rec owner member) ∷ part_for 1 (owned_rec owner member) ∷ []

abbrev pub inverted_rows : Value → List Value → List Part
inverted_rows owner = flat_map (pair_rows owner)

-- ---- the two nodes

-- the nodes have the forms of an inverted list and are valid, and no leaf is in both
pub record IsInverted {M : Type 0} (rule : M → Rule) (down up : Tree M) : Type 0 where
  pub owner : IsSpanKind (owner_kind rule down)
  pub member : IsSpanKind (member_kind rule up)
  pub down_keys : kinds_of (tree_form rule down).keys
      ≡ owner_kind rule down ∷ member_kind rule up ∷ []
  pub down_fields : kinds_of (tree_form rule down).fields ≡ []
  pub up_keys : kinds_of (tree_form rule up).keys ≡ member_kind rule up ∷ []
  pub up_fields : kinds_of (tree_form rule up).fields ≡ owner_kind rule down ∷ []
  pub nodes : AreValid rule (two_forms (tree_form rule down) (tree_form rule up))
      (two_nodes down up)

abbrev pub inverted_rule : {M : Type 0} (rule : M → Rule) → Tree M → Tree M → LinkRule
inverted_rule rule down up =
    link_rule rule (two_nodes down up) inverted_rows (owner_kind rule down) (member_kind rule up)
    (λ _. 1) true

-- ---- what is read of the records

abbrev pub member_in : Rec → Value
member_in r = get_or r.key 1 no_value

abbrev pub owner_in : List Rec → Option Value
owner_in [] = None
owner_in (r ∷ rs) = Some (get_or r.fields 0 no_value)

-- the pair in the record of a member
abbrev pub owned_pair : Rec → Value × Value
owned_pair = pair_at 0
