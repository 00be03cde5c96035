-- Rings: of each owner the first member, and of each member the next one and the owner.
use Rattle.std.specs.Prelude.{◌≡◌, suc, pos, true, max, List, [], ◌∷◌, map, Option, Some, None, get_or}
use Rattle.gx_values.specs.declared.values.Kind.{Kind}
use Rattle.gx_values.specs.declared.values.Kind.TheVariants as kind
use Rattle.gx_values.specs.declared.values.Value.{Value}
use Rattle.gx_values.specs.declared.values.Value.TheVariants as value
use Rattle.gx_values.specs.declared.records.Rec.{Rec}
use Rattle.gx_values.specs.Keys.{bytes_of, width_of}
use Rattle.gx_values.specs.Spans.{IsSpanKind}
use Rattle.gx_values.specs.Values.{no_value}
use Rattle.gx_mapping.specs.declared.parts.Part.{Part}
use Rattle.gx_mapping.specs.Rule.{Rule}
use Rattle.gx_gather.specs.Gather.{part_for}
use Rattle.gx_stack.specs.Tree.{Tree, tree_form, AreValid}
use Rattle.gx_links.specs.Kinds.{kinds_of}
use Rattle.gx_links.specs.Linksets.{LinkRule}
use Rattle.gx_links.specs.Pairs.{pair_at}
use Rattle.gx_links.specs.Rows.{two_forms, link_rule, two_nodes, owner_kind, member_kind}

abbrev pub first : List Value → Option Value
first [] = None
first (x ∷ xs) = Some x

-- the record of an owner, with its first member
abbrev pub head_rec : Value → Value → Rec
head_rec owner member = record { key = owner ∷ []; fields = member ∷ [] }

-- the record of a member: 0, the next member's key and the owner, or 1 and the owner's key where it
-- is the last
abbrev pub chain_rec : Value → Value → Option Value → Rec
chain_rec owner member None =
    record
    { key = member ∷ []; fields = value.Int (pos 1) ∷ value.Bytes (bytes_of owner) ∷ owner ∷ [] }
chain_rec owner member (Some next) =
    record
    { key = member ∷ []; fields = value.Int (pos 0) ∷ value.Bytes (bytes_of next) ∷ owner ∷ [] }

-- an owner that may have no member
abbrev pub head_if : Value → Option Value → Option Rec
head_if owner None = None
head_if owner (Some member) = Some (head_rec owner member)

-- the records of the members of one owner
abbrev pub chain : Value → List Value → List Rec
chain owner [] = []
chain owner (m ∷ ms) = chain_rec owner m (first ms) ∷ chain owner ms

-- the records of an owner in the first node and of its members in the second
abbrev pub ring_rows : Value → List Value → List Part
ring_rows owner [] = []
ring_rows owner (m ∷ ms) = part_for 0 (head_rec owner m) ∷ map (part_for 1) (chain owner (m ∷ ms))

-- ---- the two nodes

-- the bytes of a key of either kind
abbrev pub next_kind : Kind → Kind → Kind
next_kind owner member = kind.Bytes (max (width_of owner) (width_of member))

-- the nodes have the forms of a ring and are valid, and no leaf is in both
pub record IsRing {M : Type 0} (rule : M → Rule) (heads nexts : Tree M) : Type 0 where
  pub owner : IsSpanKind (owner_kind rule heads)
  pub member : IsSpanKind (member_kind rule nexts)
  pub head_keys : kinds_of (tree_form rule heads).keys ≡ owner_kind rule heads ∷ []
  pub head_fields : kinds_of (tree_form rule heads).fields ≡ member_kind rule nexts ∷ []
  pub chain_keys : kinds_of (tree_form rule nexts).keys ≡ member_kind rule nexts ∷ []
  pub chain_fields : kinds_of (tree_form rule nexts).fields
      ≡ kind.Int ∷ next_kind (owner_kind rule heads) (member_kind rule nexts)
      ∷ owner_kind rule heads ∷ []
  pub nodes : AreValid rule (two_forms (tree_form rule heads) (tree_form rule nexts))
      (two_nodes heads nexts)

abbrev pub ring_rule : {M : Type 0} (rule : M → Rule) → Tree M → Tree M → LinkRule
ring_rule rule heads nexts =
    link_rule rule (two_nodes heads nexts) ring_rows (owner_kind rule heads)
    (member_kind rule nexts) suc true

abbrev pub key_value : Rec → Value
key_value r = get_or r.key 0 no_value

-- the pair in the record of a member
abbrev pub chain_pair : Rec → Value × Value
chain_pair = pair_at 2
