-- The pairs of a link, read from the rows that nodes hold.
use Rattle.std.specs.Prelude.{◌≡◌, ℕ, ◌<◌, ◌≤◌, ◌++◌, ◌⊎◌, ◌↔◌, List, length, map, get_or, Option, Some, None}
use Rattle.std.specs.List.{flat_map, IsDistinct}
use Rattle.std.specs.List.Sorted.{IsStrictlySortedBy}
use Rattle.std.specs.FinMap as fin
use Rattle.std.specs.Ordering.{eq_by_cmp}
use Rattle.gx_values.specs.declared.values.Kind.{Kind}
use Rattle.gx_values.specs.declared.values.Value.{Value}
use Rattle.gx_values.specs.declared.records.Rec.{Rec}
use Rattle.gx_values.specs.Values.{no_value}
use Rattle.gx_ports.specs.LeafMaps.{LeafMap}
use Rattle.gx_mapping.specs.declared.parts.Part.{Part}
use Rattle.gx_mapping.specs.Rule.{Rule, In, part_cmp}
use Rattle.gx_gather.specs.Gather.{part_for}
use Rattle.gx_stack.specs.Tree.{Tree}
use Rattle.gx_stack.specs.Internal.{HasSet}
use Rattle.gx_stack.specs.Held.{AreHeld}
use Rattle.gx_links.specs.declared.pairs.Owned.{Owned}
use Rattle.gx_links.specs.Links.{Link, IsLink, most_members}
use Rattle.gx_links.specs.Linksets.{LinkRule, HasLink}
use Rattle.gx_links.specs.Rows.{link_parts}

-- the maps stand for a link, and these are its pairs in the order of the members
pub record AreAllPairs (rule : LinkRule) (held : Link → List LeafMap → Type 0) (maps : List LeafMap)
    (pairs : List (Value × Value)) : Type 0 where
  pub link : Link
  pub is_link : IsLink rule.owner rule.member link
  pub is_held : held link maps
  pub those : pairs ≡ fin.entries link

-- where the leaves are whole: all pairs of the link that they hold, or they hold none
abbrev pub ArePairs : LinkRule → (Link → List LeafMap → Type 0) → Type 0 → List LeafMap
    → Option (List (Value × Value)) → Type 0
ArePairs rule held whole maps None = whole → HasLink rule held maps → ⊥
ArePairs rule held whole maps (Some pairs) = whole → AreAllPairs rule held maps pairs

-- the parts that nodes hold are just the rows of the link
pub record AreRows (owner member : Kind) (rows : Value → List Value → List Part) (parts : List Part)
    (link : Link) : Type 0 where
  pub is_link : IsLink owner member link
  pub to : (p : Part) → In p parts → In p (link_parts rows link)
  pub from : (p : Part) → In p (link_parts rows link) → In p parts

-- where the parts stand by node and key: all pairs of the link whose rows they are, or they are
-- those of none
abbrev pub IsTold : (owner member : Kind) → (Value → List Value → List Part) → List Part
    → Option (List (Value × Value)) → Type 0
IsTold owner member rows parts None = IsStrictlySortedBy part_cmp parts → (link : Link)
    → AreRows owner member rows parts link → ⊥
IsTold owner member rows parts (Some pairs) = IsStrictlySortedBy part_cmp parts
    → (link : Link) × AreRows owner member rows parts link × (pairs ≡ fin.entries link)

-- the rows of owners with their members
abbrev pub rows_of : (Value → List Value → List Part) → List Owned → List Part
rows_of rows = flat_map (λ g. rows g.owner g.members)

-- the records of two nodes, as parts
abbrev pub two_parts : List Rec → List Rec → List Part
two_parts A B = map (part_for 0) A ++ map (part_for 1) B

-- the records that the leaves of two nodes hold, or one of the nodes holds no set of records
abbrev pub AreBothHeld : {M : Type 0} (rule : M → Rule) → Tree M → Tree M → Type 0 → List LeafMap
    → Option (List Rec × List Rec) → Type 0
AreBothHeld rule first second whole maps None =
    whole → HasSet rule first maps → HasSet rule second maps → ⊥
AreBothHeld rule first second whole maps (Some found) =
    AreHeld rule first whole maps found.0 × AreHeld rule second whole maps found.1

-- the pair in the record of a member, with its owner in the field at an index
abbrev pub pair_at : ℕ → Rec → Value × Value
pair_at owner r = (get_or r.key 0 no_value, get_or r.fields owner no_value)

-- The pairs, where no owner has too many members, and the rows are just the parts. None: an owner
-- has too many, or the rows are others, where they are distinct and the parts stand by node and
-- key.
abbrev pub ArePairsOfRows : List (Value × Value) → List Owned → List Part → List Part
    → Option (List (Value × Value)) → Type 0
ArePairsOfRows pairs owners rows parts None =
    ((g : Owned) × In g owners × (most_members < length g.members))
    ⊎ (IsStrictlySortedBy part_cmp parts → IsDistinct (eq_by_cmp part_cmp) rows
    → ¬ ((p : Part) → In p parts ↔ In p rows))
ArePairsOfRows pairs owners rows parts (Some told) =
    (told ≡ pairs) × ((g : Owned) → In g owners → length g.members ≤ most_members)
    × ((p : Part) → In p parts ↔ In p rows)
