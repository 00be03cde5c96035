-- Links as the nodes of a schema store them.
use Rattle.std.specs.Prelude.{◌≡◌, ℕ, suc, ◌<◌, ◌≤◌, Bool, true, false, List, length}
use Rattle.gx_values.specs.declared.values.Value.{Value}
use Rattle.gx_values.specs.Keys.{width_of, IsKeyKind}
use Rattle.gx_schema.specs.declared.schema.FileDef.{FileDef}
use Rattle.gx_schema.specs.declared.schema.LinkDef.{LinkDef}
use Rattle.gx_schema.specs.declared.schema.Schema.{Schema}
use Rattle.gx_schema.specs.Lookups.{link_at}
use Rattle.gx_ports.specs.LeafMaps.{LeafMap}
use Rattle.gx_mapping.specs.declared.parts.Part.{Part}
use Rattle.gx_equation.specs.declared.heads.Linkset.{Linkset}
use Rattle.gx_equation.specs.declared.heads.Linkset.TheVariants as linksets
use Rattle.gx_typing.specs.Dues.{owner_kind, member_kind}
use Rattle.gx_types.specs.declared.built.LinkTree.{LinkTree}
use Rattle.gx_types.specs.Any.{any_rule}
use Rattle.gx_types.specs.Links.{linkset_of, link_kids, linkset_at, link_kids_at}
use Rattle.gx_links.specs.Links.{Link}
use Rattle.gx_links.specs.Linksets.{LinkRule}
use Rattle.gx_links.specs.Rows.{IsHeldLink, link_rule}
use Rattle.gx_lists.specs.Arrays.{array_rows}
use Rattle.gx_lists.specs.Inverted.{inverted_rows}
use Rattle.gx_ring.specs.Ring.{ring_rows}

-- a link between two of the files, whose keys are narrow enough for a linkset
pub record IsStorableLink (files : List FileDef) (def : LinkDef) : Type 0 where
  pub owner : def.owner < length files
  pub member : def.member < length files
  pub owner_key : IsKeyKind (owner_kind files def)
  pub member_key : IsKeyKind (member_kind files def)
  pub narrow_owner : width_of (owner_kind files def) ≤ 101
  pub narrow_member : width_of (member_kind files def) ≤ 101

-- the rows of one owner with its members
abbrev pub rows_of : Linkset → Value → List Value → List Part
rows_of linksets.Array = array_rows
rows_of linksets.Ring = ring_rows
rows_of linksets.Inverted = inverted_rows

-- how often the leaves are gone through for so many members
abbrev pub rounds_of : Linkset → ℕ → ℕ
rounds_of linksets.Array count = 1
rounds_of linksets.Ring count = suc count
rounds_of linksets.Inverted count = 1

-- whether an owner is found without reading all of the link
abbrev pub finds_owner : Linkset → Bool
finds_owner linksets.Array = false
finds_owner linksets.Ring = true
finds_owner linksets.Inverted = true

-- what contracts see of the schema's link with this number
abbrev pub rule_at : Schema → List LinkTree → ℕ → LinkRule
rule_at schema links i =
    link_rule any_rule (link_kids_at links i) (rows_of (linkset_at links i))
    (owner_kind schema.files (link_at schema i)) (member_kind schema.files (link_at schema i))
    (rounds_of (linkset_at links i)) (finds_owner (linkset_at links i))

-- the leaves of its nodes hold the link
abbrev pub IsHeldAt : List LinkTree → ℕ → Link → List LeafMap → Type 0
IsHeldAt links i = IsHeldLink any_rule (link_kids_at links i) (rows_of (linkset_at links i))

-- the nodes of the link with this number
pub record IsStoredAt (links : List LinkTree) (i : ℕ) (nodes : LinkTree) : Type 0 where
  pub set : linkset_at links i ≡ linkset_of nodes
  pub kids : link_kids_at links i ≡ link_kids nodes
