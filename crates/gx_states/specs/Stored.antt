-- A link of a schema, as it is stored.
use Rattle.std.specs.Prelude.{◌≡◌, ℕ, List}
use Rattle.gx_schema.specs.declared.schema.Schema.{Schema}
use Rattle.gx_schema.specs.Lookups.{file_at, link_at}
use Rattle.gx_ports.specs.LeafMaps.{LeafMap}
use Rattle.gx_types.specs.declared.built.Built.{Built}
use Rattle.gx_types.specs.Nodes.{tree_at}
use Rattle.gx_links.specs.Links.{Link as PlainLink}
use Rattle.gx_links.specs.Linksets.{LinkRule}
use Rattle.gx_linksets.specs.Stored.{rule_at, IsHeldAt}
use Rattle.gx_pairs.specs.declared.stored.StoredLink.{StoredLink}
use Rattle.gx_pairs.specs.Stored.{file_of, node_tree}

-- the schema's link with this number, as it is stored
pub record IsStoredLinkOf {L : Type 0} (rule : L → LinkRule)
    (held : L → PlainLink → List LeafMap → Type 0) (valid : L → Type 0) (schema : Schema)
    (built : Built) (i : ℕ) (x : StoredLink L) : Type 0 where
  pub owner_file : file_of x.owners ≡ file_at schema (link_at schema i).owner
  pub owner_tree : node_tree x.owners ≡ tree_at built.files (link_at schema i).owner
  pub member_file : file_of x.members ≡ file_at schema (link_at schema i).member
  pub member_tree : node_tree x.members ≡ tree_at built.files (link_at schema i).member
  pub rule_is : rule x.linkset ≡ rule_at schema built.links i
  pub valid_is : valid x.linkset
  pub held_to : (link : PlainLink) (maps : List LeafMap) → IsHeldAt built.links i link maps
      → held x.linkset link maps
  pub held_from : (link : PlainLink) (maps : List LeafMap) → held x.linkset link maps
      → IsHeldAt built.links i link maps
