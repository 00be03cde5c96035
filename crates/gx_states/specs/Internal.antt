-- The leaves that stand for a state: for each file a node, which holds the file's records, and for
-- each link nodes, which hold the link.
use Rattle.std.specs.Prelude.{[], ℕ, ◌+◌, ◌<◌, ◌≤◌, List, ◌∷◌, length}
use Rattle.std.specs.List.{sum_by}
use Rattle.gx_schema.specs.declared.schema.Schema.{Schema}
use Rattle.gx_schema.specs.Lookups.{file_at, link_at}
use Rattle.gx_ports.specs.LeafMaps.{LeafMap}
use Rattle.gx_stack.specs.declared.node.Node.{Node}
use Rattle.gx_stack.specs.Tree.{entry_total}
use Rattle.gx_stack.specs.Seen.{tree_of}
use Rattle.gx_stack.specs.Internal.{IsInternal as IsHeld}
use Rattle.gx_values.specs.declared.values.Value.{Value}
use Rattle.gx_types.specs.declared.any.AnyMapping.{AnyMapping}
use Rattle.gx_types.specs.Any.{any_rule}
use Rattle.gx_types.specs.Nodes.{tree_at, AreNodes, AreLinkNodes, AreOwned}
use Rattle.gx_types.specs.declared.built.Built.{Built}
use Rattle.gx_types.specs.declared.built.LinkTree.{LinkTree}
use Rattle.gx_types.specs.Links.{linkset_of, link_kids}
use Rattle.gx_links.specs.Links.{Link, members_of, owners_of}
use Rattle.gx_links.specs.Rows.{owner_entries}
use Rattle.gx_linksets.specs.Stored.{IsStorableLink, rows_of, IsHeldAt}
use Rattle.gx_model.specs.States.{File, State, file_in, link_in, IsValid}
use Rattle.gx_scan.specs.Files.{file_records, IsStorable}
use Rattle.gx_scan.specs.Where.{AreNamed}
use Rattle.gx_ports.specs.declared.kinds.TheConstants.{MAX_LEAVES}

-- the leaves hold the records of each file and each link of a valid state
pub record AreInternal (schema : Schema) (built : Built) (maps : List LeafMap)
    (s : State) : Type 0 where
  pub valid : IsValid schema s
  pub files : (i : ℕ) → i < length schema.files
      → IsHeld any_rule (tree_at built.files i) (file_records (file_in s i)) maps
  pub links : (i : ℕ) → i < length schema.links → IsHeldAt built.links i (link_in s i) maps

-- the leaves stand for some state
abbrev pub HaveState : Schema → Built → List LeafMap → Type 0
HaveState schema built maps = (s : State) × AreInternal schema built maps s

-- each file and each link of the schema can be stored, and there are few links
pub record AreStorable (schema : Schema) : Type 0 where
  pub files : (i : ℕ) → i < length schema.files → IsStorable (file_at schema i)
  pub named : (i : ℕ) → i < length schema.files → AreNamed (file_at schema i)
  pub links : (i : ℕ) → i < length schema.links → IsStorableLink schema.files (link_at schema i)
  pub few_links : length schema.links ≤ 32

-- there are nodes for each file and each link of the schema over so many leaves, and the owner of
-- each leaf is that of its nodes
pub record AreFor (schema : Schema) (built : Built) (leaves : ℕ) : Type 0 where
  pub storable : AreStorable schema
  pub nodes : AreNodes schema built.files leaves
  pub link_nodes : AreLinkNodes schema built.files built.links leaves
  pub owned : AreOwned schema built.files built.links built.owners leaves
  pub few : leaves ≤ MAX_LEAVES

-- ---- counts of entries

-- how many leaf entries come from the records of files
abbrev pub entries_from : List (Node AnyMapping) → List File → ℕ
entries_from [] fs = 0
entries_from (n ∷ ns) [] = 0
entries_from (n ∷ ns) (f ∷ fs) =
    entry_total any_rule (tree_of n) (file_records f) + entries_from ns fs

-- how many come from one owner of a link, with its members
abbrev pub owner_count : LinkTree → Link → Value → ℕ
owner_count x link o =
    length (owner_entries any_rule (link_kids x) (rows_of (linkset_of x)) o (members_of link o))

-- how many come from links
abbrev pub link_entries_from : List LinkTree → List Link → ℕ
link_entries_from [] ls = 0
link_entries_from (x ∷ xs) [] = 0
link_entries_from (x ∷ xs) (l ∷ ls) =
    sum_by (owner_count x l) (owners_of l) + link_entries_from xs ls

-- how many leaf entries a state has
abbrev pub state_entries : Built → State → ℕ
state_entries built s = entries_from built.files s.files + link_entries_from built.links s.links
