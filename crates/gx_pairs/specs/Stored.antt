-- A link between two files, as it is stored, and what leaves hold of it.
use Rattle.std.specs.Prelude.{◌≡◌, ℕ, ◌<◌, ◌≤◌, List, length, Some, is_some, IsTrue}
use Rattle.std.specs.FinMap as fin
use Rattle.gx_values.specs.declared.values.Value.{Value}
use Rattle.gx_schema.specs.declared.schema.FileDef.{FileDef}
use Rattle.gx_schema.specs.Lookups.{key_kind}
use Rattle.gx_ports.specs.LeafMaps.{LeafMap, map_at}
use Rattle.gx_mapping.specs.Rule.{In}
use Rattle.gx_stack.specs.Tree.{Tree, leaves_of}
use Rattle.gx_stack.specs.Seen.{tree_of}
use Rattle.gx_scan.specs.Files.{AnyMapping}
use Rattle.gx_model.specs.States.{File}
use Rattle.gx_scan.specs.Files.{IsInternal, IsStorable, IsTreeFor}
use Rattle.gx_links.specs.Links.{Link, members_of, IsLink}
use Rattle.gx_links.specs.Linksets.{LinkRule}
use Rattle.gx_pairs.specs.declared.stored.StoredFile.{StoredFile}
use Rattle.gx_pairs.specs.declared.stored.StoredLink.{StoredLink}

abbrev pub file_of : StoredFile → FileDef
file_of s = s.file.now

abbrev pub node_tree : StoredFile → Tree AnyMapping
node_tree s = tree_of s.node.now

-- the file can be stored, and its node is a tree for it
pub record IsStoredFile (s : StoredFile) (leaves : ℕ) : Type 0 where
  pub tree : IsTreeFor (file_of s) (node_tree s) leaves
  pub storable : IsStorable (file_of s)

-- the linkset is valid, and its leaves are some of so many
pub record IsStoredLinkset {L : Type 0} (rule : L → LinkRule) (is_valid : L → Type 0) (linkset : L)
    (leaves : ℕ) : Type 0 where
  pub valid : is_valid linkset
  pub below : (n : ℕ) → In n (rule linkset).leaves → n < leaves
  pub few : length (rule linkset).leaves ≤ leaves

-- both files are stored, and so is the link between them, in leaves of its own
pub record IsStoredLink {L : Type 0} (rule : L → LinkRule) (is_valid : L → Type 0)
    (s : StoredLink L) (leaves : ℕ) : Type 0 where
  pub owners : IsStoredFile s.owners leaves
  pub members : IsStoredFile s.members leaves
  pub owner_kind : (rule s.linkset).owner ≡ key_kind (file_of s.owners)
  pub member_kind : (rule s.linkset).member ≡ key_kind (file_of s.members)
  pub linkset : IsStoredLinkset rule is_valid s.linkset leaves
  pub owners_apart : (n : ℕ) → In n (leaves_of (node_tree s.owners)) → In n (rule s.linkset).leaves
      → ⊥
  pub members_apart : (n : ℕ) → In n (leaves_of (node_tree s.members))
      → In n (rule s.linkset).leaves → ⊥

-- the leaves hold the records of both files and the link, and both ends of each pair are records
pub record AreLinked {L : Type 0} (rule : L → LinkRule) (held : L → Link → List LeafMap → Type 0)
    (s : StoredLink L) (maps : List LeafMap) (owner_file member_file : File)
    (pairs : Link) : Type 0 where
  pub owners : IsInternal (file_of s.owners) (node_tree s.owners) maps owner_file
  pub members : IsInternal (file_of s.members) (node_tree s.members) maps member_file
  pub is_link : IsLink (rule s.linkset).owner (rule s.linkset).member pairs
  pub link : held s.linkset pairs maps
  pub there : (m o : Value) → fin.get pairs m ≡ Some o
      → IsTrue (is_some (fin.get member_file m)) × IsTrue (is_some (fin.get owner_file o))

-- they hold some files and a link between them
abbrev pub HaveLink : {L : Type 0} (rule : L → LinkRule) (held : L → Link → List LeafMap → Type 0)
    → StoredLink L → List LeafMap → Type 0
HaveLink rule held s maps =
    (owners : File) × (members : File) × (link : Link)
    × AreLinked rule held s maps owners members link

-- the leaves hold the link after a change, and all other leaves stay
pub record IsRelinked {L : Type 0} (rule : L → LinkRule) (held : L → Link → List LeafMap → Type 0)
    (s : StoredLink L) (old new : List LeafMap) (pairs : Link) : Type 0 where
  pub link : held s.linkset pairs new
  pub others : (n : ℕ) → ¬ In n (rule s.linkset).leaves → map_at new n ≡ map_at old n

-- no owner of the link has more leaf entries
abbrev pub OwnersHaveAtMost : ℕ → LinkRule → Link → Type 0
OwnersHaveAtMost most rule link = (o : Value) → length (rule.entries o (members_of link o)) ≤ most
