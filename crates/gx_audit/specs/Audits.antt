-- What an audit finds in leaves: the files of a state, and then its links.
use Rattle.std.specs.Prelude.{◌≡◌, ℕ, ◌<◌, List, [], ◌++◌, map, length, Option, Some, None, slice_index_or}
use Rattle.std.specs.FinMap as fin
use Rattle.gx_values.specs.declared.values.Value.{Value}
use Rattle.gx_schema.specs.declared.schema.FileDef.{FileDef}
use Rattle.gx_schema.specs.declared.schema.Schema.{Schema}
use Rattle.gx_schema.specs.Lookups.{file_at, link_at}
use Rattle.gx_ports.specs.LeafMaps.{LeafMap}
use Rattle.gx_mapping.specs.Rule.{In}
use Rattle.gx_stack.specs.declared.node.Node.{Node}
use Rattle.gx_stack.specs.Tree.{Tree}
use Rattle.gx_types.specs.declared.any.AnyMapping.{AnyMapping}
use Rattle.gx_types.specs.declared.built.Built.{Built}
use Rattle.gx_types.specs.Nodes.{tree_at}
use Rattle.gx_linksets.specs.Stored.{IsHeldAt}
use Rattle.gx_model.specs.States.{File, Link, State, IsLinkOf}
use Rattle.gx_scan.specs.Files.{IsInternal, HasFile}
use Rattle.gx_states.specs.Internal.{AreInternal, HaveState}
use Rattle.gx_audit.specs.declared.database.Found.{Found}
use Rattle.gx_audit.specs.Texts.{inspect_text}

-- the keys of a file's records, ascending
abbrev pub keys_of : File → List Value
keys_of f = map (λ row. row.0) (fin.entries f)

-- where the leaves are whole: the tree's leaves hold a file, and these are its keys; or they hold
-- none
abbrev pub AreKeys : FileDef → Tree AnyMapping → Type 0 → List LeafMap → Option (List Value)
    → Type 0
AreKeys file t whole maps None = whole → ¬ HasFile file t maps
AreKeys file t whole maps (Some keys) = whole
    → (f : File) × IsInternal file t maps f × (keys ≡ keys_of f)

-- these are the first files of the schema, and the leaves of their nodes hold them
pub record AreFirstFiles (schema : Schema) (nodes : List (Node AnyMapping)) (maps : List LeafMap)
    (count : ℕ) (fs : List File) : Type 0 where
  pub many : length fs ≡ count
  pub each : (i : ℕ) → i < count
      → IsInternal (file_at schema i) (tree_at nodes i) maps (slice_index_or fs i fin.empty)

-- all files of the schema, held by the leaves of their nodes
abbrev pub AreFiles : Schema → List (Node AnyMapping) → List LeafMap → List File → Type 0
AreFiles schema nodes maps fs = AreFirstFiles schema nodes maps (length schema.files) fs

-- where the leaves are whole: they hold the files of the schema, and these are the keys of each; or
-- they hold none
abbrev pub AreAllKeys : Schema → List (Node AnyMapping) → Type 0 → List LeafMap
    → Option (List (List Value)) → Type 0
AreAllKeys schema nodes whole maps None = whole → (fs : List File) → ¬ AreFiles schema nodes maps fs
AreAllKeys schema nodes whole maps (Some keys) = whole
    → (fs : List File) × AreFiles schema nodes maps fs × (keys ≡ map keys_of fs)

-- the member of each pair is one of the members, and its owner one of the owners
abbrev pub AreAmong : List Value → List Value → List (Value × Value) → Type 0
AreAmong members owners pairs = (pair : Value × Value) → In pair pairs
    → In pair.0 members × In pair.1 owners

-- a state of these files, without links
abbrev pub with_files : List File → State
with_files fs = record { files = fs; links = [] }

-- the leaves hold the schema's link with this number, and it is one between records of these files
pub record IsLinkAt (schema : Schema) (built : Built) (maps : List LeafMap) (fs : List File) (i : ℕ)
    (link : Link) : Type 0 where
  pub valid : IsLinkOf (with_files fs) (link_at schema i) link
  pub held : IsHeldAt built.links i link maps

-- where the leaves are whole: they hold that link, and it has so many pairs; or they hold none
abbrev pub IsPairCount : Schema → Built → Type 0 → List LeafMap → List File → ℕ → Option ℕ → Type 0
IsPairCount schema built whole maps fs i None = whole → (link : Link)
    → ¬ IsLinkAt schema built maps fs i link
IsPairCount schema built whole maps fs i (Some count) = whole
    → (link : Link) × IsLinkAt schema built maps fs i link × (count ≡ fin.len link)

-- these are the first links of the schema, which the leaves hold
pub record AreFirstLinks (schema : Schema) (built : Built) (maps : List LeafMap) (fs : List File)
    (count : ℕ) (ls : List Link) : Type 0 where
  pub many : length ls ≡ count
  pub each : (i : ℕ) → i < count → IsLinkAt schema built maps fs i (slice_index_or ls i fin.empty)

abbrev pub AreLinks : Schema → Built → List LeafMap → List File → List Link → Type 0
AreLinks schema built maps fs ls = AreFirstLinks schema built maps fs (length schema.links) ls

-- where the leaves are whole: they hold the links of the schema, and these are the counts of their
-- pairs; or they hold none
abbrev pub ArePairCounts : Schema → Built → Type 0 → List LeafMap → List File → Option (List ℕ)
    → Type 0
ArePairCounts schema built whole maps fs None = whole → (ls : List Link)
    → ¬ AreLinks schema built maps fs ls
ArePairCounts schema built whole maps fs (Some counts) = whole
    → (ls : List Link) × AreLinks schema built maps fs ls × (counts ≡ map fin.len ls)

-- the leaves stand for a state with these keys of the records of each file and so many pairs of
-- each link
pub record IsFound (schema : Schema) (built : Built) (maps : List LeafMap)
    (keys : List (List Value)) (counts : List ℕ) : Type 0 where
  pub state : State
  pub is : AreInternal schema built maps state
  pub keys_are : keys ≡ map keys_of state.files
  pub counts_are : counts ≡ map fin.len state.links

-- where the leaves are whole: what was found is of a state that they stand for; or they stand for
-- none
abbrev pub IsAnswer : Schema → Built → Type 0 → List LeafMap → Option Found → Type 0
IsAnswer schema built whole maps None = whole → ¬ HaveState schema built maps
IsAnswer schema built whole maps (Some found) = whole
    → IsFound schema built maps found.keys found.counts

-- there are keys for each file, and a count for each link
pub record HasAsMany (schema : Schema) (found : Found) : Type 0 where
  pub keys : length found.keys ≡ length schema.files
  pub counts : length found.counts ≡ length schema.links

-- the leaves stand for a state, and what `inspect` says of it was appended
pub record IsSound (schema : Schema) (built : Built) (maps : List LeafMap)
    (before now : List ℕ) : Type 0 where
  pub state : State
  pub is : AreInternal schema built maps state
  pub said : now ≡ before ++ inspect_text schema built.specs built.owners maps state
