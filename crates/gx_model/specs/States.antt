-- States: a finite map for each file and each link of a schema.
use Rattle.std.specs.Prelude.{◌≡◌, ℕ, ◌<◌, ◌≤◌, List, length, filter, replicate, slice_index_or, is_some, IsTrue}
use Rattle.std.specs.List.{AllByRecursion}
use Rattle.std.specs.FinMap as fin
use Rattle.gx_values.specs.declared.values.Value.{Value}
use Rattle.gx_values.specs.Values.{value_cmp, Fits, AreFit}
pub use Rattle.gx_values.specs.Links.{Link, is_same}
use Rattle.gx_schema.specs.declared.schema.FileDef.{FileDef}
use Rattle.gx_schema.specs.declared.schema.LinkDef.{LinkDef}
use Rattle.gx_schema.specs.declared.schema.Schema.{Schema}
use Rattle.gx_schema.specs.declared.schema.TheConstants.{MOST_MEMBERS}
use Rattle.gx_schema.specs.Lookups.{file_at, link_at, key_kind, data_fields}

-- a file: from the key of each record to its other values, in the order of the fields
abbrev pub File : Type 0
File = fin.FinMap value_cmp (List Value)

-- the files and the links of a schema, in its order
pub record State : Type 0 where
  pub files : List File
  pub links : List Link

-- a record: its key and its other values
abbrev pub Row : Type 0
Row = Value × List Value

abbrev pub file_in : State → ℕ → File
file_in s i = slice_index_or s.files i fin.empty

abbrev pub link_in : State → ℕ → Link
link_in s i = slice_index_or s.links i fin.empty

abbrev pub empty_state : Schema → State
empty_state schema =
    record {
      files = replicate (length schema.files) fin.empty;
      links = replicate (length schema.links) fin.empty;
    }

-- the pairs of member and owner with this owner
abbrev pub pairs_of : Link → Value → List (Value × Value)
pairs_of link owner = filter (λ pair. is_same pair.1 owner) (fin.entries link)

-- the most members that an owner has in one link
abbrev pub most_members : ℕ
most_members = MOST_MEMBERS

-- ---- valid states

-- the key fits the file's first field, and the other values fit the other fields
abbrev pub IsRowOf : FileDef → Row → Type 0
IsRowOf file r = Fits (key_kind file) r.0 × AreFit (data_fields file) r.1

abbrev pub HasRowsOf : FileDef → File → Type 0
HasRowsOf file f = AllByRecursion (IsRowOf file) (fin.entries f)

-- both ends of each pair are records, and no owner has too many members
pub record IsLinkOf (s : State) (def : LinkDef) (link : Link) : Type 0 where
  pub members : AllByRecursion (λ pair. IsTrue (is_some (fin.get (file_in s def.member) pair.0)))
      (fin.entries link)
  pub owners : AllByRecursion (λ pair. IsTrue (is_some (fin.get (file_in s def.owner) pair.1)))
      (fin.entries link)
  pub few : (owner : Value) → length (pairs_of link owner) ≤ most_members

pub record IsValid (schema : Schema) (s : State) : Type 0 where
  pub files_many : length s.files ≡ length schema.files
  pub links_many : length s.links ≡ length schema.links
  pub files : (i : ℕ) → i < length schema.files → HasRowsOf (file_at schema i) (file_in s i)
  pub links : (i : ℕ) → i < length schema.links → IsLinkOf s (link_at schema i) (link_in s i)
