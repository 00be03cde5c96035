-- The internal form of a state under definitions: which records each leaf has, by recursion on the
-- terms.
use Rattle.std.specs.Prelude.{ℕ, suc, ◌<◌, List, [], ◌∷◌, ◌++◌, length, get_or}
use Rattle.std.specs.List.{sum_by}
use Rattle.gx_values.specs.declared.records.Form.{Form}
use Rattle.gx_values.specs.declared.records.Rec.{Rec}
use Rattle.gx_values.specs.declared.values.Kind.{Kind}
use Rattle.gx_schema.specs.declared.schema.Schema.{Schema}
use Rattle.gx_schema.specs.declared.schema.FileDef.{FileDef}
use Rattle.gx_schema.specs.declared.schema.LinkDef.{LinkDef}
use Rattle.gx_ports.specs.LeafMaps.{LeafMap, map_at}
use Rattle.gx_equation.specs.declared.heads.Head.TheVariants as heads
use Rattle.gx_equation.specs.Trees.{TermTree, Trees, node, none, kid, kids_from, SideTree, file_side, link_side, DefinitionTree}
use Rattle.gx_forms.specs.Forms.{kid_form, link_form}
use Rattle.gx_links.specs.Links.{Link}
use Rattle.gx_links.specs.Rows.{node_rows}
use Rattle.gx_linksets.specs.Stored.{rows_of}
use Rattle.gx_model.specs.States.{File, State, IsValid}
use Rattle.gx_scan.specs.Files.{file_records}
use Rattle.gx_stack.specs.Internal.{IsLeafMap, child_records}
use Rattle.gx_types.specs.Build.{link_definitions}
use Rattle.gx_types.specs.HeadRules.{head_rule}
use Rattle.gx_typing.specs.Dues.{file_form, owner_kind, member_kind}

-- ---- the records of each leaf, in the order of the text

-- A leaf has all records that come to it, and a layer hands the parts of them on to its children.
abbrev mutual
  pub term_leaves : Form → TermTree → List Rec → List (List Rec)
  term_leaves form (node (heads.Leaf kind) kids) R = R ∷ []
  term_leaves form (node top kids) R =
      terms_leaves (kid_form top form) 0 kids (λ c. child_records (head_rule top form) c R)

  -- the first of the terms is the child with the number i
  pub terms_leaves : (ℕ → Form) → ℕ → Trees → (ℕ → List Rec) → List (List Rec)
  terms_leaves forms i none Rs = []
  terms_leaves forms i (kid t ts) Rs =
      term_leaves (forms i) t (Rs i) ++ terms_leaves forms (suc i) ts Rs

abbrev pub file_leaves : Form → SideTree → List Rec → List (List Rec)
file_leaves form (file_side t) R = term_leaves form t R
file_leaves form (link_side linkset ts) R = []

abbrev pub link_leaves : Kind → Kind → SideTree → Link → List (List Rec)
link_leaves o m (file_side t) link = []
link_leaves o m (link_side linkset ts) link =
    terms_leaves (link_form linkset o m) 0 (kids_from ts) (node_rows (rows_of linkset) link)

-- those of the definitions of files, which stand first
abbrev pub files_leaves : List FileDef → List DefinitionTree → List File → List (List Rec)
files_leaves (file ∷ files) (d ∷ ds) (f ∷ fs) =
    file_leaves (file_form file) d.side (file_records f) ++ files_leaves files ds fs
files_leaves files ds fs = []

-- those of the definitions of links between the files
abbrev pub links_leaves : List FileDef → List LinkDef → List DefinitionTree → List Link
    → List (List Rec)
links_leaves files (link ∷ links) (d ∷ ds) (l ∷ ls) =
    link_leaves (owner_kind files link) (member_kind files link) d.side l
    ++ links_leaves files links ds ls
links_leaves files links ds ls = []

-- those of all definitions
abbrev pub state_leaves : Schema → List DefinitionTree → State → List (List Rec)
state_leaves schema ds s =
    files_leaves schema.files ds s.files
    ++ links_leaves schema.files schema.links (link_definitions schema.files ds) s.links

-- ---- a state as leaves

-- The maps are the internal form of a valid state: that of each leaf has an entry for each of the
-- leaf's records, and no other.
pub record IsInternalForm (schema : Schema) (ds : List DefinitionTree) (maps : List LeafMap)
    (s : State) : Type 0 where
  pub valid : IsValid schema s
  pub leaves : (n : ℕ) → n < length (state_leaves schema ds s)
      → IsLeafMap (map_at maps n) (get_or (state_leaves schema ds s) n [])

-- how many entries its leaves have
abbrev pub state_size : Schema → List DefinitionTree → State → ℕ
state_size schema ds s = sum_by length (state_leaves schema ds s)
