-- What `inspect` says of a database.
use Rattle.std.specs.Prelude.{ℕ, zero, suc, List, [], ◌++◌, map, length, codes, slice_index_or}
use Rattle.std.specs.Fmt.{decimal}
use Rattle.std.specs.FinMap.{len}
use Rattle.gx_values.specs.declared.values.Kind.TheVariants as kind
use Rattle.gx_schema.specs.declared.schema.FileDef.{FileDef}
use Rattle.gx_schema.specs.declared.schema.LinkDef.{LinkDef}
use Rattle.gx_schema.specs.declared.schema.Schema.{Schema}
use Rattle.gx_schema.specs.Lookups.{file_at, link_at}
use Rattle.gx_ports.specs.declared.kinds.LeafKind.{LeafKind}
use Rattle.gx_ports.specs.declared.kinds.LeafKind.TheVariants as leaf
use Rattle.gx_ports.specs.declared.kinds.LeafSpec.{LeafSpec}
use Rattle.gx_ports.specs.LeafMaps.{LeafMap, map_at}
use Rattle.gx_equation.specs.declared.heads.Head.TheVariants as heads
use Rattle.gx_equation.specs.Printing.{head_text}
use Rattle.gx_model.specs.States.{State, file_in, link_in}

-- what stands in the place of a leaf that isn't there
abbrev pub no_spec : LeafSpec
no_spec = record { kind = leaf.Heap; first = kind.Int; key_width = 0 }

-- the names of the definitions: those of the files, and then those of the links
abbrev pub definition_names : Schema → List (List ℕ)
definition_names schema =
    map (λ (f : FileDef). f.name) schema.files ++ map (λ (l : LinkDef). l.name) schema.links

-- of a leaf with this number, name and kind, with so many entries
abbrev pub leaf_text : ℕ → List ℕ → LeafKind → ℕ → List ℕ
leaf_text i name k entries =
    codes "leaf " ++ decimal i ++ codes " " ++ name ++ codes " " ++ head_text (heads.Leaf k)
    ++ codes " entries " ++ decimal entries ++ codes "\n"

abbrev pub file_count_text : List ℕ → ℕ → List ℕ
file_count_text name records = codes "file " ++ name ++ codes " records " ++ decimal records
    ++ codes "\n"

abbrev pub link_count_text : List ℕ → ℕ → List ℕ
link_count_text name members = codes "link " ++ name ++ codes " members " ++ decimal members
    ++ codes "\n"

-- the lines of the leaf, the file and the link with a number
abbrev pub leaf_line : Schema → List LeafSpec → List ℕ → List LeafMap → ℕ → List ℕ
leaf_line schema specs owners maps i =
    leaf_text i (slice_index_or (definition_names schema) (slice_index_or owners i 0) [])
    (slice_index_or specs i no_spec).kind (len (map_at maps i))

abbrev pub file_line : Schema → State → ℕ → List ℕ
file_line schema s i = file_count_text (file_at schema i).name (len (file_in s i))

abbrev pub link_line : Schema → State → ℕ → List ℕ
link_line schema s i = link_count_text (link_at schema i).name (len (link_in s i))

-- a line for each number below a count, in their order
abbrev pub lines_below : (ℕ → List ℕ) → ℕ → List ℕ
lines_below line zero = []
lines_below line (suc n) = lines_below line n ++ line n

-- the lines of the leaves, the files and the links of a database that stands for a state, and the
-- word that it does
abbrev pub inspect_text : Schema → List LeafSpec → List ℕ → List LeafMap → State → List ℕ
inspect_text schema specs owners maps s =
    lines_below (leaf_line schema specs owners maps) (length maps)
    ++ lines_below (file_line schema s) (length schema.files)
    ++ lines_below (link_line schema s) (length schema.links)
    ++ codes "sound\n"
