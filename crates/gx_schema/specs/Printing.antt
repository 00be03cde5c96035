-- The canonical text of a schema.
use Rattle.std.specs.Prelude.{ℕ, zero, suc, List, [], ◌∷◌, ◌++◌, codes}
use Rattle.std.specs.Fmt.{decimal}
use Rattle.gx_values.specs.declared.records.Field.{Field}
use Rattle.gx_values.specs.declared.values.Kind.{Kind}
use Rattle.gx_values.specs.declared.values.Kind.TheVariants as kinds
use Rattle.gx_schema.specs.declared.schema.Schema.{Schema}
use Rattle.gx_schema.specs.declared.schema.FileDef.{FileDef}
use Rattle.gx_schema.specs.declared.schema.LinkDef.{LinkDef}

abbrev pub kind_text : Kind → List ℕ
kind_text kinds.Int = codes "int"
kind_text (kinds.Text n) = codes "text " ++ decimal n
kind_text (kinds.Bytes n) = []

abbrev pub field_text : Field → List ℕ
field_text f = f.name ++ 32 ∷ kind_text f.kind

-- with `, ` before each
abbrev pub more_fields_text : List Field → List ℕ
more_fields_text [] = []
more_fields_text (f ∷ fs) = codes ", " ++ field_text f ++ more_fields_text fs

-- with `, ` between them
abbrev pub fields_text : List Field → List ℕ
fields_text [] = []
fields_text (f ∷ fs) = field_text f ++ more_fields_text fs

-- `file NAME (FIELDS)` and an LF
abbrev pub file_text : FileDef → List ℕ
file_text f = codes "file " ++ f.name ++ codes " (" ++ fields_text f.fields ++ codes ")\n"

abbrev pub files_text : List FileDef → List ℕ
files_text [] = []
files_text (f ∷ fs) = file_text f ++ files_text fs

-- the name of the file of this number
abbrev pub name_at : List FileDef → ℕ → List ℕ
name_at [] number = []
name_at (f ∷ fs) zero = f.name
name_at (f ∷ fs) (suc number) = name_at fs number

-- `link NAME (OWNER, MEMBER)` and an LF
abbrev pub link_text : List FileDef → LinkDef → List ℕ
link_text files l =
    codes "link " ++ l.name ++ codes " (" ++ name_at files l.owner ++ codes ", "
    ++ name_at files l.member ++ codes ")\n"

abbrev pub links_text : List FileDef → List LinkDef → List ℕ
links_text files [] = []
links_text files (l ∷ ls) = link_text files l ++ links_text files ls

-- the files in their order, and then the links in theirs
abbrev pub schema_text : Schema → List ℕ
schema_text schema = files_text schema.files ++ links_text schema.files schema.links
