-- Files, links and fields of a schema by their numbers, counted from 0.
use Rattle.std.specs.Prelude.{ℕ, List, [], drop, slice_index_or}
use Rattle.gx_values.specs.declared.values.Kind.{Kind}
use Rattle.gx_values.specs.declared.values.Kind.TheVariants as kind
use Rattle.gx_values.specs.declared.records.Field.{Field}
use Rattle.gx_values.specs.Values.{no_field}
use Rattle.gx_schema.specs.declared.schema.FileDef.{FileDef}
use Rattle.gx_schema.specs.declared.schema.LinkDef.{LinkDef}
use Rattle.gx_schema.specs.declared.schema.Schema.{Schema}

-- what stands in the place of a file, a link or a field that isn't there; none of them is in any
-- schema
abbrev pub no_file : FileDef
no_file = record { name = []; fields = [] }

abbrev pub no_link : LinkDef
no_link = record { name = []; owner = 0; member = 0 }

abbrev pub file_at : Schema → ℕ → FileDef
file_at schema i = slice_index_or schema.files i no_file

abbrev pub link_at : Schema → ℕ → LinkDef
link_at schema i = slice_index_or schema.links i no_link

abbrev pub field_at : FileDef → ℕ → Field
field_at file i = slice_index_or file.fields i no_field

-- the kind of the file's key, its first field
abbrev pub key_kind : FileDef → Kind
key_kind file = (field_at file 0).kind

-- the fields other than the key
abbrev pub data_fields : FileDef → List Field
data_fields file = drop 1 file.fields
