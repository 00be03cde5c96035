-- What is to be defined, in its order.
use Rattle.std.specs.Prelude.{List, ◌++◌, map, take, slice_index_or}
use Rattle.gx_values.specs.declared.records.Form.{Form}
use Rattle.gx_values.specs.declared.values.Kind.{Kind}
use Rattle.gx_schema.specs.declared.schema.FileDef.{FileDef}
use Rattle.gx_schema.specs.declared.schema.LinkDef.{LinkDef}
use Rattle.gx_schema.specs.declared.schema.Schema.{Schema}
use Rattle.gx_schema.specs.Lookups.{key_kind, data_fields, no_file}
use Rattle.gx_typing.specs.declared.dues.Due.{Due}
use Rattle.gx_typing.specs.declared.dues.Stored.TheVariants as stored

-- the first field is the key
abbrev pub file_form : FileDef → Form
file_form file = record { keys = take 1 file.fields; fields = data_fields file }

abbrev pub file_due : FileDef → Due
file_due file = record { name = file.name; stored = stored.File (file_form file) }

-- the kinds of the keys of a link's owner file and of its member file
abbrev pub owner_kind : List FileDef → LinkDef → Kind
owner_kind files link = key_kind (slice_index_or files link.owner no_file)

abbrev pub member_kind : List FileDef → LinkDef → Kind
member_kind files link = key_kind (slice_index_or files link.member no_file)

abbrev pub link_due : List FileDef → LinkDef → Due
link_due files link =
    record
    { name = link.name; stored = stored.Link (owner_kind files link) (member_kind files link) }

-- the files, and then the links
abbrev pub dues : Schema → List Due
dues schema = map file_due schema.files ++ map (link_due schema.files) schema.links
