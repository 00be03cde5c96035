-- What every schema has that a text means.
use Rattle.std.specs.Prelude.{◌<◌, ◌^◌, length, EachIndex}
use Rattle.gx_schema.specs.declared.schema.FileDef.{FileDef}
use Rattle.gx_schema.specs.declared.schema.LinkDef.{LinkDef}
use Rattle.gx_schema.specs.declared.schema.Schema.{Schema}
use Rattle.gx_schema.specs.Lookups.{file_at, link_at}

-- the file has a key, and each field a number of 16 bits
pub record HasFields (file : FileDef) : Type 0 where
  pub key : 0 < length file.fields
  pub few : length file.fields < 2 ^ 16

-- the link is between files of the schema
pub record HasEnds (schema : Schema) (link : LinkDef) : Type 0 where
  pub owner : link.owner < length schema.files
  pub member : link.member < length schema.files

-- each file has a key, each link has its two files, and files, links and fields have numbers of 16
-- bits
pub record IsWellFormed (schema : Schema) : Type 0 where
  pub few_files : length schema.files < 2 ^ 16
  pub few_links : length schema.links < 2 ^ 16
  pub files : EachIndex schema.files (λ i. HasFields (file_at schema i))
  pub links : EachIndex schema.links (λ i. HasEnds schema (link_at schema i))
