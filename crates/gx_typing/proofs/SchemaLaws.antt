-- A schema has few files and links.
use Rattle.std.proofs.Common.{◌≤◌, [], length, map, arith, length-append}
use Rattle.std.proofs.lemmas.List.{length-map}
use Rattle.gx_schema.specs.declared.schema.Schema.{Schema}
use Rattle.gx_schema.specs.Rules.{IsSchema}
use Rattle.gx_schema.proofs.WellFormedLaws.{files_few, links_few}
use Rattle.gx_typing.specs.Dues.{file_due, link_due, dues}

pub few_dues : (schema : Schema) → IsSchema schema → length (dues schema) ≤ 64
few_dues schema is =
    omega (
      arith,
      files_few [] schema.files is.files (omega arith),
      links_few schema.files [] schema.links is.links (omega arith),
      length-append (map file_due schema.files) (map (link_due schema.files) schema.links),
      length-map schema.files file_due,
      length-map schema.links (link_due schema.files),
    )
