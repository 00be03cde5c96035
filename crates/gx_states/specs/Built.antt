-- The nodes that definitions mean.
use Rattle.std.specs.Prelude.{◌≡◌, ◌+◌, List, length}
use Rattle.gx_schema.specs.declared.schema.Schema.{Schema}
use Rattle.gx_equation.specs.Trees.{DefinitionTree}
use Rattle.gx_types.specs.Build.{AreTreesOfFiles, AreTreesOfLinks, file_leaf_count, all_leaf_count, link_definitions}
use Rattle.gx_types.specs.declared.built.Built.{Built}

-- the nodes of the files and of the links are what the definitions mean, and each of their leaves
-- has an owner
pub record IsBuiltOf (schema : Schema) (ds : List DefinitionTree) (built : Built) : Type 0 where
  pub files : AreTreesOfFiles 0 schema.files ds built.files
  pub links : AreTreesOfLinks schema.files (file_leaf_count schema.files ds) schema.links
      (link_definitions schema.files ds) built.links
  pub owned : length built.owners
      ≡ file_leaf_count schema.files ds + all_leaf_count (link_definitions schema.files ds)
