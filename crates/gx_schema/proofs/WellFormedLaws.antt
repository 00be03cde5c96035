-- What a schema that some text means has: few files, fields and links, a key in each file, and
-- links between its files.
use Rattle.std.proofs.Common.{ℕ, zero, suc, ◌+◌, ◌<◌, ◌≤◌, List, [], ◌∷◌, ◌++◌, length, get_or, arith, length-append}
use Rattle.gx_values.specs.declared.records.Field.{Field}
use Rattle.gx_schema.specs.declared.schema.FileDef.{FileDef}
use Rattle.gx_schema.specs.declared.schema.LinkDef.{LinkDef}
use Rattle.gx_schema.specs.declared.schema.Schema.{Schema}
use Rattle.gx_schema.specs.Lookups.{file_at, no_file, no_link}
use Rattle.gx_schema.specs.Rules.{AreFields, AreFiles, AreLinks, IsSchema}
use Rattle.gx_schema.specs.WellFormed.{HasEnds, IsWellFormed}

pub fields_few : (before fs : List Field) → AreFields before fs → length before ≤ 32
    → length before + length fs ≤ 32
fields_few before [] are few = omega arith
fields_few before (f ∷ fs) are few =
    omega (
      arith,
      fields_few (before ++ f ∷ []) fs are.1
          (omega (arith, are.0.room, length-append before (f ∷ []))),
      length-append before (f ∷ []),
    )

pub files_few : (before fs : List FileDef) → AreFiles before fs → length before ≤ 32
    → length before + length fs ≤ 32
files_few before [] are few = omega arith
files_few before (f ∷ fs) are few =
    omega (
      arith,
      files_few (before ++ f ∷ []) fs are.1
          (omega (arith, are.0.room, length-append before (f ∷ []))),
      length-append before (f ∷ []),
    )

pub links_few : (files : List FileDef) (before ls : List LinkDef) → AreLinks files before ls
    → length before ≤ 32 → length before + length ls ≤ 32
links_few files before [] are few = omega arith
links_few files before (l ∷ ls) are few =
    omega (
      arith,
      links_few files (before ++ l ∷ []) ls are.1
          (omega (arith, are.0.room, length-append before (l ∷ []))),
      length-append before (l ∷ []),
    )

pub few_files : (schema : Schema) → IsSchema schema → length schema.files ≤ 32
few_files schema is = omega (arith, files_few [] schema.files is.files (omega arith))

-- the rules of a file that don't speak of the files before it
pub record HasRules (f : FileDef) : Type 0 where
  pub some : 0 < length f.fields
  pub fields : AreFields [] f.fields

pub rules_at : (before fs : List FileDef) (i : ℕ) → AreFiles before fs → i < length fs
    → HasRules (get_or fs i no_file)
rules_at before [] i are lt = absurd (omega arith)
rules_at before (f ∷ fs) zero are lt = record { some = are.0.some; fields = are.0.fields }
rules_at before (f ∷ fs) (suc i) are lt = rules_at (before ++ f ∷ []) fs i are.1 (omega arith)

ends_at : (schema : Schema) (before ls : List LinkDef) (i : ℕ) → AreLinks schema.files before ls
    → i < length ls → HasEnds schema (get_or ls i no_link)
ends_at schema before [] i are lt = absurd (omega arith)
ends_at schema before (l ∷ ls) zero are lt = record { owner = are.0.owner; member = are.0.member }
ends_at schema before (l ∷ ls) (suc i) are lt =
    ends_at schema (before ++ l ∷ []) ls i are.1 (omega arith)

pub well_formed : (schema : Schema) → IsSchema schema → IsWellFormed schema
well_formed schema is = record {
  few_files = omega (arith, few_files schema is);
  few_links = omega (arith, links_few schema.files [] schema.links is.links (omega arith));
  files = λ i lt. let rules = rules_at [] schema.files i is.files lt in
      record {
        key = rules.some;
        few = omega (arith, fields_few [] (file_at schema i).fields rules.fields (omega arith));
      };
  links = λ i lt. ends_at schema [] schema.links i is.links lt;
}
