-- The rules of schemas: names, sizes and numbers of things.
use Rattle.std.specs.Prelude.{◌≡◌, ℕ, ◌<◌, ◌≤◌, Bool, true, false, List, [], ◌∷◌, ◌++◌, length, ◌==◌}
use Rattle.gx_tokens.specs.Spelling.{IsWord}
use Rattle.gx_values.specs.declared.records.Field.{Field}
use Rattle.gx_values.specs.declared.values.Kind.{Kind}
use Rattle.gx_values.specs.declared.values.Kind.TheVariants as kinds
use Rattle.gx_schema.specs.declared.schema.Schema.{Schema}
use Rattle.gx_schema.specs.declared.schema.FileDef.{FileDef}
use Rattle.gx_schema.specs.declared.schema.LinkDef.{LinkDef}
use Rattle.gx_schema.specs.Names.{starts_with_letter, has_field, has_file, has_link}

-- a word that begins with a letter
pub record IsName (name : List ℕ) : Type 0 where
  pub word : IsWord name
  pub letter : starts_with_letter name ≡ true

-- ints, or texts of 1 to 200 bytes, and of at most 100 in the first field
abbrev pub IsKind : Bool → Kind → Type 0
IsKind first kinds.Int = Unit {0}
IsKind first (kinds.Text n) = (0 < n) × (n ≤ 200) × (first ≡ true → n ≤ 100)
IsKind first (kinds.Bytes n) = ⊥

-- a field that may stand behind those before it: one more, of a new name
pub record IsField (before : List Field) (f : Field) : Type 0 where
  pub name : IsName f.name
  pub new : has_field before f.name ≡ false
  pub room : length before < 32
  pub kind : IsKind (length before == 0) f.kind

abbrev pub AreFields : List Field → List Field → Type 0
AreFields before [] = Unit {0}
AreFields before (f ∷ fs) = IsField before f × AreFields (before ++ f ∷ []) fs

-- likewise a file, with one field or more
pub record IsFile (before : List FileDef) (f : FileDef) : Type 0 where
  pub name : IsName f.name
  pub new : has_file before f.name ≡ false
  pub room : length before < 32
  pub some : 0 < length f.fields
  pub fields : AreFields [] f.fields

abbrev pub AreFiles : List FileDef → List FileDef → Type 0
AreFiles before [] = Unit {0}
AreFiles before (f ∷ fs) = IsFile before f × AreFiles (before ++ f ∷ []) fs

-- likewise a link between two of the files, which may be the same one
pub record IsLink (files : List FileDef) (before : List LinkDef) (l : LinkDef) : Type 0 where
  pub name : IsName l.name
  pub no_file : has_file files l.name ≡ false
  pub new : has_link before l.name ≡ false
  pub room : length before < 32
  pub owner : l.owner < length files
  pub member : l.member < length files

abbrev pub AreLinks : List FileDef → List LinkDef → List LinkDef → Type 0
AreLinks files before [] = Unit {0}
AreLinks files before (l ∷ ls) = IsLink files before l × AreLinks files (before ++ l ∷ []) ls

-- a schema that some text means
pub record IsSchema (schema : Schema) : Type 0 where
  pub some : 0 < length schema.files
  pub files : AreFiles [] schema.files
  pub links : AreLinks schema.files [] schema.links
