-- The grammar of a schema's text, apart from how it is read.
use Rattle.std.specs.Prelude.{◌≡◌, ℕ, ◌<◌, false, List, [], ◌∷◌, length, Some, codes}
use Rattle.gx_tokens.specs.Grammar.{◌⨾◌, the}
use Rattle.gx_tokens.specs.Lexemes.{Word, Number, Open, Close, Comma, End}
use Rattle.gx_tokens.specs.Numbers.{number_value, natural_up_to}
use Rattle.gx_values.specs.declared.records.Field.{Field}
use Rattle.gx_values.specs.declared.values.Kind.{Kind}
use Rattle.gx_values.specs.declared.values.Kind.TheVariants as kinds
use Rattle.gx_schema.specs.declared.schema.Schema.{Schema}
use Rattle.gx_schema.specs.declared.schema.FileDef.{FileDef}
use Rattle.gx_schema.specs.declared.schema.LinkDef.{LinkDef}
use Rattle.gx_schema.specs.declared.item.Item.{Item}
use Rattle.gx_schema.specs.declared.item.Item.TheVariants as items
use Rattle.gx_schema.specs.Items.{with_item, with_items, no_schema}
use Rattle.gx_schema.specs.Names.{has_link, file_position}
use Rattle.gx_schema.specs.Rules.{IsFile, IsLink}

-- a number token that is the size
abbrev pub KindSizeText : ℕ → List ℕ → List ℕ → Type 0
KindSizeText n bytes rest =
    (text : List ℕ) × (natural_up_to 200 (number_value text) ≡ Some n)
    × the (Number text) bytes rest

-- "int" | "text" NUMBER
abbrev pub KindText : Kind → List ℕ → List ℕ → Type 0
KindText kinds.Int = the (Word (codes "int"))
KindText (kinds.Text n) = the (Word (codes "text")) ⨾ KindSizeText n
KindText (kinds.Bytes n) = λ _ _. ⊥

abbrev pub FieldText : Field → List ℕ → List ℕ → Type 0
FieldText f = the (Word f.name) ⨾ KindText f.kind

-- field {"," field}
abbrev pub FieldsText : List Field → List ℕ → List ℕ → Type 0
FieldsText [] = λ _ _. ⊥
FieldsText (f ∷ []) = FieldText f
FieldsText (f ∷ g ∷ fs) = FieldText f ⨾ the Comma ⨾ FieldsText (g ∷ fs)

-- "file" NAME "(" field {"," field} ")"
abbrev pub FileText : FileDef → List ℕ → List ℕ → Type 0
FileText f =
    the (Word (codes "file")) ⨾ the (Word f.name) ⨾ the Open ⨾ FieldsText f.fields ⨾ the Close

-- the name of the file of this number
abbrev pub FileNameText : List FileDef → ℕ → List ℕ → List ℕ → Type 0
FileNameText files number bytes rest =
    (name : List ℕ) × (file_position files name ≡ Some number) × the (Word name) bytes rest

-- "link" NAME "(" NAME "," NAME ")"
abbrev pub LinkText : List FileDef → LinkDef → List ℕ → List ℕ → Type 0
LinkText files l =
    the (Word (codes "link")) ⨾ the
    (Word l.name) ⨾ the Open ⨾ FileNameText files l.owner ⨾ the Comma ⨾ FileNameText files l.member
    ⨾ the
    Close

abbrev pub ItemText : Schema → Item → List ℕ → List ℕ → Type 0
ItemText before (items.File f) = FileText f
ItemText before (items.Link l) = LinkText before.files l

-- {item}, up to the end; a link names files that stand before it
abbrev pub ItemsToEnd : Schema → List Item → List ℕ → List ℕ → Type 0
ItemsToEnd before [] = the End
ItemsToEnd before (i ∷ is) = ItemText before i ⨾ ItemsToEnd (with_item before i) is

-- a file or a link that may stand behind those before it
abbrev pub IsItem : Schema → Item → Type 0
IsItem before (items.File f) = IsFile before.files f × (has_link before.links f.name ≡ false)
IsItem before (items.Link l) = IsLink before.files before.links l

abbrev pub AreItems : Schema → List Item → Type 0
AreItems before [] = Unit {0}
AreItems before (i ∷ is) = IsItem before i × AreItems (with_item before i) is

-- the text lists the files and links of the schema, one file at least, and breaks no rule
pub record IsSchemaText (bytes : List ℕ) (schema : Schema) : Type 0 where
  pub listed : List Item
  pub rest : List ℕ
  pub text : ItemsToEnd no_schema listed bytes rest
  pub rules : AreItems no_schema listed
  pub whole : schema ≡ with_items no_schema listed
  pub some : 0 < length schema.files
