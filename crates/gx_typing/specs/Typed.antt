-- Which equations are typed under a schema, by cases on the heads, and the leaves that they have.
use Rattle.std.specs.Prelude.{◌≡◌, ℕ, suc, ◌+◌, ◌<◌, ◌≤◌, ◌⊎◌, false, List, [], ◌∷◌, ◌++◌, length, map, Some, None, IsTrue}
use Rattle.std.specs.List.{list_all, AllByRecursion}
use Rattle.std.specs.declared.cmp.Ordering.TheVariants.{Less}
use Rattle.gx_values.specs.Keys.{widths, IsKeyKind}
use Rattle.gx_values.specs.Values.{value_cmp, is_printable, kind_in}
use Rattle.gx_values.specs.declared.bytes.TheConstants.{MAX_KEY_LEN}
use Rattle.gx_values.specs.declared.values.Code.{Code}
use Rattle.gx_values.specs.declared.values.Code.TheVariants as code
use Rattle.gx_values.specs.declared.values.Kind.{Kind}
use Rattle.gx_values.specs.declared.values.Kind.TheVariants as kinds
use Rattle.gx_values.specs.declared.values.Value.{Value}
use Rattle.gx_values.specs.declared.values.Value.TheVariants as values
use Rattle.gx_values.specs.declared.records.Field.{Field}
use Rattle.gx_values.specs.declared.records.Form.{Form}
use Rattle.gx_ports.specs.declared.leaves.TheConstants.{MAX_ENTRY_LEN}
use Rattle.gx_ports.specs.declared.kinds.LeafSpec.{LeafSpec}
use Rattle.gx_schema.specs.declared.schema.Schema.{Schema}
use Rattle.gx_equation.specs.declared.heads.Head.{Head}
use Rattle.gx_equation.specs.declared.heads.Head.TheVariants as heads
use Rattle.gx_equation.specs.Trees.{TermTree, Trees, node, none, kid, kids_from, SideTree, file_side, link_side, DefinitionTree}
use Rattle.gx_typing.specs.declared.dues.Due.{Due}
use Rattle.gx_typing.specs.declared.dues.Stored.{Stored}
use Rattle.gx_typing.specs.declared.dues.Stored.TheVariants as stored
use Rattle.gx_typing.specs.declared.typing.Typing.{Typing}
use Rattle.gx_typing.specs.Dues.{dues}
use Rattle.gx_forms.specs.Fields.{has_name}
use Rattle.gx_forms.specs.Forms.{kid_form, link_form, others_form}
use Rattle.gx_typing.specs.Leaves.{leaf_spec}
use Rattle.gx_typing.specs.Typing.{count}
use Rattle.gx_ports.specs.declared.kinds.TheConstants.{MAX_LEAVES}

-- ---- fields

-- a data field of this kind has the name, and no key field has it
pub record IsDataField (form : Form) (name : List ℕ) (kind : Kind) : Type 0 where
  pub no_key : kind_in form.keys name ≡ None
  pub is : kind_in form.fields name ≡ Some kind

-- keys before data
abbrev pub IsField : Form → List ℕ → Kind → Type 0
IsField form name kind = (kind_in form.keys name ≡ Some kind) ⊎ IsDataField form name kind

-- names of data fields, each once
abbrev pub AreDataFields : Form → List (List ℕ) → Type 0
AreDataFields form [] = Unit {0}
AreDataFields form (name ∷ names) =
    ((kind : Kind) × IsDataField form name kind) × (has_name names name ≡ false)
    × AreDataFields form names

-- `pack` for an int, `rle` for a text
abbrev pub IsCodeFor : Code → Kind → Type 0
IsCodeFor code.Pack kinds.Int = Unit {0}
IsCodeFor code.Rle (kinds.Text most) = Unit {0}
IsCodeFor code other = ⊥

-- every int fits an int; a text fits a text that is long enough for it
abbrev pub IsBoundFor : Kind → Value → Type 0
IsBoundFor kinds.Int (values.Int n) = Unit {0}
IsBoundFor (kinds.Text most) (values.Text text) =
    (length text ≤ most) × IsTrue (list_all is_printable text)
IsBoundFor kind other = ⊥

abbrev pub AscendStrictly : List Value → Type 0
AscendStrictly [] = Unit {0}
AscendStrictly (b ∷ []) = Unit {0}
AscendStrictly (b ∷ c ∷ bs) = (value_cmp b c ≡ Less) × AscendStrictly (c ∷ bs)

-- no field, which has no bytes, or one field of so many bytes
abbrev pub IsLeafData : List Field → ℕ → Type 0
IsLeafData [] n = n ≡ 0
IsLeafData (f ∷ []) n = f.kind ≡ kinds.Bytes n
IsLeafData (f ∷ g ∷ fs) n = ⊥

abbrev pub IsOneBytes : List Field → Type 0
IsOneBytes [] = ⊥
IsOneBytes (f ∷ []) = (n : ℕ) × (f.kind ≡ kinds.Bytes n)
IsOneBytes (f ∷ g ∷ fs) = ⊥

-- ---- heads: the conditions on the form and on the number of children

pub record IsLeaf (form : Form) : Type 0 where
  pub bytes : ℕ
  pub fields : IsLeafData form.fields bytes
  pub key : widths form.keys ≤ MAX_KEY_LEN
  pub entry : widths form.keys + bytes ≤ MAX_ENTRY_LEN

pub record IsEncoded (name : List ℕ) (code : Code) (form : Form) : Type 0 where
  pub kind : Kind
  pub field : IsDataField form name kind
  pub coded : IsCodeFor code kind

pub record IsSegmented (names : List (List ℕ)) (form : Form) : Type 0 where
  pub named : AreDataFields form names
  pub others : 0 < length (others_form names form).fields

pub record IsTransposed (form : Form) (kids : ℕ) : Type 0 where
  pub some : 0 < length form.fields
  pub each : kids ≡ length form.fields

pub record IsPartitioned (name : List ℕ) (bounds : List Value) (form : Form)
    (kids : ℕ) : Type 0 where
  pub kind : Kind
  pub field : IsField form name kind
  pub key_kind : IsKeyKind kind
  pub fit : AllByRecursion (IsBoundFor kind) bounds
  pub ascend : AscendStrictly bounds
  pub each : kids ≡ suc (length bounds)

pub record IsIndexed (name : List ℕ) (form : Form) : Type 0 where
  pub kind : Kind
  pub field : IsDataField form name kind
  pub key_kind : IsKeyKind kind

abbrev pub IsMet : Head → Form → ℕ → Type 0
IsMet (heads.Leaf kind) form kids = IsLeaf form
IsMet heads.Actual form kids = Unit {0}
IsMet (heads.Encode name code) form kids = IsEncoded name code form
IsMet (heads.Segment names) form kids = IsSegmented names form
IsMet heads.Transpose form kids = IsTransposed form kids
IsMet (heads.Partition name bounds) form kids = IsPartitioned name bounds form kids
IsMet (heads.Divide size) form kids = IsOneBytes form.fields
IsMet (heads.Index name) form kids = IsIndexed name form

-- ---- terms

-- the head's condition is met, and each child is typed at the form that the head gives it
abbrev mutual
  pub IsTypedTerm : Form → TermTree → Type 0
  IsTypedTerm form (node top kids) =
      IsMet top form (count kids) × AreTypedTerms (kid_form top form) 0 kids

  -- the first of the children has this number
  pub AreTypedTerms : (ℕ → Form) → ℕ → Trees → Type 0
  AreTypedTerms forms i none = Unit {0}
  AreTypedTerms forms i (kid t ts) = IsTypedTerm (forms i) t × AreTypedTerms forms (suc i) ts

-- a leaf, and the number of the definition that it stands in
pub record Leaf : Type 0 where
  pub owner : ℕ
  pub spec : LeafSpec

abbrev pub leaf_here : ℕ → Head → Form → List Leaf
leaf_here owner (heads.Leaf kind) form = record { owner = owner; spec = leaf_spec kind form } ∷ []
leaf_here owner other form = []

abbrev mutual
  pub leaves_of : ℕ → Form → TermTree → List Leaf
  leaves_of owner form (node top kids) =
      leaf_here owner top form ++ leaves_of_kids owner (kid_form top form) 0 kids

  pub leaves_of_kids : ℕ → (ℕ → Form) → ℕ → Trees → List Leaf
  leaves_of_kids owner forms i none = []
  leaves_of_kids owner forms i (kid t ts) =
      leaves_of owner (forms i) t ++ leaves_of_kids owner forms (suc i) ts

-- ---- definitions

-- a file has the side of a file, a link that of a link
abbrev pub IsTypedSide : Stored → SideTree → Type 0
IsTypedSide (stored.File form) (file_side t) = IsTypedTerm form t
IsTypedSide (stored.File form) (link_side linkset ts) = ⊥
IsTypedSide (stored.Link o m) (file_side t) = ⊥
IsTypedSide (stored.Link o m) (link_side linkset ts) =
    AreTypedTerms (link_form linkset o m) 0 (kids_from ts)

abbrev pub leaves_of_side : ℕ → Stored → SideTree → List Leaf
leaves_of_side owner (stored.File form) (file_side t) = leaves_of owner form t
leaves_of_side owner (stored.File form) (link_side linkset ts) = []
leaves_of_side owner (stored.Link o m) (file_side t) = []
leaves_of_side owner (stored.Link o m) (link_side linkset ts) =
    leaves_of_kids owner (link_form linkset o m) 0 (kids_from ts)

-- one definition for each that is due, in their order
abbrev pub AreTyped : List Due → List DefinitionTree → Type 0
AreTyped [] [] = Unit {0}
AreTyped (due ∷ dues) [] = ⊥
AreTyped [] (d ∷ ds) = ⊥
AreTyped (due ∷ dues) (d ∷ ds) =
    (due.name ≡ d.name) × IsTypedSide due.stored d.side × AreTyped dues ds

abbrev pub leaves_of_all : ℕ → List Due → List DefinitionTree → List Leaf
leaves_of_all owner [] ds = []
leaves_of_all owner (due ∷ dues) [] = []
leaves_of_all owner (due ∷ dues) (d ∷ ds) =
    leaves_of_side owner due.stored d.side ++ leaves_of_all (suc owner) dues ds

-- the leaves of an equation, from left to right
abbrev pub leaves : Schema → List DefinitionTree → List Leaf
leaves schema ds = leaves_of_all 0 (dues schema) ds

pub record IsTyped (schema : Schema) (ds : List DefinitionTree) : Type 0 where
  pub definitions : AreTyped (dues schema) ds
  pub few : length (leaves schema ds) ≤ MAX_LEAVES

abbrev pub owner_of : Leaf → ℕ
owner_of leaf = leaf.owner

abbrev pub spec_of : Leaf → LeafSpec
spec_of leaf = leaf.spec

-- a typing has these leaves
abbrev pub typing_with : List Leaf → Typing
typing_with ls = record { specs = map spec_of ls; owners = map owner_of ls }
