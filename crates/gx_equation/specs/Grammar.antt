-- The grammar of equations.
use Rattle.std.specs.Prelude.{◌≡◌, ℕ, zero, suc, ℤ, pos, ◌<◌, ◌≤◌, List, [], ◌∷◌, ◌++◌, length, codes}
use Rattle.std.specs.Int.RustNames.{FitsSigned}
use Rattle.std.specs.Int.{w64}
use Rattle.gx_tokens.specs.Grammar.{◌⨾◌, the}
use Rattle.gx_tokens.specs.Lexemes.{Word, Number, Quoted, Open, Close, Comma, Equals, End}
use Rattle.gx_tokens.specs.Numbers.{number_value}
use Rattle.gx_tokens.specs.Quotes.{doubled}
use Rattle.gx_values.specs.declared.values.Code.{Code}
use Rattle.gx_values.specs.declared.values.Code.TheVariants as code
use Rattle.gx_values.specs.declared.values.Value.{Value}
use Rattle.gx_values.specs.declared.values.Value.TheVariants as value
use Rattle.gx_ports.specs.declared.kinds.LeafKind.TheVariants as leaf
use Rattle.gx_equation.specs.declared.heads.Head.{Head}
use Rattle.gx_equation.specs.declared.heads.Head.TheVariants as heads
use Rattle.gx_equation.specs.declared.heads.Linkset.{Linkset}
use Rattle.gx_equation.specs.declared.heads.Linkset.TheVariants as linksets
use Rattle.gx_equation.specs.Definitions.{lines_of}
use Rattle.gx_equation.specs.Terms.{left_of}
use Rattle.gx_equation.specs.Trees.{TermTree, node, list_of, Arity, No_kids, One_kid, Two_kids, Some_kids, arity, linkset_arity, SideTree, file_side, link_side, DefinitionTree}

-- ---- names, numbers and bounds

-- some spelling of the number
abbrev pub NumberText : ℤ → List ℕ → List ℕ → Type 0
NumberText n bytes rest = (text : List ℕ) × (number_value text ≡ n) × the (Number text) bytes rest

-- a number from 1 to `most`
abbrev pub SizeText : ℕ → ℕ → List ℕ → List ℕ → Type 0
SizeText most n bytes rest = (0 < n) × (n ≤ most) × NumberText (pos n) bytes rest

abbrev pub NameText : List ℕ → List ℕ → List ℕ → Type 0
NameText name = the (Word name)

-- a number of 64 bits, or a quoted text, in which each quote stands twice
abbrev pub BoundText : Value → List ℕ → List ℕ → Type 0
BoundText (value.Int n) = λ bytes rest. FitsSigned w64 n × NumberText n bytes rest
BoundText (value.Text text) = the (Quoted (doubled text))
BoundText (value.Bytes b) = λ _ _. ⊥

-- items up to a comma
abbrev pub MoreText : {X : Type 0} → (X → List ℕ → List ℕ → Type 0) → List X → List ℕ → List ℕ
    → Type 0
MoreText Text [] = the Comma
MoreText Text (x ∷ xs) = Text x ⨾ MoreText Text xs

-- one or more of them
abbrev pub ItemsText : {X : Type 0} → (X → List ℕ → List ℕ → Type 0) → List X → List ℕ → List ℕ
    → Type 0
ItemsText Text [] = λ _ _. ⊥
ItemsText Text (x ∷ xs) = Text x ⨾ MoreText Text xs

-- ---- heads

abbrev pub code_word : Code → List ℕ
code_word code.Pack = codes "pack"
code_word code.Rle = codes "rle"

-- a head, and what stands before its first term
abbrev pub HeadText : Head → List ℕ → List ℕ → Type 0
HeadText (heads.Leaf leaf.Heap) = the (Word (codes "heap"))
HeadText (heads.Leaf (leaf.Hash n)) =
    the (Word (codes "hash")) ⨾ the Open ⨾ SizeText 64 n ⨾ the Close
HeadText (heads.Leaf leaf.Isam) = the (Word (codes "isam"))
HeadText (heads.Leaf leaf.Bplus) = the (Word (codes "bplus"))
HeadText heads.Actual = the (Word (codes "actual")) ⨾ the Open
HeadText (heads.Encode name code) =
    the (Word (codes "encode")) ⨾ the Open ⨾ NameText name ⨾ the (Word (code_word code)) ⨾ the Comma
HeadText (heads.Segment names) = the (Word (codes "segment")) ⨾ the Open ⨾ ItemsText NameText names
HeadText heads.Transpose = the (Word (codes "transpose")) ⨾ the Open
HeadText (heads.Partition name bounds) =
    the (Word (codes "partition")) ⨾ the Open ⨾ NameText name ⨾ ItemsText BoundText bounds
HeadText (heads.Divide n) = the (Word (codes "divide")) ⨾ the Open ⨾ SizeText 16000 n ⨾ the Comma
HeadText (heads.Index name) = the (Word (codes "index")) ⨾ the Open ⨾ NameText name ⨾ the Comma

abbrev pub linkset_word : Linkset → List ℕ
linkset_word linksets.Array = codes "array"
linkset_word linksets.Ring = codes "ring"
linkset_word linksets.Inverted = codes "inverted"

-- ---- terms

-- The text of a term, with the places of the heads before it, and those behind it, which end with
-- its own.
abbrev pub TextOf : Type 1
TextOf = TermTree → List ℕ → List ℕ → List ℕ → List ℕ → Type 0

-- terms with commas between them, up to the `)`
abbrev pub ListText : TextOf → List TermTree → List ℕ → List ℕ → List ℕ → List ℕ → Type 0
ListText Text [] before after = λ _ _. ⊥
ListText Text (t ∷ []) before after = Text t before after ⨾ the Close
ListText Text (t ∷ u ∷ us) before after =
    λ bytes rest. (mid : List ℕ)
    × (Text t before mid ⨾ the Comma ⨾ ListText Text (u ∷ us) mid after) bytes rest

-- so many terms
abbrev pub KidsText : TextOf → Arity → List TermTree → List ℕ → List ℕ → List ℕ → List ℕ → Type 0
KidsText Text No_kids ts before after = λ bytes rest. (ts ≡ []) × (before ≡ after) × (bytes ≡ rest)
KidsText Text One_kid ts before after =
    λ bytes rest. (length ts ≡ 1) × ListText Text ts before after bytes rest
KidsText Text Two_kids ts before after =
    λ bytes rest. (length ts ≡ 2) × ListText Text ts before after bytes rest
KidsText Text Some_kids ts before after = ListText Text ts before after

-- A term of at most so many levels of heads: the place of its head comes behind those before, and
-- then those of its terms.
abbrev pub TermText : ℕ → TextOf
TermText zero t before after = λ _ _. ⊥
TermText (suc levels) (node top kids) before after =
    λ bytes rest.
    (HeadText top ⨾ KidsText (TermText levels) (arity top) (list_of kids)
    (before ++ left_of bytes ∷ []) after) bytes rest

-- ---- definitions

-- the head of a link's side counts as a level
abbrev pub SideText : SideTree → List ℕ → List ℕ → List ℕ → List ℕ → Type 0
SideText (file_side t) before after = TermText 16 t before after
SideText (link_side linkset ts) before after =
    λ bytes rest.
    (the (Word (linkset_word linkset)) ⨾ the Open ⨾ KidsText (TermText 15)
    (linkset_arity linkset) ts (before ++ left_of bytes ∷ []) after) bytes rest

abbrev pub DefinitionText : DefinitionTree → List ℕ → List ℕ → List ℕ → List ℕ → Type 0
DefinitionText d before after =
    λ bytes rest.
    (NameText d.name ⨾ the Equals ⨾ SideText d.side (before ++ left_of bytes ∷ []) after) bytes rest

-- definitions up to the end of the text
abbrev pub DefinitionsText : List DefinitionTree → List ℕ → List ℕ → List ℕ → List ℕ → Type 0
DefinitionsText [] before after = λ bytes rest. (before ≡ after) × the End bytes rest
DefinitionsText (d ∷ ds) before after =
    λ bytes rest. (mid : List ℕ)
    × (DefinitionText d before mid ⨾ DefinitionsText ds mid after) bytes rest

-- The text of one or more definitions, in which their names and heads stand at these places.
pub record EquationText (ds : List DefinitionTree) (places bytes : List ℕ) : Type 0 where
  pub some : 0 < length ds
  pub text : DefinitionsText ds [] places bytes []

-- The text is that of these definitions, and these are the lines of their names and heads, and then
-- the text's last line.
pub record Means (bytes : List ℕ) (meaning : List DefinitionTree × List ℕ) : Type 0 where
  pub places : List ℕ
  pub text : EquationText meaning.0 places bytes
  pub lines : meaning.1 ≡ lines_of bytes places
