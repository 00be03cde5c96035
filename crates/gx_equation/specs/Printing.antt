-- Canonical texts, and the definitions that have one.
use Rattle.std.specs.Prelude.{◌≡◌, ℕ, zero, suc, ◌<◌, ◌≤◌, List, [], ◌∷◌, ◌++◌, length, codes, IsTrue}
use Rattle.std.specs.Fmt.{decimal, signed_decimal}
use Rattle.std.specs.Int.RustNames.{FitsSigned}
use Rattle.std.specs.Int.{w64}
use Rattle.std.specs.List.{AllByRecursion, flat_map}
use Rattle.gx_tokens.specs.Lexemes.{is_printable}
use Rattle.gx_tokens.specs.Quotes.{quoted_text}
use Rattle.gx_tokens.specs.Spelling.{IsWord}
use Rattle.gx_values.specs.declared.values.Value.{Value}
use Rattle.gx_values.specs.declared.values.Value.TheVariants as value
use Rattle.gx_ports.specs.declared.kinds.LeafKind.TheVariants as leaf
use Rattle.gx_equation.specs.declared.heads.Head.{Head}
use Rattle.gx_equation.specs.declared.heads.Head.TheVariants as heads
use Rattle.gx_equation.specs.Grammar.{code_word, linkset_word}
use Rattle.gx_equation.specs.Trees.{TermTree, Trees, node, none, kid, kids_from, list_of, Arity, No_kids, One_kid, Two_kids, Some_kids, arity, linkset_arity, SideTree, file_side, link_side, DefinitionTree}

abbrev pub bound_text : Value → List ℕ
bound_text (value.Int n) = signed_decimal n
bound_text (value.Text text) = quoted_text text
bound_text (value.Bytes b) = []

-- items with a space before each, and a comma behind them
abbrev pub spaced : {X : Type 0} → (X → List ℕ) → List X → List ℕ
spaced text [] = codes ", "
spaced text (x ∷ xs) = 32 ∷ text x ++ spaced text xs

abbrev pub names_text : List (List ℕ) → List ℕ
names_text [] = codes ", "
names_text (n ∷ ns) = n ++ spaced (λ name. name) ns

-- a head, and what stands before its first term
abbrev pub head_text : Head → List ℕ
head_text (heads.Leaf leaf.Heap) = codes "heap"
head_text (heads.Leaf (leaf.Hash n)) = codes "hash(" ++ decimal n ++ codes ")"
head_text (heads.Leaf leaf.Isam) = codes "isam"
head_text (heads.Leaf leaf.Bplus) = codes "bplus"
head_text heads.Actual = codes "actual("
head_text (heads.Encode name code) = codes "encode(" ++ name ++ 32 ∷ code_word code ++ codes ", "
head_text (heads.Segment names) = codes "segment(" ++ names_text names
head_text heads.Transpose = codes "transpose("
head_text (heads.Partition name bounds) = codes "partition(" ++ name ++ spaced bound_text bounds
head_text (heads.Divide n) = codes "divide(" ++ decimal n ++ codes ", "
head_text (heads.Index name) = codes "index(" ++ name ++ codes ", "

-- the terms' text, where the head has terms
abbrev pub if_kids : Arity → List ℕ → List ℕ
if_kids No_kids text = []
if_kids other text = text

abbrev mutual
  pub term_text : TermTree → List ℕ
  term_text (node top kids) = head_text top ++ if_kids (arity top) (list_text kids)

  -- terms with commas between them, up to the `)`
  pub list_text : Trees → List ℕ
  list_text none = codes ")"
  list_text (kid t ts) = term_text t ++ more_text ts

  pub more_text : Trees → List ℕ
  more_text none = codes ")"
  more_text (kid t ts) = codes ", " ++ term_text t ++ more_text ts

abbrev pub side_text : SideTree → List ℕ
side_text (file_side t) = term_text t
side_text (link_side linkset ts) = linkset_word linkset ++ 40 ∷ list_text (kids_from ts)

abbrev pub definition_text : DefinitionTree → List ℕ
definition_text d = d.name ++ codes " = " ++ side_text d.side ++ 10 ∷ []

-- The canonical text: one definition a line.
abbrev pub equation_text : List DefinitionTree → List ℕ
equation_text ds = flat_map definition_text ds

-- ---- what has a text

abbrev pub IsBound : Value → Type 0
IsBound (value.Int n) = FitsSigned w64 n
IsBound (value.Text text) = AllByRecursion (λ b. IsTrue (is_printable b)) text
IsBound (value.Bytes b) = ⊥

-- a head whose names are words, and whose numbers are within their ranges
abbrev pub IsHead : Head → Type 0
IsHead (heads.Leaf leaf.Heap) = Unit {0}
IsHead (heads.Leaf (leaf.Hash n)) = (0 < n) × (n ≤ 64)
IsHead (heads.Leaf leaf.Isam) = Unit {0}
IsHead (heads.Leaf leaf.Bplus) = Unit {0}
IsHead heads.Actual = Unit {0}
IsHead (heads.Encode name code) = IsWord name
IsHead (heads.Segment names) = (0 < length names) × AllByRecursion IsWord names
IsHead heads.Transpose = Unit {0}
IsHead (heads.Partition name bounds) =
    IsWord name × (0 < length bounds) × AllByRecursion IsBound bounds
IsHead (heads.Divide n) = (0 < n) × (n ≤ 16000)
IsHead (heads.Index name) = IsWord name

-- so many terms as a head has
abbrev pub IsCount : Arity → List TermTree → Type 0
IsCount No_kids ts = ts ≡ []
IsCount One_kid ts = length ts ≡ 1
IsCount Two_kids ts = length ts ≡ 2
IsCount Some_kids ts = 0 < length ts

-- a term of at most so many levels of heads
abbrev pub IsTerm : ℕ → TermTree → Type 0
IsTerm zero t = ⊥
IsTerm (suc levels) (node top kids) =
    IsHead top × IsCount (arity top) (list_of kids) × AllByRecursion (IsTerm levels) (list_of kids)

-- the head of a link's side counts as a level
abbrev pub IsSide : SideTree → Type 0
IsSide (file_side t) = IsTerm 16 t
IsSide (link_side linkset ts) = IsCount (linkset_arity linkset) ts × AllByRecursion (IsTerm 15) ts

pub record IsDefinition (d : DefinitionTree) : Type 0 where
  pub name : IsWord d.name
  pub side : IsSide d.side

-- Some text means these definitions: there is one, and each is one that a text can mean.
pub record AreWritten (ds : List DefinitionTree) : Type 0 where
  pub some : 0 < length ds
  pub each : AllByRecursion IsDefinition ds
