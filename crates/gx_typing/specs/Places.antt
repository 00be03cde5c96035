-- The places of an equation in the order of its text, and the first that fails.
use Rattle.std.specs.Prelude.{◌≡◌, ℕ, suc, ◌+◌, ◌⊎◌, nat_lt, nat_eq, List, [], ◌∷◌, ◌++◌, Result, Ok, Err}
use Rattle.std.specs.Cmp.Lexicographic.{pointwise}
use Rattle.gx_values.specs.declared.records.Form.{Form}
use Rattle.gx_schema.specs.declared.schema.Schema.{Schema}
use Rattle.gx_equation.specs.declared.heads.Head.{Head}
use Rattle.gx_equation.specs.declared.heads.Head.TheVariants as heads
use Rattle.gx_equation.specs.Trees.{TermTree, Trees, node, none, kid, kids_from, SideTree, file_side, link_side, DefinitionTree}
use Rattle.gx_typing.specs.declared.reasons.TypeWhy.{TypeWhy}
use Rattle.gx_typing.specs.declared.reasons.TypeWhy.TheVariants as why
use Rattle.gx_typing.specs.declared.dues.Due.{Due}
use Rattle.gx_typing.specs.declared.dues.Stored.{Stored}
use Rattle.gx_typing.specs.declared.dues.Stored.TheVariants as stored
use Rattle.gx_typing.specs.Dues.{dues}
use Rattle.gx_forms.specs.Forms.{kid_form, link_form}
use Rattle.gx_typing.specs.Rows.{◌>>=◌, tested, row}
use Rattle.gx_typing.specs.Typing.{here, other_lines, count}

pub data Place : Type 0 where
  -- the name of a definition, and the name that is due
  a_name : (due : List ℕ) → (given : List ℕ) → Place
  -- the name of a definition where none is due
  a_name_more : Place
  -- the end of the text where a name is due
  an_end : Place
  -- the first head of a link's side for a file, or of a file's side for a link
  other_side : Place
  -- the head of a link's side for a link
  link_head : Place
  -- a head of a term with the form that it gets and its number of children
  a_head : (head : Head) → (form : Form) → (kids : ℕ) → Place

abbrev pub leaves_at : Head → ℕ
leaves_at (heads.Leaf kind) = 1
leaves_at other = 0

-- how many leaves the place is
abbrev pub leaves_of_place : Place → ℕ
leaves_of_place (a_head top form kids) = leaves_at top
leaves_of_place other = 0

-- a leaf is one of at most 255
abbrev pub leaf_test : ℕ → Head → Result (Unit {0}) TypeWhy
leaf_test before (heads.Leaf kind) = tested why.Leaves (nat_lt before 255)
leaf_test before other = Ok tt

-- what a place behind so many leaves asks, in the order of the reasons
abbrev pub asked : ℕ → Place → Result (Unit {0}) TypeWhy
asked before (a_name due given) = tested why.Definition (pointwise nat_eq due given)
asked before a_name_more = Err why.Definition
asked before an_end = Err why.Definition
asked before other_side = Err why.Linkset
asked before link_head = Ok tt
asked before (a_head top form kids) = do
  met ← row top form kids
  leaf_test before top

-- going through places with their lines, behind so many leaves: the first that fails has this line
-- and this reason
abbrev pub IsFirstFault : ℕ → List Place → List ℕ → ℕ → TypeWhy → Type 0
IsFirstFault before [] lines line reason = ⊥
IsFirstFault before (p ∷ ps) lines line reason =
    ((asked before p ≡ Err reason) × (here lines ≡ line))
    ⊎ ((asked before p ≡ Ok tt) × IsFirstFault (before
    + leaves_of_place p) ps (other_lines lines) line reason)

-- ---- the places of a text; none is listed behind one that fails whatever follows

-- a head stands before its children
abbrev mutual
  pub places_of_term : Form → TermTree → List Place
  places_of_term form (node top kids) =
      a_head top form (count kids) ∷ places_of_terms (kid_form top form) 0 kids

  pub places_of_terms : (ℕ → Form) → ℕ → Trees → List Place
  places_of_terms forms i none = []
  places_of_terms forms i (kid t ts) =
      places_of_term (forms i) t ++ places_of_terms forms (suc i) ts

abbrev pub places_of_side : Stored → SideTree → List Place
places_of_side (stored.File form) (file_side t) = places_of_term form t
places_of_side (stored.File form) (link_side linkset ts) = other_side ∷ []
places_of_side (stored.Link o m) (file_side t) = other_side ∷ []
places_of_side (stored.Link o m) (link_side linkset ts) =
    link_head ∷ places_of_terms (link_form linkset o m) 0 (kids_from ts)

abbrev pub places_of_all : List Due → List DefinitionTree → List Place
places_of_all [] [] = []
places_of_all (due ∷ dues) [] = an_end ∷ []
places_of_all [] (d ∷ ds) = a_name_more ∷ []
places_of_all (due ∷ dues) (d ∷ ds) =
    a_name due.name d.name ∷ places_of_side due.stored d.side ++ places_of_all dues ds

abbrev pub places : Schema → List DefinitionTree → List Place
places schema ds = places_of_all (dues schema) ds
