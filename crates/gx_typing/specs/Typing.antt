-- Typing from left to right: the leaves, or the first place that fails.
use Rattle.std.specs.Prelude.{◌≡◌, ℕ, suc, List, [], ◌∷◌, ◌++◌, length, Result, Ok, Err, nat_lt, if◌then◌else◌}
use Rattle.gx_values.specs.declared.records.Form.{Form}
use Rattle.gx_ports.specs.declared.kinds.LeafSpec.{LeafSpec}
use Rattle.gx_equation.specs.declared.heads.Head.{Head}
use Rattle.gx_equation.specs.declared.heads.Head.TheVariants as heads
use Rattle.gx_equation.specs.Trees.{TermTree, Trees, node, none, kid}
use Rattle.gx_typing.specs.declared.reasons.TypeWhy.{TypeWhy}
use Rattle.gx_typing.specs.declared.reasons.TypeWhy.TheVariants as why
use Rattle.gx_typing.specs.declared.reasons.Untyped.{Untyped}
use Rattle.gx_typing.specs.declared.reasons.Untyped.TheVariants as untyped
use Rattle.gx_typing.specs.declared.typing.Typing.{Typing}
use Rattle.gx_typing.specs.Rows.{◌>>=◌, row}
use Rattle.gx_forms.specs.Forms.{kid_form}
use Rattle.gx_typing.specs.Leaves.{leaf_spec}
use Rattle.gx_ports.specs.declared.kinds.TheConstants.{MAX_LEAVES}

-- a line, and what fails there
abbrev pub Mistake : Type 0
Mistake = ℕ × TypeWhy

-- Typing is given the lines of the places that are left, of which the first is that of the place
-- due, and gives the lines behind.
abbrev pub here : List ℕ → ℕ
here [] = 0
here (line ∷ lines) = line

abbrev pub other_lines : List ℕ → List ℕ
other_lines [] = []
other_lines (line ∷ lines) = lines

abbrev pub at : {A : Type 0} → List ℕ → Result A TypeWhy → Result A Mistake
at lines (Ok x) = Ok x
at lines (Err reason) = Err (here lines, reason)

abbrev pub count : Trees → ℕ
count none = 0
count (kid t ts) = suc (count ts)

-- what the head of a term asks of the form that it gets
abbrev pub term_row : Form → TermTree → Result (Unit {0}) TypeWhy
term_row form (node top kids) = row top form (count kids)

-- the leaves before and one more of the definition, of which there may be `MAX_LEAVES`
abbrev pub with_leaf : ℕ → LeafSpec → Typing → Result Typing TypeWhy
with_leaf owner spec typing =
    if nat_lt (length typing.specs) MAX_LEAVES
    then Ok (record { specs = typing.specs ++ spec ∷ []; owners = typing.owners ++ owner ∷ [] })
    else Err why.Leaves

-- the leaves before and the one that the head is, if it is one
abbrev pub with_head : ℕ → Head → Form → Typing → Result Typing TypeWhy
with_head owner (heads.Leaf kind) form typing = with_leaf owner (leaf_spec kind form) typing
with_head owner other form typing = Ok typing

-- a term of a definition at a form, behind the leaves before: the lines left and the leaves so far
abbrev mutual
  pub typed_at : ℕ → Form → TermTree → List ℕ → Typing → Result (List ℕ × Typing) Mistake
  typed_at owner form (node top kids) lines typing = do
    met ← at lines (row top form (count kids))
    more ← at lines (with_head owner top form typing)
    kids_typed owner (kid_form top form) 0 kids (other_lines lines) more

  pub kids_typed : ℕ → (ℕ → Form) → ℕ → Trees → List ℕ → Typing → Result (List ℕ × Typing) Mistake
  kids_typed owner forms i none lines typing = Ok (lines, typing)
  kids_typed owner forms i (kid t ts) lines typing = do
    x ← typed_at owner (forms i) t lines typing
    kids_typed owner forms (suc i) ts x.0 x.1

-- the error is what typing gives, or there was no memory
abbrev pub FailsSo : {Y : Type 0} → Untyped → Result Y Mistake → Type 0
FailsSo untyped.NoMemory typing = Unit {0}
FailsSo (untyped.Mistyped line reason) typing = typing ≡ Err (line, reason)

-- what a call returned, with its value seen by view, is what typing gives, or there was no memory
abbrev pub Answers : {X Y : Type 0} → (X → Y) → Result X Untyped → Result Y Mistake → Type 0
Answers view (Ok x) typing = typing ≡ Ok (view x)
Answers view (Err e) typing = FailsSo e typing
