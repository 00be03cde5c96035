-- Terms as plain trees.
use Rattle.std.proofs.Common.{◌≡◌, ◌⊎◌, ℕ, List, Vec, Box, Global, sym, ap, ◌∙◌}
use Rattle.gx_values.specs.declared.values.Code.{Code}
use Rattle.gx_values.specs.declared.values.Value.{Value}
use Rattle.gx_equation.specs.declared.heads.Head.TheVariants as heads
use Rattle.gx_equation.specs.declared.equation.Term.{Term}
use Rattle.gx_equation.specs.declared.equation.Term.TheVariants as terms
use Rattle.gx_equation.specs.declared.equation.Term.TheOpen.{Actual, Encode, Transpose, Partition, Divide, Index}
use Rattle.gx_equation.specs.declared.equation.Term.TheFolds.{fold-roll-Term}
use Rattle.gx_equation.specs.Trees.{TermTree, node, none, kid as one, kids_from}
use Rattle.gx_equation.specs.Seen.{seen_step, tree_of, trees_of}

pub seen_transpose : (t : Term) (kids : Vec Term Global) → t ≡ terms.Transpose kids
    → tree_of t ≡ node heads.Transpose (kids_from (trees_of kids.items))
seen_transpose t kids is = ap tree_of (is ∙ sym (terms.rolls-Transpose kids))
    ∙ fold-roll-Term TermTree seen_step (Transpose kids)

pub seen_partition : (t : Term) (name : List ℕ) (bounds : List Value) (kids : Vec Term Global)
    → t ≡ terms.Partition name bounds kids
    → tree_of t ≡ node (heads.Partition name bounds) (kids_from (trees_of kids.items))
seen_partition t name bounds kids is =
    ap tree_of (is ∙ sym (terms.rolls-Partition name bounds kids))
    ∙ fold-roll-Term TermTree seen_step (Partition name bounds kids)

pub seen_actual : (t : Term) (kid : Box Term Global) → t ≡ terms.Actual kid
    → tree_of t ≡ node heads.Actual (one (tree_of kid.value) none)
seen_actual t kid is = ap tree_of (is ∙ sym (terms.rolls-Actual kid))
    ∙ fold-roll-Term TermTree seen_step (Actual kid)

pub seen_encode : (t : Term) (name : List ℕ) (code : Code) (kid : Box Term Global)
    → t ≡ terms.Encode name code kid
    → tree_of t ≡ node (heads.Encode name code) (one (tree_of kid.value) none)
seen_encode t name code kid is = ap tree_of (is ∙ sym (terms.rolls-Encode name code kid))
    ∙ fold-roll-Term TermTree seen_step (Encode name code kid)

pub seen_divide : (t : Term) (size : ℕ) (kid : Box Term Global) → t ≡ terms.Divide size kid
    → tree_of t ≡ node (heads.Divide size) (one (tree_of kid.value) none)
seen_divide t size kid is = ap tree_of (is ∙ sym (terms.rolls-Divide size kid))
    ∙ fold-roll-Term TermTree seen_step (Divide size kid)

-- the term has this child alone
abbrev pub IsOver : Term → Box Term Global → Type 0
IsOver t kid = (t ≡ terms.Actual kid)
    ⊎ (((name : List ℕ) × (code : Code) × (t ≡ terms.Encode name code kid))
    ⊎ ((size : ℕ) × (t ≡ terms.Divide size kid)))

pub seen_index : (t : Term) (name : List ℕ) (first second : Box Term Global)
    → t ≡ terms.Index name first second
    → tree_of t ≡ node (heads.Index name)
    (one (tree_of first.value) (one (tree_of second.value) none))
seen_index t name first second is = ap tree_of (is ∙ sym (terms.rolls-Index name first second))
    ∙ fold-roll-Term TermTree seen_step (Index name first second)
