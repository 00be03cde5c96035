-- Terms, sides and definitions as plain trees.
use Rattle.std.specs.Prelude.{List, [], ◌∷◌, map}
use Rattle.gx_equation.specs.declared.heads.Head.TheVariants as heads
use Rattle.gx_equation.specs.declared.heads.Linkset.TheVariants as linksets
use Rattle.gx_equation.specs.declared.equation.Term.{Term}
use Rattle.gx_equation.specs.declared.equation.Term.TheOpen.{Term-F, Leaf, Actual, Encode, Segment, Transpose, Partition, Divide, Index}
use Rattle.gx_equation.specs.declared.equation.Term.TheFolds.{fold-Term}
use Rattle.gx_equation.specs.declared.equation.Side.{Side}
use Rattle.gx_equation.specs.declared.equation.Side.TheVariants as sides
use Rattle.gx_equation.specs.declared.equation.Definition.{Definition}
use Rattle.gx_equation.specs.Trees.{TermTree, node, none, kid, kids_from, SideTree, file_side, link_side, DefinitionTree}

abbrev pub seen_step : Term-F TermTree → TermTree
seen_step (Leaf kind) = node (heads.Leaf kind) none
seen_step (Actual t) = node heads.Actual (kid t.value none)
seen_step (Encode name code t) = node (heads.Encode name code) (kid t.value none)
seen_step (Segment names t u) = node (heads.Segment names) (kid t.value (kid u.value none))
seen_step (Transpose ts) = node heads.Transpose (kids_from ts.items)
seen_step (Partition name bounds ts) = node (heads.Partition name bounds) (kids_from ts.items)
seen_step (Divide size t) = node (heads.Divide size) (kid t.value none)
seen_step (Index name t u) = node (heads.Index name) (kid t.value (kid u.value none))

abbrev pub tree_of : Term → TermTree
tree_of t = fold-Term TermTree seen_step t

abbrev pub trees_of : List Term → List TermTree
trees_of ts = map tree_of ts

abbrev pub side_of : Side → SideTree
side_of (sides.File t) = file_side (tree_of t)
side_of (sides.Array t) = link_side linksets.Array (tree_of t ∷ [])
side_of (sides.Ring t u) = link_side linksets.Ring (tree_of t ∷ tree_of u ∷ [])
side_of (sides.Inverted t u) = link_side linksets.Inverted (tree_of t ∷ tree_of u ∷ [])

abbrev pub definition_of : Definition → DefinitionTree
definition_of d = record { name = d.name; side = side_of d.side }

abbrev pub definitions_of : List Definition → List DefinitionTree
definitions_of ds = map definition_of ds
