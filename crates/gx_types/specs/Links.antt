-- The nodes of a link: its linkset and its children.
use Rattle.std.specs.Prelude.{ℕ, zero, suc, List, [], ◌∷◌}
use Rattle.gx_equation.specs.declared.heads.Linkset.{Linkset}
use Rattle.gx_equation.specs.declared.heads.Linkset.TheVariants as linksets
use Rattle.gx_stack.specs.Tree.{Kids, no_kids, kid}
use Rattle.gx_stack.specs.Seen.{tree_of}
use Rattle.gx_types.specs.declared.any.AnyMapping.{AnyMapping}
use Rattle.gx_types.specs.declared.built.LinkTree.{LinkTree}
use Rattle.gx_types.specs.declared.built.LinkTree.TheVariants.{Array, Ring, Inverted}

abbrev pub linkset_of : LinkTree → Linkset
linkset_of (Array n) = linksets.Array
linkset_of (Ring n m) = linksets.Ring
linkset_of (Inverted n m) = linksets.Inverted

abbrev pub link_kids : LinkTree → Kids AnyMapping
link_kids (Array n) = kid (tree_of n) no_kids
link_kids (Ring n m) = kid (tree_of n) (kid (tree_of m) no_kids)
link_kids (Inverted n m) = kid (tree_of n) (kid (tree_of m) no_kids)

-- those of the link with the number, counted from 0
abbrev pub linkset_at : List LinkTree → ℕ → Linkset
linkset_at [] i = linksets.Array
linkset_at (x ∷ xs) zero = linkset_of x
linkset_at (x ∷ xs) (suc i) = linkset_at xs i

abbrev pub link_kids_at : List LinkTree → ℕ → Kids AnyMapping
link_kids_at [] i = no_kids
link_kids_at (x ∷ xs) zero = link_kids x
link_kids_at (x ∷ xs) (suc i) = link_kids_at xs i
