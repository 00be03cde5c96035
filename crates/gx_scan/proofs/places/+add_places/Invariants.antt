use Rattle.std.proofs.Common.{◌≡◌, ◌++◌, List}
use Rattle.gx_stack.specs.Tree.{height}
use Rattle.gx_stack.specs.Seen.{tree_of}
use Rattle.gx_scan.specs.declared.places.Place.{Place}
use Rattle.gx_scan.proofs.PlaceLemmas.{ArePlacesOf}
use Rattle.gx_scan.proofs.places.+add_places.Given as goal

abbrev pub decreases-add_places : goal.decreases-add_places
decreases-add_places l = height (tree_of l.node.now)

-- the places of the children so far
abbrev pub invariant-loop-child : goal.invariant-loop-child
invariant-loop-child l =
    (added : List Place) × (l.places.items ≡ l.fn.places.items ++ added)
    × ArePlacesOf l.layer.mapping l.below.layers l.below.codes l.layer.kids.items l.child added
