use Rattle.std.proofs.Common.{map, take}
use Rattle.gx_stack.specs.Seen.{tree_of, kids_from}
use Rattle.gx_scan.specs.Columns.{ArePlacesOfKids}
use Rattle.gx_scan.proofs.columns.columns_of.Given as goal

-- the places of the children so far
abbrev pub invariant-loop-child : goal.invariant-loop-child
invariant-loop-child l =
    ArePlacesOfKids (kids_from (map tree_of (take l.child l.layer.kids.items))) l.places.items
