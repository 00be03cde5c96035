use Rattle.std.proofs.Common.{◌++◌, List, length}
use Rattle.gx_equation.specs.Seen.{definitions_of}
use Rattle.gx_types.specs.declared.built.LinkTree.{LinkTree}
use Rattle.gx_types.specs.Build.{AreTreesOfLinks, AreReadyLinks}
use Rattle.gx_types.proofs.links.trees_of_links.Given as goal

abbrev pub invariant-loop-left : goal.invariant-loop-left
invariant-loop-left l = record {
  ready : AreReadyLinks l.files l.next l.left (definitions_of l.rest);
  trees : (more : List LinkTree)
      → AreTreesOfLinks l.files l.next l.left (definitions_of l.rest) more
      → AreTreesOfLinks l.files l.fn.next l.links (definitions_of l.definitions)
      (l.trees.items ++ more);
}

abbrev pub decreases-loop-left : goal.decreases-loop-left
decreases-loop-left l = length l.left
