use Rattle.std.proofs.Common.{◌≡◌, ◌+◌, ◌++◌, List, length}
use Rattle.gx_equation.specs.Seen.{definitions_of}
use Rattle.gx_stack.specs.declared.node.Node.{Node}
use Rattle.gx_types.specs.declared.any.AnyMapping.{AnyMapping}
use Rattle.gx_types.specs.Build.{file_leaf_count, AreTreesOfFiles, AreReadyFiles}
use Rattle.gx_types.proofs.nodes.nodes_of_files.Given as goal

abbrev pub invariant-loop-left : goal.invariant-loop-left
invariant-loop-left l = record {
  ready : AreReadyFiles l.next l.left (definitions_of l.rest);
  count : l.next + file_leaf_count l.left (definitions_of l.rest) ≡ l.fn.next
      + file_leaf_count l.files (definitions_of l.definitions);
  trees : (more : List (Node AnyMapping))
      → AreTreesOfFiles l.next l.left (definitions_of l.rest) more
      → AreTreesOfFiles l.fn.next l.files (definitions_of l.definitions)
      (l.nodes.items ++ more);
}

abbrev pub decreases-loop-left : goal.decreases-loop-left
decreases-loop-left l = length l.left
