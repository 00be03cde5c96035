use Rattle.std.proofs.Common.{◌≡◌, ◌+◌, ◌++◌, List, drop, map}
use Rattle.gx_equation.specs.Seen.{tree_of}
use Rattle.gx_equation.specs.Trees.{kids_from, list_of}
use Rattle.gx_stack.specs.declared.node.Node.{Node}
use Rattle.gx_stack.specs.Seen.{tree_of as node_tree, kids_from as node_kids}
use Rattle.gx_types.specs.declared.any.AnyMapping.{AnyMapping}
use Rattle.gx_types.specs.Any.{any_rule}
use Rattle.gx_types.specs.Build.{kids_of, leaf_counts, AreTreesOf, AreReady}
use Rattle.gx_typing.proofs.TermSize.{tree_size, trees_size}
use Rattle.gx_types.proofs.nodes.+nodes.Given as goal

abbrev pub decreases-node_of : goal.decreases-node_of
decreases-node_of l = tree_size (tree_of l.term.now)

abbrev pub decreases-kid_nodes : goal.decreases-kid_nodes
decreases-kid_nodes l = trees_size (kids_of (tree_of l.term.now))

abbrev pub invariant-kid_nodes-loop-i : goal.invariant-kid_nodes-loop-i
invariant-kid_nodes-loop-i l = record {
  ready : AreReady l.next (any_rule l.mapping).kid_form l.i
      (kids_from (drop l.i (list_of (kids_of (tree_of l.term)))));
  count : l.next + leaf_counts (kids_from (drop l.i (list_of (kids_of (tree_of l.term)))))
      ≡ l.fn.next + leaf_counts (kids_of (tree_of l.term));
  trees : (more : List (Node AnyMapping))
      → AreTreesOf l.next (any_rule l.mapping).kid_form l.i
      (kids_from (drop l.i (list_of (kids_of (tree_of l.term)))))
      (node_kids (map node_tree more))
      → AreTreesOf l.fn.next (any_rule l.mapping).kid_form 0 (kids_of (tree_of l.term))
      (node_kids (map node_tree (l.nodes.items ++ more)));
}
