use Rattle.std.proofs.Common.{◌≡◌, ◌<◌, ◌+◌, ◌++◌, ℕ, List, length, get_or, drop, map, sym, ap, subst, arith}
use Rattle.gx_values.specs.declared.records.Form.{Form}
use Rattle.gx_equation.proofs.Again.{from_list}
use Rattle.gx_equation.specs.Seen.{tree_of}
use Rattle.gx_equation.specs.Trees.{TermTree, Trees, kids_from, list_of}
use Rattle.gx_stack.specs.declared.node.Node.{Node}
use Rattle.gx_stack.specs.Seen.{tree_of as node_tree, kids_from as node_kids}
use Rattle.gx_types.specs.declared.any.AnyMapping.{AnyMapping}
use Rattle.gx_types.specs.Any.{any_rule}
use Rattle.gx_types.specs.Build.{leaf_count, leaf_counts, kids_of, IsTreeOf, AreTreesOf, IsReady, AreReady}
use Rattle.gx_types.proofs.FormLaws.{count_list}
use Rattle.gx_types.proofs.NodeSteps.{kids_below, child_smaller, child_ready, behind_ready, behind_count, behind_trees, none_left, all_trees}
use Rattle.gx_types.proofs.TreeLaws.{layer_ready, layer_kids, layer_tree, layer_leaves}
use Rattle.gx_types.proofs.nodes.+nodes.Goals as goal

pub kid_nodes-loop-i-init : goal.kid_nodes-loop-i-init
kid_nodes-loop-i-init t c =
    let kids = kids_of (tree_of c.args.term.now) in
    record {
      ready = subst (AreReady c.args.next.now (any_rule c.args.mapping.now).kid_form 0)
          (sym (from_list kids)) c.requires.ready;
      count = ap (λ (ts : Trees). c.args.next.now + leaf_counts ts) (from_list kids);
      trees = λ more are.
          let all = subst (λ (ts : Trees). AreTreesOf c.args.next.now
          (any_rule c.args.mapping.now).kid_form 0 ts (node_kids (map node_tree more)))
          (from_list kids) are in
          subst (λ (ys : List (Node AnyMapping)). AreTreesOf c.args.next.now
          (any_rule c.args.mapping.now).kid_form 0 kids
          (node_kids (map node_tree (ys ++ more)))) (sym c.in_ok-nodes.ensures.items) all;
    }

pub kid_nodes-node_of-requires : goal.kid_nodes-node_of-requires
kid_nodes-node_of-requires t c =
    let whole = tree_of c.args.term.now in
    let ts = list_of (kids_of whole) in
    let forms = (any_rule c.args.mapping.now).kid_form in
    let kid = tree_of c.child-kid.result.now in
    let lt : c.loop-i.i < length ts = omega (arith, count_list (kids_of whole), c.requires.each) in
    let read : kid ≡ get_or ts c.loop-i.i whole =
    subst (λ (n : ℕ). kid ≡ get_or ts n whole) c.from-in-loop-i.ensures c.child-kid.ensures in (
      omega (arith, child_smaller (kids_of whole) c.loop-i.i whole kid lt read, c.decreases),
      subst (λ (form : Form). IsReady c.loop-i.next form kid) (sym c.kid_form.ensures)
          (child_ready c.loop-i.next forms ts c.loop-i.i whole kid lt read
          c.loop-i.invariant.ready),
    )

pub kid_nodes-loop-i-preserved : goal.kid_nodes-loop-i-preserved
kid_nodes-loop-i-preserved t c =
    let n = c.loop-i.next in
    let forms = (any_rule c.args.mapping.now).kid_form in
    let whole = tree_of c.args.term.now in
    let ts = list_of (kids_of whole) in
    let i = c.loop-i.i in
    let kid = tree_of c.child-kid.result.now in
    let lt : i < length ts = omega (arith, count_list (kids_of whole), c.requires.each) in
    let read : kid ≡ get_or ts i whole =
    subst (λ (m : ℕ). kid ≡ get_or ts m whole) c.from-in-loop-i.ensures c.child-kid.ensures in
    let next = c.node_of.new.next in
    let is : next ≡ n + leaf_count kid = c.in_ok-node_of.ensures.next in
    let made = c.in_ok-node_of.field-0 in
    let tree : IsTreeOf n (forms i) kid (node_tree made) =
    subst (λ (form : Form). IsTreeOf n form kid (node_tree made)) c.kid_form.ensures
    c.in_ok-node_of.ensures.tree in
    record {
      ready = behind_ready n forms ts i whole kid lt read next is c.loop-i.invariant.ready;
      count = behind_count n forms ts i whole kid lt read next _ is c.loop-i.invariant.count;
      trees = behind_trees n forms ts i whole kid lt read next
          (λ (ys : List (Node AnyMapping)). AreTreesOf c.args.next.now forms 0 (kids_of whole)
          (node_kids (map node_tree ys))) c.loop-i.nodes.items _ made is
          c.in_ok-push.ensures.items tree c.loop-i.invariant.trees;
    }

pub kid_nodes-returns-clause-trees : goal.kid_nodes-returns-clause-trees
kid_nodes-returns-clause-trees t c =
    let whole = tree_of c.args.term.now in
    let forms = (any_rule c.args.mapping.now).kid_form in
    all_trees c.loop-i.next forms (list_of (kids_of whole)) c.loop-i.i
    (λ (ys : List (Node AnyMapping)). AreTreesOf c.args.next.now forms 0 (kids_of whole)
    (node_kids (map node_tree ys))) c.loop-i.nodes.items
    (omega (arith, count_list (kids_of whole), c.requires.each)) c.loop-i.invariant.trees

pub kid_nodes-returns-clause-next : goal.kid_nodes-returns-clause-next
kid_nodes-returns-clause-next t c =
    let kids = kids_of (tree_of c.args.term.now) in
    let none : leaf_counts (kids_from (drop c.loop-i.i (list_of kids))) ≡ 0 =
    ap (λ (ts : List TermTree). leaf_counts (kids_from ts))
    (none_left c.loop-i.i (list_of kids) (omega (arith, count_list kids, c.requires.each)))
    in
    omega (arith, none, c.loop-i.invariant.count)

pub node_of-kid_nodes-requires : goal.node_of-kid_nodes-requires
node_of-kid_nodes-requires t c =
    let n = c.args.next.now in
    let form = c.args.form.now in
    let seen = tree_of c.args.term.now in
    let m = c.in_ok-mapping-in_default.mapping in
    let is = c.in_ok-mapping-in_default.ensures in (
      omega (arith, kids_below seen, c.decreases),
      (layer_ready n form seen m c.requires is, layer_kids n form seen m c.requires is),
    )

pub node_of-returns-in_ok-nodes-in_default : goal.node_of-returns-in_ok-nodes-in_default
node_of-returns-in_ok-nodes-in_default t c =
    let n = c.args.next.now in
    let form = c.args.form.now in
    let seen = tree_of c.args.term.now in
    let is = c.in_ok-mapping-in_default.ensures in
    let kids = node_kids (map node_tree c.in_ok-nodes-in_default.nodes.items) in
    record {
      tree = subst (IsTreeOf n form seen) (sym c.layer_node.ensures)
          (layer_tree n form seen c.in_ok-mapping-in_default.mapping kids c.requires is
          c.in_ok-nodes-in_default.ensures.trees);
      next = omega (arith, c.in_ok-nodes-in_default.ensures.next, layer_leaves seen is.0);
    }
