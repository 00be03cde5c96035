use Rattle.std.proofs.Common.{arith}
use Rattle.gx_stack.proofs.Seen.{child_valid, kid_lower}
use Rattle.gx_types.specs.Any.{any_rule}
use Rattle.gx_entries.proofs.OneLemmas.{first_there, leaf_only, layer_some}
use Rattle.gx_entries.proofs.leaves.+only_leaf.Goals as goal

pub returns-in-Leaf : goal.returns-in-Leaf
returns-in-Leaf t c = leaf_only c.args.node.now c.in-Leaf.node c.in-Leaf.is

pub index-requires : goal.index-requires
index-requires t c =
    let l = c.in-Layer.layer in
    omega (
      arith,
      first_there c.args.node.now l c.in-Layer.is c.requires
          (c.keeps_keys.ensures c.if-keeps_keys.true),
      l.kids.ok.0,
    )

pub only_leaf-requires : goal.only_leaf-requires
only_leaf-requires t c =
    let node = c.args.node.now in
    let l = c.in-Layer.layer in
    let there = first_there node l c.in-Layer.is c.requires
    (c.keeps_keys.ensures c.if-keeps_keys.true) in
    let k = c.index.result.now in
    let v = child_valid any_rule node l c.in-Layer.is 0 k c.requires there c.index.ensures in (
      omega (arith, kid_lower any_rule node l c.in-Layer.is 0 k there c.index.ensures, c.decreases),
      v.1,
    )

pub returns-then-keeps_keys : goal.returns-then-keeps_keys
returns-then-keeps_keys t c =
    let node = c.args.node.now in
    let l = c.in-Layer.layer in
    let keeps = c.keeps_keys.ensures c.if-keeps_keys.true in
    let there = first_there node l c.in-Layer.is c.requires keeps in
    layer_some node l c.index.result.now c.only_leaf.result c.in-Layer.is c.index.ensures keeps
    there c.only_leaf.ensures
