use Rattle.gx_values.specs.Values.{AreFit}
use Rattle.gx_schema.specs.Lookups.{data_fields}
use Rattle.gx_stack.specs.Seen.{tree_of}
use Rattle.gx_scan.proofs.SearchedLemmas.{finds_inside}
use Rattle.gx_scan.proofs.by_key.find_values.Goals as goal

pub values_in-requires : goal.values_in-requires
values_in-requires g c = record {
  asked = record {
    tree = c.searched_node-node.ensures.tree c.args.file.now _ c.requires.tree;
    storable = c.requires.storable;
    fits = c.requires.key;
    bounds = c.set_key.ensures;
  };
}

pub returns : goal.returns
returns g c =
    let file = c.args.file.now in
    finds_inside g.B.View file c.args.key.now c.set_key.new.span c.requires.storable c.requires.key
    c.set_key.ensures.lo c.set_key.ensures.hi (tree_of c.args.node.now)
    (tree_of c.searched_node-node.result.now) c.searched_node-node.ensures _ c.requires.tree
    (λ o. o) (AreFit (data_fields file)) c.args.leaves.now c.values_in.new.leaves
    c.values_in.result c.values_in.ensures
