use Rattle.std.proofs.Common.{refl, arith}
use Rattle.gx_scan.proofs.OnePlaceLemmas.{actual_kid, actual_placed}
use Rattle.gx_scan.proofs.places.leaf_below_actual.Goals as goal

pub index-requires : goal.index-requires
index-requires c =
    let l = c.in-Layer.layer in
    omega (
      arith,
      actual_kid c.args.node.now l c.in-Actual.field-0 c.in-Layer.is c.in-Actual.is c.requires,
      l.kids.ok.0,
    )

pub returns : goal.returns
returns c =
    actual_placed c.args.node.now c.in-Layer.layer c.in-Actual.field-0 c.in-Layer.is
    c.in-Actual.is c.requires c.index.result.now c.in-Leaf.below
    (record { leaf = c.in-Leaf.below.leaf; lengths = 0; codes = c.none.result })
    c.index.ensures c.in-Leaf.is refl refl c.none.ensures
