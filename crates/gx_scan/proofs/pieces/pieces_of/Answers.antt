use Rattle.std.proofs.Common.{refl}
use Rattle.gx_scan.proofs.PieceLemmas.{pieces_made}
use Rattle.gx_scan.proofs.pieces.pieces_of.Goals as goal

pub returns : goal.returns
returns c =
    pieces_made c.args.node.now c.in-Layer.layer c.in-Actual.field-0 c.in-Layer.is c.in-Actual.is
    c.requires c.index.result.now c.in-Layer-index.divided c.in-Divide.divide c.index.ensures
    c.in-Layer-index.is c.in-Divide.is c.index-2.result.now c.in-Leaf.below
    (record { leaf = c.in-Leaf.below.leaf; size = c.piece_size.result }) c.index-2.ensures
    c.in-Leaf.is refl c.piece_size.ensures
