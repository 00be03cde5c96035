use Rattle.std.proofs.Common.{arith}
use Rattle.gx_gather.proofs.Lists.{in_read}
use Rattle.gx_ring.proofs.rows.add_chain.Goals as goal

pub chain_rec-requires-clause-owner : goal.chain_rec-requires-clause-owner
chain_rec-requires-clause-owner c =
    (c.loop-rest.invariant.fit c.member-item.result
    (in_read c.loop-rest.rest.now 0 c.member-item.result c.member-item.is
    (omega (arith, c.in-len1-up.len_at_least)))).0
