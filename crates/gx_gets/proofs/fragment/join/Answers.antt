use Rattle.std.proofs.Common.{◌∙◌}
use Rattle.gx_gets.proofs.PlaceLemmas.{joined_more}
use Rattle.gx_gets.proofs.fragment.join.Goals as goal

pub loop-index-preserved : goal.loop-index-preserved
loop-index-preserved c =
    c.in_ok-extend_from_slice.ensures.items
    ∙ joined_more c.args.bytes.now.items c.loop-index.bytes.items c.args.entries.now
    c.loop-index.index _ c.entry.ensures c.loop-index.invariant
