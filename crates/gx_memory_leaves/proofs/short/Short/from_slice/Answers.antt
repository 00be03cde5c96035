use Rattle.std.proofs.Common.{◌≡◌, length, rules}
use Rattle.gx_memory_leaves.proofs.FrontLemmas.{is_short}
use Rattle.gx_memory_leaves.proofs.short.Short.from_slice.Goals as goal

pub invariant_of-result : goal.invariant_of-result
invariant_of-result g c =
    let same : c.in_ok-len.len ≡ length c.args.bytes.now = search rules in
    is_short g.row.ROOM c.in_ok-len.len c.args.bytes.now c.copy_from_slice.new.self c.if-bytes.false
    same c.copy_from_slice.ensures.after
