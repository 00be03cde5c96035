use Rattle.gx_gather.proofs.Lists.{in_read}
use Rattle.gx_lists.proofs.arrays.joined.Goals as goal

pub value_key-key-requires : goal.value_key-key-requires
value_key-key-requires c = c.requires c.member-item.result
    (in_read c.args.members.now c.loop-member.member-index c.member-item.result c.member-item.is
    c.loop-member-test.true)
