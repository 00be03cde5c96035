use Rattle.std.proofs.Common.{refl, arith}
use Rattle.gx_values.proofs.CopyLemmas.{copied_more}
use Rattle.gx_gather.proofs.gather.copy_front.Goals as goal

pub loop-value-preserved : goal.loop-value-preserved
loop-value-preserved c =
    let key = c.front-key.result.now in
    copied_more key key c.loop-value.values.items c.push.new.self.items c.in_ok-copy.field-0
    c.value-item.result c.loop-value.value-index refl (omega arith) c.value-item.is
    c.loop-value.invariant c.in_ok-copy.ensures c.in_ok-push.ensures.items
