use Rattle.gx_actual.proofs.BodyLemmas.{item_has_length}
use Rattle.gx_actual.proofs.bodies.body_bytes.Goals as goal

pub push_value-requires : goal.push_value-requires
push_value-requires c =
    item_has_length c.args.fields.now c.args.values.now _ c.loop-value.value-index c.requires.short
    c.requires.fit c.loop-value-test.true c.value-item.is
