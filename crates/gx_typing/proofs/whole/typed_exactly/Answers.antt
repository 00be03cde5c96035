use Rattle.std.proofs.Common.{length, ap, arith}
use Rattle.gx_typing.proofs.SchemaLaws.{few_dues}
use Rattle.gx_typing.proofs.whole.typed_exactly.Goals as goal

pub definitions_typed-requires : goal.definitions_typed-requires
definitions_typed-requires c =
    omega (
      arith,
      few_dues c.args.schema.now c.requires,
      ap length c.in_ok-due.ensures,
      ap length c.deref.ensures.value,
    )
