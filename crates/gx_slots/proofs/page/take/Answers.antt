use Rattle.std.proofs.Common.{arith}
use Rattle.gx_slots.proofs.page.take.Goals as goal

pub take_at-requires-clause-spot : goal.take_at-requires-clause-spot
take_at-requires-clause-spot c = record {
  place = omega (arith, c.requires.place);
  at = c.offsets-at.ensures.start;
  end = c.offsets-at.ensures.end;
}
