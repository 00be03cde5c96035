use Rattle.gx_slots.proofs.page.add.Goals as goal

pub add_at-requires-clause-spot : goal.add_at-requires-clause-spot
add_at-requires-clause-spot c = record {
  place = c.requires.place;
  at = c.offsets-at.ensures.start;
  end = c.offsets-at.ensures.end;
}
