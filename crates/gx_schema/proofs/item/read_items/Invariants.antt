use Rattle.std.proofs.Common.{◌≡◌, ◌≤◌, length}
use Rattle.gx_schema.specs.Items.{room_left}
use Rattle.gx_schema.specs.Reading.{items_behind, all_items}
use Rattle.gx_schema.proofs.item.read_items.Given as goal

abbrev pub invariant-loop-schema : goal.invariant-loop-schema
invariant-loop-schema l = record {
  files : length l.schema.files ≤ 32;
  links : length l.schema.links ≤ 32;
  same : items_behind (room_left l.schema) l.schema l.rest ≡ all_items l.bytes;
}

abbrev pub decreases-loop-schema : goal.decreases-loop-schema
decreases-loop-schema l = room_left l.schema
