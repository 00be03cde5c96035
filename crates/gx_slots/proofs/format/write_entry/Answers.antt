use Rattle.std.proofs.Common.{◌+◌, ap, ◌∙◌}
use Rattle.gx_bytes.specs.Parts.{overwritten}
use Rattle.gx_slots.proofs.EntryLemmas.{entry_written}
use Rattle.gx_slots.proofs.format.write_entry.Goals as goal

pub returns : goal.returns
returns c =
    let bytes = c.args.bytes.now in
    let at = c.args.at in
    entry_written bytes at (record { key = c.args.key.now; body = c.args.body.now })
    c.overwrite.new.bytes c.overwrite-2.new.bytes c.overwrite-3.new.bytes c.overwrite-4.new.bytes
    c.requires.room
    (c.overwrite.ensures ∙ ap (overwritten bytes at) c.to_be_bytes.ensures)
    (c.overwrite-2.ensures
    ∙ ap (overwritten c.overwrite.new.bytes (at + 2)) c.to_be_bytes-2.ensures)
    c.overwrite-3.ensures
    c.overwrite-4.ensures
