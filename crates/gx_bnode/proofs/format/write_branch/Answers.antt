use Rattle.std.proofs.Common.{◌+◌, length, ap, ◌∙◌}
use Rattle.gx_bytes.specs.Parts.{overwritten}
use Rattle.gx_bnode.proofs.BranchLemmas.{branch_written}
use Rattle.gx_bnode.proofs.format.write_branch.Goals as goal

pub returns : goal.returns
returns c =
    let bytes = c.args.bytes.now in
    let at = c.args.at in
    branch_written bytes at (record { separator = c.args.separator.now; child = c.args.child })
    c.overwrite.new.bytes c.overwrite-2.new.bytes c.overwrite-3.new.bytes c.requires.room
    (c.overwrite.ensures ∙ ap (overwritten bytes at) c.to_be_bytes.ensures)
    c.overwrite-2.ensures
    (c.overwrite-3.ensures
    ∙ ap (overwritten c.overwrite-2.new.bytes (at + 2 + length c.args.separator.now))
    c.to_be_bytes-2.ensures)
