use Rattle.std.proofs.Common.{◌≡◌, ◌++◌, map, take}
use Rattle.gx_typing.specs.Dues.{file_due, link_due}
use Rattle.gx_typing.proofs.dues.dues.Given as goal

abbrev pub invariant-loop-file : goal.invariant-loop-file
invariant-loop-file l = l.made.items ≡ map file_due (take l.file-index l.files)

abbrev pub invariant-loop-link : goal.invariant-loop-link
invariant-loop-link l =
    l.made.items ≡ map file_due l.files ++ map (link_due l.files) (take l.link-index l.schema.links)
