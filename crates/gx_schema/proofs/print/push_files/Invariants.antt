use Rattle.std.proofs.Common.{◌≡◌, ◌++◌, drop}
use Rattle.gx_schema.specs.Printing.{files_text}
use Rattle.gx_schema.proofs.print.push_files.Given as goal

abbrev pub invariant-loop-file : goal.invariant-loop-file
invariant-loop-file l = l.out.items ++ files_text (drop l.file-index l.files) ≡ l.initial.out.items
    ++ files_text l.files
