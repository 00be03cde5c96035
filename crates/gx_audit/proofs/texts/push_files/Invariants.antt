use Rattle.std.proofs.Common.{◌≡◌, ◌++◌, map}
use Rattle.gx_model.specs.States.{State}
use Rattle.gx_audit.specs.Audits.{keys_of}
use Rattle.gx_audit.specs.Texts.{file_line, lines_below}
use Rattle.gx_audit.proofs.texts.push_files.Given as goal

abbrev pub invariant-loop-file : goal.invariant-loop-file
invariant-loop-file l = (s : State) → l.keys ≡ map keys_of s.files
    → l.text.items ≡ l.fn.text.items ++ lines_below (file_line l.schema s) l.file
