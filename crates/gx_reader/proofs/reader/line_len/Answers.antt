use Rattle.std.proofs.Common.{arith, length, ◌∙◌}
use Rattle.std.proofs.lemmas.List.{take_all}
use Rattle.gx_commands.proofs.LineLaws.{cr_dropped, cr_kept}
use Rattle.gx_reader.proofs.reader.line_len.Goals as goal
use Rattle.gx_reader.proofs.reader.line_len.Goals.{else-len-gt0-via-then-len-gt0+else-line-len-eq13, else-len-gt0-via-else-len-gt0}

pub returns-then-line-len-eq13-clause-value : goal.returns-then-line-len-eq13-clause-value
returns-then-line-len-eq13-clause-value c =
    cr_dropped c.args.line.now c.if-len-gt0.true c.if-line-len-eq13.true

pub returns-else-len-gt0-clause-value : goal.returns-else-len-gt0-clause-value
returns-else-len-gt0-clause-value c =
    take_all (length c.args.line.now) c.args.line.now (omega arith)
    ∙ cr_kept c.args.line.now (λ some. elim c.else-len-gt0.branch [
      | else-len-gt0-via-then-len-gt0+else-line-len-eq13 w ↦ w.if-line-len-eq13.false
      | else-len-gt0-via-else-len-gt0 w ↦ absurd (omega arith)
    ])
