use Rattle.std.proofs.Common.{sym, ap, ◌∙◌, arith}
use Rattle.gx_schema.specs.Printing.{name_at}
use Rattle.gx_schema.proofs.FileNames.{name_at-within, name_at-past}
use Rattle.gx_schema.proofs.print.name_at.Goals as goal

pub returns-then-number-files : goal.returns-then-number-files
returns-then-number-files c =
    c.as_slice.ensures.value
    ∙ (name_at-within c.args.files.now c.from-number.result c.index-files-number.result
    c.if-number-files.true
    ∙ ap (name_at c.args.files.now) c.from-number.ensures)

pub returns-else-number-files : goal.returns-else-number-files
returns-else-number-files c =
    sym (name_at-past c.args.files.now c.args.number
    (omega (arith, c.if-number-files.false, c.from-number.ensures)))
