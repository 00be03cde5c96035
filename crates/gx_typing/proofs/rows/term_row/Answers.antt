use Rattle.std.proofs.Common.{◌≡◌, length, sym, ap, ◌∙◌, arith}
use Rattle.gx_typing.specs.Rows.{transpose_row, partition_row}
use Rattle.gx_typing.specs.Typing.{term_row}
use Rattle.gx_typing.proofs.SeenAs.{seen_transpose, seen_partition}
use Rattle.gx_typing.proofs.TypingSteps.{count_kids}
use Rattle.gx_typing.proofs.rows.term_row.Goals as goal

pub returns-in-Transpose : goal.returns-in-Transpose
returns-in-Transpose c =
    let n : c.len.result ≡ length c.in-Transpose.kids.items =
    omega (arith, c.len.ensures, c.in-Transpose.kids.ok) in
    c.transpose_row.ensures.exact
    ∙ ap (transpose_row c.args.form.now) (n ∙ sym (count_kids c.in-Transpose.kids.items))
    ∙ sym (ap (term_row c.args.form.now)
    (seen_transpose c.args.term.now c.in-Transpose.kids c.in-Transpose.is))

pub returns-in-Partition : goal.returns-in-Partition
returns-in-Partition c =
    let n : c.len-in-Partition.result ≡ length c.in-Partition.kids.items =
    omega (arith, c.len-in-Partition.ensures, c.in-Partition.kids.ok) in
    c.partition_row.ensures
    ∙ ap (partition_row c.in-Partition.name c.in-Partition.bounds c.args.form.now)
    (n ∙ sym (count_kids c.in-Partition.kids.items))
    ∙ sym (ap (term_row c.args.form.now)
    (seen_partition c.args.term.now c.in-Partition.name c.in-Partition.bounds
    c.in-Partition.kids c.in-Partition.is))
