use Rattle.std.proofs.Common.{◌++◌, ap, sym, ◌∙◌, arith}
use Rattle.std.specs.Int.{w16, to_be_bytes}
use Rattle.gx_isam_index.proofs.SeparatorLemmas.{none_short, none_unfit, separator_split}
use Rattle.gx_isam_index.proofs.index.split_separator.Goals as goal

pub returns-in_err-len : goal.returns-in_err-len
returns-in_err-len c = rw c.from_residual.ensures (none_short c.args.bytes.now c.in_err-len.ensures)

pub returns-then-len-rest : goal.returns-then-len-rest
returns-then-len-rest c =
    none_unfit c.args.bytes.now c.in_ok-len.rest.now c.in_ok-len.len c.in_ok-len.ensures.1
    c.in_ok-len.ensures.0 (omega (arith, c.if-len-rest.true, c.from-len.ensures))

pub returns : goal.returns
returns c =
    separator_split c.args.bytes.now c.in_ok-len.rest.now c.split_at.result.0.now
    c.split_at.result.1.now c.from-len.result
    (c.in_ok-len.ensures.1
    ∙ ap (λ n. to_be_bytes w16 n ++ c.in_ok-len.rest.now) (sym c.from-len.ensures))
    (omega (arith, c.in_ok-len.ensures.0, c.from-len.ensures)) (omega (arith, c.if-len-rest.false))
    c.split_at.ensures.front c.split_at.ensures.back
