use Rattle.std.proofs.Common.{◌<◌, ◌++◌, length, ap, sym, ◌∙◌, arith}
use Rattle.std.specs.Int.{w16, to_be_bytes}
use Rattle.gx_bnode.proofs.BranchLemmas.{none_short, none_unfit, branch_split}
use Rattle.gx_bnode.proofs.format.split_branch.Goals as goal

pub returns-in_err-len : goal.returns-in_err-len
returns-in_err-len c = rw c.from_residual.ensures (none_short c.args.bytes.now c.in_err-len.ensures)

pub returns-then-len-gt-MAX_SEPARATOR_LEN : goal.returns-then-len-gt-MAX_SEPARATOR_LEN
returns-then-len-gt-MAX_SEPARATOR_LEN c =
    let either = c.then-len-gt-MAX_SEPARATOR_LEN.either in
    none_unfit c.args.bytes.now c.in_ok-len.rest.now c.in_ok-len.len c.in_ok-len.ensures.1
    c.in_ok-len.ensures.0 (λ short. omega (arith, either))

pub returns-in_err-child : goal.returns-in_err-child
returns-in_err-child c =
    let few : length c.split_at.result.1.now < 4 = c.in_err-child.ensures in
    rw c.from_residual-in_err-child.ensures (none_unfit c.args.bytes.now c.in_ok-len.rest.now
    c.in_ok-len.len c.in_ok-len.ensures.1 c.in_ok-len.ensures.0
    (λ short. omega (arith, few, c.split_at.ensures.back_len)))

pub returns : goal.returns
returns c =
    branch_split c.args.bytes.now c.in_ok-len.rest.now c.split_at.result.0.now
    c.split_at.result.1.now c.in_ok-child.rest.now c.from-len.result c.in_ok-child.child
    (c.in_ok-len.ensures.1
    ∙ ap (λ n. to_be_bytes w16 n ++ c.in_ok-len.rest.now) (sym c.from-len.ensures)) (omega arith)
    (omega arith) c.in_ok-child.ensures.0 c.split_at.ensures.front c.split_at.ensures.back
    c.in_ok-child.ensures.1
