use Rattle.std.proofs.Common.{arith}
use Rattle.gx_bytes.proofs.RecordLemmas.{count_holds, length-records, passed_none, passed_more, passed_split, passed_all, split_found}
use Rattle.gx_bnode.specs.Branches.{IsFit, lent, branch_bytes, branches_in}
use Rattle.gx_bnode.proofs.BranchLemmas.{branch_format}
use Rattle.gx_bnode.proofs.format.branches_len.Goals as goal

pub loop-init : goal.loop-init
loop-init c =
    let bytes = c.args.bytes.now in
    passed_none branch_format (branches_in c.args.count bytes) bytes
    (count_holds branch_format c.args.count bytes c.requires)

pub unwrap-requires : goal.unwrap-requires
unwrap-requires c =
    let bytes = c.args.bytes.now in
    passed_split branch_format lent (branches_in c.args.count bytes) c.loop.counter bytes
    c.loop.rest.now
    c.split_branch.result c.loop.invariant
    (omega (arith, length-records branch_format c.args.count bytes))
    c.split_branch.ensures

pub loop-preserved : goal.loop-preserved
loop-preserved c =
    let bytes = c.args.bytes.now in
    let found = split_found branch_bytes IsFit lent c.loop.rest.now c.split_branch.result
    c.unwrap.result c.unwrap.ensures c.split_branch.ensures in
    passed_more branch_format (branches_in c.args.count bytes) c.loop.counter bytes c.loop.rest.now
    (lent c.unwrap.result.0) c.unwrap.result.1.now c.loop.invariant
    (omega (arith, length-records branch_format c.args.count bytes)) found.0 found.1

pub overflow_sub-result : goal.overflow_sub-result
overflow_sub-result c = omega (arith, c.loop.invariant.passed)

pub returns : goal.returns
returns c =
    let bytes = c.args.bytes.now in
    passed_all branch_format (branches_in c.args.count bytes) c.loop.counter bytes c.loop.rest.now
    c.loop.invariant (omega (arith, length-records branch_format c.args.count bytes))
