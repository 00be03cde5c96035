use Rattle.std.proofs.Common.{arith}
use Rattle.gx_bytes.proofs.RecordLemmas.{count_holds, length-records, passed_none, passed_more, passed_split, passed_all, split_found}
use Rattle.gx_slots.specs.Entries.{IsFit, lent, entry_bytes, entries_in}
use Rattle.gx_slots.proofs.EntryLemmas.{entry_format}
use Rattle.gx_slots.proofs.format.entries_len.Goals as goal

pub loop-init : goal.loop-init
loop-init c =
    let bytes = c.args.bytes.now in
    passed_none entry_format (entries_in c.args.count bytes) bytes
    (count_holds entry_format c.args.count bytes c.requires)

pub unwrap-requires : goal.unwrap-requires
unwrap-requires c =
    let bytes = c.args.bytes.now in
    passed_split entry_format lent (entries_in c.args.count bytes) c.loop.counter bytes
    c.loop.rest.now
    c.split_entry.result c.loop.invariant
    (omega (arith, length-records entry_format c.args.count bytes))
    c.split_entry.ensures

pub loop-preserved : goal.loop-preserved
loop-preserved c =
    let bytes = c.args.bytes.now in
    let found = split_found entry_bytes IsFit lent c.loop.rest.now c.split_entry.result
    c.unwrap.result c.unwrap.ensures c.split_entry.ensures in
    passed_more entry_format (entries_in c.args.count bytes) c.loop.counter bytes c.loop.rest.now
    (lent c.unwrap.result.0) c.unwrap.result.1.now c.loop.invariant
    (omega (arith, length-records entry_format c.args.count bytes)) found.0 found.1

pub overflow_sub-result : goal.overflow_sub-result
overflow_sub-result c = omega (arith, c.loop.invariant.passed)

pub returns : goal.returns
returns c =
    let bytes = c.args.bytes.now in
    passed_all entry_format (entries_in c.args.count bytes) c.loop.counter bytes c.loop.rest.now
    c.loop.invariant (omega (arith, length-records entry_format c.args.count bytes))
