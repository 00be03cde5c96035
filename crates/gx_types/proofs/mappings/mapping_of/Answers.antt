use Rattle.std.proofs.Common.{subst}
use Rattle.gx_equation.specs.declared.heads.Head.TheVariants as heads
use Rattle.gx_types.specs.Build.{IsReady}
use Rattle.gx_types.proofs.MakerLaws.{limited_short, ready_can, ready_keys}
use Rattle.gx_typing.proofs.SeenAs.{seen_actual, seen_partition, seen_divide, seen_encode, seen_index}
use Rattle.gx_types.proofs.mappings.mapping_of.Goals as goal

pub actual_of-requires-clause-texts : goal.actual_of-requires-clause-texts
actual_of-requires-clause-texts c =
    limited_short c.args.form.now.fields c.requires.ready.1.records.texts

pub actual_of-requires-clause-narrow : goal.actual_of-requires-clause-narrow
actual_of-requires-clause-narrow c =
    let ready = c.requires.ready in
    (ready_can ready.0 c.args.form.now heads.Actual _
    (subst (IsReady ready.0 c.args.form.now)
    (seen_actual c.args.term.now c.in-Actual.field-0 c.in-Actual.is) ready.1)).narrow

pub partition_of-requires-clause-few_keys : goal.partition_of-requires-clause-few_keys
partition_of-requires-clause-few_keys c =
    ready_keys c.requires.ready.0 c.args.form.now _ c.requires.ready.1

pub partition_of-requires-clause-can : goal.partition_of-requires-clause-can
partition_of-requires-clause-can c =
    let ready = c.requires.ready in
    let seen = seen_partition c.args.term.now c.in-Partition.name c.in-Partition.bounds
    c.in-Partition.field-2 c.in-Partition.is in
    ready_can ready.0 c.args.form.now (heads.Partition c.in-Partition.name c.in-Partition.bounds) _
    (subst (IsReady ready.0 c.args.form.now) seen ready.1)

pub divide_of-requires : goal.divide_of-requires
divide_of-requires c =
    let ready = c.requires.ready in
    ready_can ready.0 c.args.form.now (heads.Divide c.in-Divide.size) _
    (subst (IsReady ready.0 c.args.form.now)
    (seen_divide c.args.term.now c.in-Divide.size c.in-Divide.field-1 c.in-Divide.is)
    ready.1)

pub encode_of-requires-clause-can : goal.encode_of-requires-clause-can
encode_of-requires-clause-can c =
    let ready = c.requires.ready in
    let seen = seen_encode c.args.term.now c.in-Encode.name c.in-Encode.code c.in-Encode.field-2
    c.in-Encode.is in
    ready_can ready.0 c.args.form.now (heads.Encode c.in-Encode.name c.in-Encode.code) _
    (subst (IsReady ready.0 c.args.form.now) seen ready.1)

pub index_of-requires-clause-can : goal.index_of-requires-clause-can
index_of-requires-clause-can c =
    let ready = c.requires.ready in
    let seen = seen_index c.args.term.now c.in-Index.name c.in-Index.field-1 c.in-Index.field-2
    c.in-Index.is in
    ready_can ready.0 c.args.form.now (heads.Index c.in-Index.name) _
    (subst (IsReady ready.0 c.args.form.now) seen ready.1)
