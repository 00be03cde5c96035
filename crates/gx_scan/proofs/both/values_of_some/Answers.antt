use Rattle.std.proofs.Common.{◌∙◌, map, sym, ap, subst, arith}
use Rattle.std.specs.Prelude.{not}
use Rattle.gx_ports.specs.declared.leaves.Entry.{Entry}
use Rattle.gx_schema.specs.Lookups.{data_fields}
use Rattle.gx_values.specs.Values.{AreFit}
use Rattle.gx_actual.specs.Bodies.{body_of}
use Rattle.gx_split.specs.Groups.{chosen, defaults_of}
use Rattle.gx_scan.specs.Groups.{group_row}
use Rattle.gx_scan.proofs.BothLemmas.{first_read, others_read, defaults_read}
use Rattle.gx_scan.proofs.both.values_of_some.Goals as goal

pub returns-in_default-clause-read : goal.returns-in_default-clause-read
returns-in_default-clause-read c = λ r split is.
    let g = c.args.groups.now in
    let fields = data_fields c.args.file.now in
    let es = c.args.entries.now in
    let e : Entry = record { key = c.entry.result.key.now; body = c.entry.result.body.now } in
    let front = first_read g fields r es is e c.entry.ensures in
    absurd (c.in_default.ensures (group_row g.mask.now r) split.1 front)

pub returns-then-len-eq1-clause-read : goal.returns-then-len-eq1-clause-read
returns-then-len-eq1-clause-read c = λ r split is.
    let g = c.args.groups.now in
    let fields = data_fields c.args.file.now in
    let es = c.args.entries.now in
    let e : Entry = record { key = c.entry.result.key.now; body = c.entry.result.body.now } in
    let front = first_read g fields r es is e c.entry.ensures in
    let same = c.data_fields-fields.ensures in
    let fit = subst (λ fs. AreFit fs r.1) (sym same) split.0.1 in
    let first = c.in-Some.ensures (group_row g.mask.now r) split.1 front in
    let defaults = c.as_slice.ensures.value ∙ c.in_ok-defaults.ensures
    ∙ ap (λ fs. body_of (defaults_of (chosen (map not g.mask.now) fs))) same
    ∙ defaults_read g fields r es is (omega (arith, c.len.ensures, c.if-len-eq1.true)) split.0.1 in
    c.read_both.ensures.read r.1 fit first (tt, defaults)

pub returns-in_default-rest_of-clause-read : goal.returns-in_default-rest_of-clause-read
returns-in_default-rest_of-clause-read c = λ r split is.
    let g = c.args.groups.now in
    let fields = data_fields c.args.file.now in
    let es = c.args.entries.now in
    let e : Entry = record { key = c.entry.result.key.now; body = c.entry.result.body.now } in
    let front = first_read g fields r es is e c.entry.ensures in
    let d : Entry = record { key = c.entry-2.result.key.now; body = c.entry-2.result.body.now } in
    let next = others_read g fields r es is d c.entry-2.ensures in
    absurd (c.in_default-rest_of.ensures (group_row (map not g.mask.now) r) (split.2 next.0) next.1)

pub returns-clause-read : goal.returns-clause-read
returns-clause-read c = λ r split is.
    let g = c.args.groups.now in
    let fields = data_fields c.args.file.now in
    let es = c.args.entries.now in
    let e : Entry = record { key = c.entry.result.key.now; body = c.entry.result.body.now } in
    let front = first_read g fields r es is e c.entry.ensures in
    let d : Entry = record { key = c.entry-2.result.key.now; body = c.entry-2.result.body.now } in
    let next = others_read g fields r es is d c.entry-2.ensures in
    let same = c.data_fields-fields.ensures in
    let fit = subst (λ fs. AreFit fs r.1) (sym same) split.0.1 in
    let first = c.in-Some.ensures (group_row g.mask.now r) split.1 front in
    let others = c.in-Some-rest_of.ensures (group_row (map not g.mask.now) r) (split.2 next.0)
    next.1 in
    c.read_both-2.ensures.read r.1 fit first others
