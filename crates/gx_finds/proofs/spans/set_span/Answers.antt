use Rattle.std.proofs.Common.{inl}
use Rattle.gx_values.proofs.SpanLemmas.{equal_span}
use Rattle.gx_finds.proofs.spans.set_span.Goals as goal

pub returns-in-Equal-clause-meets : goal.returns-in-Equal-clause-meets
returns-in-Equal-clause-meets c =
    let cond = c.args.cond.now in
    let r = c.requires in
    (equal_span c.args.kind cond.op cond.bound _ _ r.kind r.fits (inl c.in-Equal.is) r.op
    c.set_value.ensures c.set_value-in-Equal.ensures).holds

pub returns-in-Equal-clause-whole : goal.returns-in-Equal-clause-whole
returns-in-Equal-clause-whole c =
    let cond = c.args.cond.now in
    let r = c.requires in
    (equal_span c.args.kind cond.op cond.bound _ _ r.kind r.fits (inl c.in-Equal.is) r.op
    c.set_value.ensures c.set_value-in-Equal.ensures).whole
