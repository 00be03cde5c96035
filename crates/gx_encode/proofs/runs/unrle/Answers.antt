use Rattle.std.proofs.Common.{rules, ◌≡◌, ◌-◌, ◌∙◌, length, get_or, drop, Some, sym, ap, subst}
use Rattle.gx_encode.specs.Runs.{is_next}
use Rattle.gx_encode.proofs.RunSteps.{IsReading, run_more, odd_read, not_next, two_front, one_left}
use Rattle.gx_encode.proofs.runs.unrle.Goals as goal

pub returns-then-not-is_next : goal.returns-then-not-is_next
returns-then-not-is_next c =
    let rest = c.loop-rest.rest.now in
    let text = c.loop-rest.text.items in
    let room : c.from-in-len2-up.result - c.len.result ≡ c.args.longest - length text =
    search rules in
    let front = two_front rest c.in-len2-up.len_at_least in
    let now = subst (IsReading c.args.longest c.args.bytes.now c.loop-rest.previous text) front
    c.loop-rest.invariant in
    let last = sym (ap (is_next c.loop-rest.previous (get_or rest 0 0) (get_or rest 1 0)) room)
    ∙ sym c.is_next.ensures ∙ c.if-not-is_next.true in
    not_next c.args.longest c.args.bytes.now c.loop-rest.previous text (drop 2 rest)
    (get_or rest 0 0) (get_or rest 1 0) now last

pub loop-rest-preserved : goal.loop-rest-preserved
loop-rest-preserved c =
    let rest = c.loop-rest.rest.now in
    let text = c.loop-rest.text.items in
    let room : c.from-in-len2-up.result - c.len.result ≡ c.args.longest - length text =
    search rules in
    let front = two_front rest c.in-len2-up.len_at_least in
    let now = subst (IsReading c.args.longest c.args.bytes.now c.loop-rest.previous text) front
    c.loop-rest.invariant in
    let next = sym (ap (is_next c.loop-rest.previous (get_or rest 0 0) (get_or rest 1 0)) room)
    ∙ sym c.is_next.ensures ∙ c.if-not-is_next.false in
    subst (IsReading c.args.longest c.args.bytes.now (Some (get_or rest 1 0))
    c.push_run.new.text.items) (sym c.behind-rest.ensures)
    (run_more c.args.longest c.args.bytes.now c.loop-rest.previous text
    (drop 2 rest) c.push_run.new.text.items (get_or rest 0 0) (get_or rest 1 0) now next
    c.in_ok-push_run.ensures)

pub returns-else-is_empty : goal.returns-else-is_empty
returns-else-is_empty c =
    let rest = c.loop-rest.rest.now in
    let one = one_left rest c.in_default.len_below c.if-is_empty.ensures in
    odd_read c.args.longest c.args.bytes.now c.loop-rest.previous c.loop-rest.text.items
    (get_or rest 0 0) (subst
    (IsReading c.args.longest c.args.bytes.now c.loop-rest.previous c.loop-rest.text.items)
    one c.loop-rest.invariant)
