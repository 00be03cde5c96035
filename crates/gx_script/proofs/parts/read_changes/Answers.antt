use Rattle.std.proofs.Common.{length, refl, sym, arith}
use Rattle.std.proofs.lemmas.Result.{err_from_is_err_and}
use Rattle.gx_commands.specs.Cutting.{words_in}
use Rattle.gx_script.proofs.LoopLaws.{change_shorter, changes_go_on, changes_end, change_fails}
use Rattle.gx_script.proofs.parts.read_changes.Goals as goal

pub loop-changes-init : goal.loop-changes-init
loop-changes-init c = rw c.new-changes.ensures.items
    (record { room = length (words_in c.args.line.now); enough = omega arith; same = refl })

pub returns-in_err-change : goal.returns-in_err-change
returns-in_err-change c =
    let p = err_from_is_err_and c.from_residual.result c.from_residual.ensures.1 in
    let failed = rw c.deref.ensures.value at c.in_err-change.ensures in
    rw (p.1, p.2) (change_fails c.args.file.now c.loop-changes.changes.items
    (words_in c.loop-changes.rest.now) c.in_err-change.field-0.0 _ c.loop-changes.invariant
    failed)

pub returns-then-is_end : goal.returns-then-is_end
returns-then-is_end c =
    let read = rw c.deref.ensures.value at c.in_ok-change.ensures in
    rw (c.push.ensures.items, c.in_ok-push.was)
    (changes_end c.args.file.now c.loop-changes.changes.items (words_in c.loop-changes.rest.now)
    c.in_ok-change.change (words_in c.in_ok-change.after.now) _ c.loop-changes.invariant
    read (rw c.if-is_end.true at (sym c.is_end.ensures)))

pub loop-changes-smaller : goal.loop-changes-smaller
loop-changes-smaller c =
    let read = rw c.deref.ensures.value at c.in_ok-change.ensures in
    change_shorter c.args.file.now c.loop-changes.changes.items (words_in c.loop-changes.rest.now)
    (c.in_ok-change.change, words_in c.in_ok-change.after.now) read

pub loop-changes-preserved : goal.loop-changes-preserved
loop-changes-preserved c =
    let read = rw c.deref.ensures.value at c.in_ok-change.ensures in
    rw (c.push.ensures.items, c.in_ok-push.was)
    (changes_go_on c.args.file.now c.loop-changes.changes.items
    (words_in c.loop-changes.rest.now) c.in_ok-change.change
    (words_in c.in_ok-change.after.now) _ c.loop-changes.invariant read
    (rw c.if-is_end.false at (sym c.is_end.ensures)))
