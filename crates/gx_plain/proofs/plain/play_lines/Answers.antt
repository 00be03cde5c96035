use Rattle.std.proofs.Common.{◌≡◌, ◌≤◌, ◌++◌, Err, length, sym, ap, subst, ◌∙◌, arith}
use Rattle.std.specs.Prelude.{is_some}
use Rattle.gx_commands.specs.Lines.{with_line}
use Rattle.gx_commands.proofs.LineCounts.{few_lines}
use Rattle.gx_model.specs.Play.{end_at}
use Rattle.gx_plain.specs.Plain.{IsBadLine}
use Rattle.gx_plain.proofs.LineLemmas.{at_start, after_line, at_end, at_stop, at_bad_line}
use Rattle.gx_plain.proofs.plain.play_lines.Goals as goal

pub lines-init : goal.lines-init
lines-init c = record {
  of_schema = c.in_ok-moment.ensures.of_schema;
  few = omega (
    arith,
    subst (λ ls. length ls.lines ≤ 16777217) (sym c.new-lines.ensures.lines)
        (few_lines c.args.script.now),
  );
  so_far = at_start _ _ _ _ _ c.new.ensures.items c.new-lines.ensures.lines
      c.in_ok-moment.ensures.at;
}

pub lines-preserved : goal.lines-preserved
lines-preserved c =
    let next : c.lines.lines ≡ with_line c.in-Ok-Some.line.now c.next_line.new.self =
    rw c.in-Ok-Some.field-0-is at c.in-Ok-Some.ensures.next in
    let so = c.lines.invariant.so_far in
    record {
      of_schema = c.in-Ok.ensures.of_schema;
      few = omega (arith, ap (λ ls. length ls.lines) next, c.lines.invariant.few);
      so_far = after_line c.args.schema.now c.args.script.now c.lines.said _ c.in-Ok.text
          c.in-Ok-Some.line.now c.lines.moment c.play_line.new.moment c.lines.lines
          c.next_line.new.self c.lines.number next so (c.in-Ok.ensures.done so.now so.at)
          (c.in_ok-extend_from_slice-in-Ok.ensures.items
          ∙ (λ i. c.said.view_is i ++ c.as_slice.ensures i));
    }

pub returns-in-Err-Bad : goal.returns-in-Err-Bad
returns-in-Err-Bad c =
    let next : c.lines.lines ≡ with_line c.in-Ok-Some.line.now c.next_line.new.self =
    rw c.in-Ok-Some.field-0-is at c.in-Ok-Some.ensures.next in
    at_bad_line c.args.schema.now c.args.script.now c.lines.said c.in-Ok-Some.line.now
    c.lines.moment c.lines.lines c.next_line.new.self c.lines.number _ next
    c.lines.invariant.so_far
    (subst (λ w. IsBadLine c.args.schema.now (is_some c.lines.moment.working) c.in-Ok-Some.line.now
    w) (sym c.in-Err-Bad.why-is)
    (c.in-Err-Bad.ensures.bad c.in-Err-Bad.why (ap Err c.in-Err-Bad.field-0-is)))

pub returns-in-Ok-None : goal.returns-in-Ok-None
returns-in-Ok-None c =
    let none = rw c.in-Ok-None.field-0-is at c.in-Ok-None.ensures.next in
    at_end c.args.schema.now c.args.script.now c.lines.said c.lines.moment c.lines.lines
    c.lines.number c.end_at.result none.0 c.lines.invariant.so_far (c.end_at.ensures
    ∙ ap (end_at c.lines.number) c.is_some.ensures)

pub returns-in-Err : goal.returns-in-Err
returns-in-Err c = at_stop c.args.schema.now c.args.script.now c.lines.said c.lines.moment
    c.lines.lines c.lines.number c.in-Err.why c.in-Err.ensures.next.0 c.lines.invariant.so_far
