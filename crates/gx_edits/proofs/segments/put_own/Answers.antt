use Rattle.std.proofs.Common.{sym, subst}
use Rattle.gx_stack.specs.Seen.{tree_of}
use Rattle.gx_edits.specs.declared.one_record.Previous.{Previous}
use Rattle.gx_edits.specs.OneRecord.{Puts, StandsBefore}
use Rattle.gx_edits.proofs.SegmentLemmas.{there_before, puts_so}
use Rattle.gx_edits.proofs.segments.put_own.Goals as goal

pub returns-in_default : goal.returns-in_default
returns-in_default g c = puts_so g.B.View _ _ _ _ _ _ _ _ (λ gone more. tt) c.put_alone.ensures

pub returns-in-SameOthers : goal.returns-in-SameOthers
returns-in-SameOthers g c =
    let t = tree_of c.args.node.now in
    let fields = c.args.new.fields in
    subst (λ (previous : Previous). Puts g.B.View t c.args.new.key.now fields
    (StandsBefore previous t fields) c.args.leaves.now c.put_first.new.leaves c.put_first.result)
    (sym c.in-SameOthers.is) c.put_first.ensures

pub returns-in-Absent : goal.returns-in-Absent
returns-in-Absent g c =
    puts_so g.B.View _ _ _ _ _ _ _ _
    (there_before c.args.previous (tree_of c.args.node.now) c.args.new.fields) c.put_both.ensures
