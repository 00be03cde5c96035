use Rattle.std.proofs.Common.{sym, subst}
use Rattle.gx_model.specs.Play.{start_at}
use Rattle.gx_play.specs.Plays.{IsAt, built_of, leaves_of}
use Rattle.gx_play.specs.Endings.{is_fault}
use Rattle.gx_working.proofs.DoneLemmas.{worked_over}
use Rattle.gx_working.proofs.LeftLemmas.{left_moved, left_over}
use Rattle.gx_working.proofs.working.play_work.Goals as goal

pub returns-clause-worked : goal.returns-clause-worked
returns-clause-worked g c = λ s h.
    let at : IsAt g.B.View (start_at s) c.start-engine.result = record {
      stands = c.start-engine.ensures.stands s h.working_is h.kept_same;
      whole_is = subst g.B.View.whole (sym c.start-engine.ensures.begins.leaves_are) h.whole_is;
      kept_whole_is = subst g.B.View.kept_whole (sym c.start-engine.ensures.begins.leaves_are)
          h.kept_whole_is;
    } in
    worked_over g.B.View c.args.records s c.start-engine.result c.work-line.new.engine c.args.leaves
    c.into_leaves.result c.args.built c.work-line.result c.start-engine.ensures.begins.built_is
    c.start-engine.ensures.begins.leaves_are c.into_leaves.ensures (c.work-line.ensures.worked s at)

pub returns-clause-crash : goal.returns-clause-crash
returns-clause-crash g c = λ s h start calm.
    let e = c.start-engine.result in
    let n = c.args.records in
    let begins = c.start-engine.ensures.begins in
    let at : IsAt g.B.View (start_at s) e = record {
      stands = c.start-engine.ensures.stands s h.working_is h.kept_same;
      whole_is = subst g.B.View.whole (sym begins.leaves_are) h.whole_is;
      kept_whole_is = subst g.B.View.kept_whole (sym begins.leaves_are) h.kept_whole_is;
    } in
    left_over g.B.View n s c.requires.few g.met.B.Leaves.calm_means c.args.built
    (is_fault c.work-line.result) c.args.leaves c.into_leaves.result
    (left_moved g.B.View n s c.requires.few (built_of e) c.args.built (is_fault c.work-line.result)
    (leaves_of e) c.args.leaves (leaves_of c.work-line.new.engine) c.into_leaves.result begins.built_is
    begins.leaves_are c.into_leaves.ensures
    (c.work-line.ensures.crash s at start
    (subst (λ l. g.B.View.calm l start) (sym begins.leaves_are) calm)))
