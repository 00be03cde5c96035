use Rattle.std.proofs.Common.{sym, subst}
use Rattle.gx_play.specs.Endings.{is_fault}
use Rattle.gx_play.specs.Overs.{IsPlayedOf, LeavesPlayOf}
use Rattle.gx_play.specs.Plays.{KeepsState}
use Rattle.gx_play.specs.Readings.{EndsAs}
use Rattle.gx_operations.specs.declared.kinds.ScriptKind.{ScriptKind}
use Rattle.gx_operations.specs.Kinds.{over_play, IsEndOfKind}
use Rattle.gx_operations.proofs.PlayerLemmas.{line_played, line_leaves}
use Rattle.gx_operations.proofs.kinds.play_as.Goals as goal

pub returns-in-Lines-clause-answered : goal.returns-in-Lines-clause-answered
returns-in-Lines-clause-answered g c = λ told s holding.
    let view = g.B.View in
    let x = c.args.schema in
    let b = c.args.built in
    let old = c.args.leaves in
    let new = c.play_over.result.1 in
    let content = view.content in
    subst (λ (k : ScriptKind). IsPlayedOf
    (over_play k x b (view.limit old) s (content old).script) (KeepsState view x b new)
    (content old).now.said (content new).now.said c.play_over.result.0) (sym c.in-Lines.is)
    (line_played x b (view.limit old) s (content old).script (KeepsState view x b new)
    (content old).now.said (content new).now.said c.play_over.result.0
    (c.play_over.ensures.answered told s holding))

pub returns-in-Lines-clause-crash : goal.returns-in-Lines-clause-crash
returns-in-Lines-clause-crash g c = λ told s holding start calm.
    let view = g.B.View in
    let x = c.args.schema in
    let b = c.args.built in
    let old = c.args.leaves in
    let new = c.play_over.result.1 in
    let script = (view.content old).script in
    subst (λ (k : ScriptKind). LeavesPlayOf view x b (over_play k x b (view.limit old) s script)
    (is_fault c.play_over.result.0) old new) (sym c.in-Lines.is)
    (line_leaves x b (view.limit old) s script view (is_fault c.play_over.result.0) old new
    (c.play_over.ensures.crash told s holding start calm))

pub returns-in-Lines-clause-reads : goal.returns-in-Lines-clause-reads
returns-in-Lines-clause-reads g c = λ told.
    subst (λ (k : ScriptKind). EndsAs
    (IsEndOfKind k c.args.schema (g.B.View.content c.args.leaves).script) c.play_over.result.0)
    (sym c.in-Lines.is) (c.play_over.ensures.reads told)

pub returns-in-Turns-clause-answered : goal.returns-in-Turns-clause-answered
returns-in-Turns-clause-answered g c = λ told s holding.
    let view = g.B.View in
    let x = c.args.schema in
    let b = c.args.built in
    let old = c.args.leaves in
    let new = c.share_over.result.1 in
    let content = view.content in
    subst (λ (k : ScriptKind). IsPlayedOf
    (over_play k x b (view.limit old) s (content old).script) (KeepsState view x b new)
    (content old).now.said (content new).now.said c.share_over.result.0) (sym c.in-Turns.is)
    (c.share_over.ensures.answered told s holding)

pub returns-in-Turns-clause-crash : goal.returns-in-Turns-clause-crash
returns-in-Turns-clause-crash g c = λ told s holding start calm.
    let view = g.B.View in
    let x = c.args.schema in
    let b = c.args.built in
    let old = c.args.leaves in
    subst (λ (k : ScriptKind). LeavesPlayOf view x b
    (over_play k x b (view.limit old) s (view.content old).script)
    (is_fault c.share_over.result.0) old c.share_over.result.1) (sym c.in-Turns.is)
    (c.share_over.ensures.crash told s holding start calm)

pub returns-in-Turns-clause-reads : goal.returns-in-Turns-clause-reads
returns-in-Turns-clause-reads g c = λ told.
    subst (λ (k : ScriptKind). EndsAs
    (IsEndOfKind k c.args.schema (g.B.View.content c.args.leaves).script) c.share_over.result.0)
    (sym c.in-Turns.is) (c.share_over.ensures.reads told)
