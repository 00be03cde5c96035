use Rattle.std.proofs.Common.{◌∙◌, ap}
use Rattle.gx_engine.specs.Steps.{leaves_of as engine_leaves}
use Rattle.gx_play.proofs.HoldingLemmas.{at_first}
use Rattle.gx_shares.proofs.OverLemmas.{played_out, left_out, played_none, left_none, kept_none}
use Rattle.gx_shares.proofs.over_leaves.share_over.Goals as goal

pub returns-in-Ok-clause-answered : goal.returns-in-Ok-clause-answered
returns-in-Ok-clause-answered g c = λ told s holds.
    let e = c.start-engine.result in
    let begins = c.start-engine.ensures.begins in
    let at = at_first g.B.View c.args.schema c.args.built s c.args.leaves e holds begins.leaves_are
    (c.start-engine.ensures.stands s holds.working_is holds.kept_same) in
    played_out g.B.View g.met.B.Leaves.calm_means g.met.B.Leaves.calm_now c.args.schema
    c.args.built s c.args.leaves c.into_leaves.result holds e begins at c.in-Ok.sessions
    c.play_out-played.new.sessions c.in-Ok.ensures.starts (c.in-Ok.ensures.stands s at)
    (c.into_leaves.ensures ∙ ap engine_leaves c.into_engine.ensures) c.play_out-played.result
    (c.play_out-played.ensures.played told)

pub returns-in-Ok-clause-crash : goal.returns-in-Ok-clause-crash
returns-in-Ok-clause-crash g c = λ told s holds start calm.
    let e = c.start-engine.result in
    let begins = c.start-engine.ensures.begins in
    let at = at_first g.B.View c.args.schema c.args.built s c.args.leaves e holds begins.leaves_are
    (c.start-engine.ensures.stands s holds.working_is holds.kept_same) in
    left_out g.B.View g.met.B.Leaves.calm_means g.met.B.Leaves.calm_now c.args.schema
    c.args.built s c.args.leaves c.into_leaves.result holds e begins at c.in-Ok.sessions
    c.play_out-played.new.sessions c.in-Ok.ensures.starts (c.in-Ok.ensures.stands s at)
    (c.into_leaves.ensures ∙ ap engine_leaves c.into_engine.ensures) c.play_out-played.result
    (c.play_out-played.ensures.played told) start calm

-- there was no memory for the sessions
pub returns-in-Err-clause-answered : goal.returns-in-Err-clause-answered
returns-in-Err-clause-answered g c = λ told s holds.
    let e = c.start-engine.result in
    let begins = c.start-engine.ensures.begins in
    let at = at_first g.B.View c.args.schema c.args.built s c.args.leaves e holds begins.leaves_are
    (c.start-engine.ensures.stands s holds.working_is holds.kept_same) in
    played_none g.B.View g.met.B.Leaves.calm_means g.met.B.Leaves.calm_now c.args.schema
    c.args.built s c.args.leaves c.into_leaves-in-Err.result holds e begins at
    (c.into_leaves-in-Err.ensures ∙ ap engine_leaves c.in-Err.ensures.given_back)

pub returns-in-Err-clause-crash : goal.returns-in-Err-clause-crash
returns-in-Err-clause-crash g c = λ told s holds start calm.
    let e = c.start-engine.result in
    let begins = c.start-engine.ensures.begins in
    let at = at_first g.B.View c.args.schema c.args.built s c.args.leaves e holds begins.leaves_are
    (c.start-engine.ensures.stands s holds.working_is holds.kept_same) in
    left_none g.B.View g.met.B.Leaves.calm_means g.met.B.Leaves.calm_now c.args.schema
    c.args.built s c.args.leaves c.into_leaves-in-Err.result holds e begins at
    (c.into_leaves-in-Err.ensures ∙ ap engine_leaves c.in-Err.ensures.given_back) start calm

pub returns-in-Err-clause-keeps : goal.returns-in-Err-clause-keeps
returns-in-Err-clause-keeps g c =
    kept_none g.B.View c.args.leaves c.into_leaves-in-Err.result
    (c.into_leaves-in-Err.ensures ∙ ap engine_leaves c.in-Err.ensures.given_back
    ∙ c.start-engine.ensures.begins.leaves_are)
