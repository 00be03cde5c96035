use Rattle.gx_shares.proofs.StepLemmas.{none_read, turn_read, line_none, whole_line, step_bad, read_whole, read_none}
use Rattle.gx_shares.proofs.carry.play_line.Goals as goal

pub returns-in-Ok-None-clause-step : goal.returns-in-Ok-None-clause-step
returns-in-Ok-None-clause-step g c =
    line_none g.B.View g.met.B.Leaves.calm_means g.met.B.Leaves.calm_now c.args.line.now
    c.args.sessions.now
    (none_read c.args.line.now c.in-Ok-None.field-0 c.in-Ok-None.field-0-is
    c.in-Ok-None.ensures.read) c.requires.ready c.requires.going

pub returns-in-Ok-None-clause-reads : goal.returns-in-Ok-None-clause-reads
returns-in-Ok-None-clause-reads g c =
    read_none c.args.line.now c.args.sessions.now
    (none_read c.args.line.now c.in-Ok-None.field-0 c.in-Ok-None.field-0-is
    c.in-Ok-None.ensures.read)

pub returns-in-Ok-Some-clause-step : goal.returns-in-Ok-Some-clause-step
returns-in-Ok-Some-clause-step g c =
    whole_line g.B.View c.args.line.now c.in-Ok-Some.session _ c.args.sessions.now
    c.play_turn.new.sessions c.play_turn.result
    (turn_read c.args.line.now c.in-Ok-Some.field-0 c.in-Ok-Some.session c.in-Ok-Some.at
    c.in-Ok-Some.field-0-is c.in-Ok-Some.ensures.read) c.play_turn.ensures.step

pub returns-in-Ok-Some-clause-reads : goal.returns-in-Ok-Some-clause-reads
returns-in-Ok-Some-clause-reads g c =
    read_whole c.args.line.now c.in-Ok-Some.session _ c.args.sessions.now
    c.play_turn.new.sessions c.play_turn.result
    (turn_read c.args.line.now c.in-Ok-Some.field-0 c.in-Ok-Some.session c.in-Ok-Some.at
    c.in-Ok-Some.field-0-is c.in-Ok-Some.ensures.read) c.play_turn.ensures.reads

pub returns-in-Err-clause-step : goal.returns-in-Err-clause-step
returns-in-Err-clause-step g c =
    step_bad g.B.View g.met.B.Leaves.calm_means g.met.B.Leaves.calm_now _ _ _ c.args.sessions.now
    c.in-Err.why c.requires.ready
