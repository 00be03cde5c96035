use Rattle.std.proofs.Common.{subst}
use Rattle.gx_play.specs.Endings.{IsEnded}
use Rattle.gx_explain.specs.Explaining.{fields_in}
use Rattle.gx_explain.proofs.ExplainEndLemmas.{done_said, end_said}
use Rattle.gx_explain.proofs.script.explain_script.Goals as goal

pub returns-in-Ok-clause-said : goal.returns-in-Ok-clause-said
returns-in-Ok-clause-said g c = λ told.
    done_said c.args.schema.now (fields_in c.args.schema.now c.args.built.now.files)
    (g.M.Device.content c.args.machine.now) (g.M.Device.content c.explain_heard.new.machine)
    (c.in-Ok.ensures.said told)

pub returns-in-Err-clause-said : goal.returns-in-Err-clause-said
returns-in-Err-clause-said g c = λ told.
    let old = g.M.Device.content c.args.machine.now in
    let mid = g.M.Device.content c.explain_heard.new.machine in
    let new = g.M.Device.content c.end.new.machine in
    end_said c.args.schema.now (fields_in c.args.schema.now c.args.built.now.files) old mid new
    c.in-Err.why
    c.end.result (c.in-Err.ensures.said told)
    (subst (λ w. IsEnded w mid new c.end.result) c.from.ensures
    (record { due = c.end.ensures.due; words = c.end.ensures.words told }))
