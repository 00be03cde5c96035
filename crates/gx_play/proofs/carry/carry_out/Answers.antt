use Rattle.std.proofs.Common.{◌∙◌, Bool, false, IsTrue, Ok, Err, sym, ap, subst}
use Rattle.gx_ports.specs.Stops.{is_fault}
use Rattle.gx_engine.specs.Steps.{schema_of, built_of, leaves_of}
use Rattle.gx_play.specs.declared.play.Answers.{Answers}
use Rattle.gx_play.specs.Answering.{are_told}
use Rattle.gx_play.specs.Images.{LeavesAsked}
use Rattle.gx_play.proofs.PlayLemmas.{is_err}
use Rattle.gx_play.proofs.AnsweringLemmas.{asked_cause, err_same}
use Rattle.gx_play.proofs.CrashLemmas.{states_leave, said_leaves}
use Rattle.gx_play.proofs.carry.carry_out.Goals as goal

pub returns-in_err-step-in-Said-clause-crash : goal.returns-in_err-step-in-Said-clause-crash
returns-in_err-step-in-Said-clause-crash g c = λ told p at start calm.
    subst (λ (b : Bool). LeavesAsked g.B.View (schema_of c.args.engine.now)
    (built_of c.args.engine.now) c.args.answers p c.args.asked b (leaves_of c.args.engine.now)
    (leaves_of c.step.new.engine)) (ap is_fault (sym (is_err _ _ c.from_residual.ensures.1)))
    (states_leave g.B.View c.args.answers p c.args.asked c.args.engine.now c.step.new.engine _
    (c.in_err-step-in-Said.ensures.step.images p at start calm))

pub returns-in_err-answer_all-in-Said-clause-crash
    : goal.returns-in_err-answer_all-in-Said-clause-crash
returns-in_err-answer_all-in-Said-clause-crash g c = λ told p at start calm.
    let keeps = c.in_ok-step-in-Said.ensures.step.rest in
    said_leaves g.B.View g.met.B.Leaves.calm_means g.met.B.Leaves.calm_now c.args.answers p
    c.args.asked c.args.engine.now c.step.new.engine c.answer_all.new.engine (Ok tt) _
    c.as_slice.result.now c.step.new.out
    (is_fault c.from_residual-in_err-answer_all-in-Said.result) c.in-Said.is c.clear.ensures.items
    c.as_slice.ensures at (c.in_ok-step-in-Said.ensures.step.images p at start calm) keeps
    (c.in_ok-step-in-Said.ensures.step.carried p at) c.answer_all.ensures.same
    (c.answer_all.ensures.says.front
    (subst (λ (a : Answers). IsTrue (are_told g.B.View.tells a)) c.in-Said.is told))

pub returns-in_ok-answer_all-in-Said-clause-crash
    : goal.returns-in_ok-answer_all-in-Said-clause-crash
returns-in_ok-answer_all-in-Said-clause-crash g c = λ told p at start calm.
    let keeps = c.in_ok-step-in-Said.ensures.step.rest in
    said_leaves g.B.View g.met.B.Leaves.calm_means g.met.B.Leaves.calm_now c.args.answers p
    c.args.asked c.args.engine.now c.step.new.engine c.answer_all.new.engine (Ok tt) _
    c.as_slice.result.now c.step.new.out false c.in-Said.is c.clear.ensures.items
    c.as_slice.ensures at (c.in_ok-step-in-Said.ensures.step.images p at start calm) keeps
    (c.in_ok-step-in-Said.ensures.step.carried p at) c.answer_all.ensures.same
    (c.answer_all.ensures.says.front
    (subst (λ (a : Answers). IsTrue (are_told g.B.View.tells a)) c.in-Said.is told))

pub returns-in-Kept-clause-cause : goal.returns-in-Kept-clause-cause
returns-in-Kept-clause-cause g c = λ p at why is.
    asked_cause g.B.View p c.args.asked c.args.engine.now c.step-in-Kept.new.engine
    c.step-in-Kept.result at c.step-in-Kept.ensures.step.cause (c.step-in-Kept.ensures.step.full p at) why is

pub returns-in-Kept-clause-crash : goal.returns-in-Kept-clause-crash
returns-in-Kept-clause-crash g c = λ told p at start calm.
    states_leave g.B.View c.args.answers p c.args.asked c.args.engine.now
    c.step-in-Kept.new.engine (is_fault c.step-in-Kept.result)
    (c.step-in-Kept.ensures.step.images p at start calm)

pub returns-in_ok-answer_all-in-Said-clause-inside
    : goal.returns-in_ok-answer_all-in-Said-clause-inside
returns-in_ok-answer_all-in-Said-clause-inside g c =
    c.answer_all.ensures.same.inside ∙ c.in_ok-step-in-Said.ensures.step.rest.inside

pub returns-in-Kept-clause-inside : goal.returns-in-Kept-clause-inside
returns-in-Kept-clause-inside g c = c.step-in-Kept.ensures.step.rest.inside

pub returns-in_err-step-in-Said-clause-cause : goal.returns-in_err-step-in-Said-clause-cause
returns-in_err-step-in-Said-clause-cause g c = λ p at why e.
    asked_cause g.B.View p c.args.asked c.args.engine.now c.step.new.engine _ at
    c.in_err-step-in-Said.ensures.step.cause (c.in_err-step-in-Said.ensures.step.full p at) why
    (ap Err (err_same _ _ _ (is_err _ _ c.from_residual.ensures.1) e))
