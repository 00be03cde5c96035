use Rattle.std.proofs.Common.{◌++◌, ◌∙◌, Err, refl, sym, ap, subst}
use Rattle.gx_play.specs.Plays.{IsBadAt}
use Rattle.gx_play.proofs.PlayLemmas.{is_err}
use Rattle.gx_explain.specs.Explaining.{fields_in, IsExplainedOn, IsLineExplained, IsSoFar}
use Rattle.gx_explain.proofs.ExplainLemmas.{after_line, at_line, at_fault}
use Rattle.gx_explain.proofs.explanation.explain_line.Goals as goal

pub returns-in_err-explained-clause-said : goal.returns-in_err-explained-clause-said
returns-in_err-explained-clause-said g c = λ told all before left last start number before_is so.
    let content = g.D.Device.content in
    let schema = c.args.schema.now in
    let indexed = fields_in schema c.args.built.now.files in
    let now = content c.args.device.now in
    subst (IsExplainedOn schema indexed all left c.args.number start now)
    (sym (is_err _ _ c.from_residual.ensures.1))
    (at_line schema indexed all before left last c.args.inside c.args.line.now
    c.in_err-explained.field-0.0 (Err c.in_err-explained.field-0.0) start now before_is so refl
    (λ n why e. subst (λ k. IsBadAt schema c.args.inside k c.args.line.now n why) number
    (c.in_err-explained.ensures.bad n why (ap Err e)))
    (λ why e. c.in_err-explained.ensures.unread why (ap Err e)))

pub returns-in_default-clause-said : goal.returns-in_default-clause-said
returns-in_default-clause-said g c = λ told all before left last start number before_is so.
    let content = g.D.Device.content in
    let schema = c.args.schema.now in
    let indexed = fields_in schema c.args.built.now.files in
    let x = c.in_ok-explained.explained in
    let front = c.say_all.ensures.says.front told in
    at_fault schema indexed all before left last front.0 c.args.inside c.args.line.now
    c.as_slice.result.now x start (content c.args.device.now) (content c.say_all.new.device)
    before_is so
    (subst (λ k. IsLineExplained schema indexed c.args.inside k c.args.line.now x) number
    c.in_ok-explained.ensures.explained) c.as_slice.ensures front.1

pub returns-clause-said : goal.returns-clause-said
returns-clause-said g c = λ told all before left last start number before_is so.
    let content = g.D.Device.content in
    let schema = c.args.schema.now in
    let indexed = fields_in schema c.args.built.now.files in
    let x = c.in_ok-explained.explained in
    let old = content c.args.device.now in
    let new = content c.say_all.new.device in
    subst (λ n. IsSoFar schema indexed all left n x.inside start new) (sym number)
    (after_line schema indexed all before left last c.args.inside c.args.line.now x start old new
    before_is so
    (subst (λ k. IsLineExplained schema indexed c.args.inside k c.args.line.now x) number
    c.in_ok-explained.ensures.explained)
    (c.in-Ok.ensures.says.all told ∙ ap (λ t. old.now.said ++ t) c.as_slice.ensures))
