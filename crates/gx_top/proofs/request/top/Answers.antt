use Rattle.std.proofs.Common.{refl, sym, subst}
use Rattle.gx_play.specs.declared.ending.Ending.TheVariants as ending
use Rattle.gx_requests.specs.Words.{texts_of, IsRequest}
use Rattle.gx_top.specs.Promised.{IsPromised}
use Rattle.gx_top.proofs.JoinLemmas.{joined_refusal}
use Rattle.gx_top.proofs.KeepLemmas.{keeps_all}
use Rattle.gx_top.proofs.request.top.Goals as goal

pub returns-in-Some-Check-clause-promised : goal.returns-in-Some-Check-clause-promised
returns-in-Some-Check-clause-promised g c = λ told.
    let is = subst (IsRequest (texts_of c.args.words.now)) c.in-Some-Check.field-0-is
    c.in-Some-Check.ensures.some in
    subst (λ w. IsPromised w (g.M.Device.content c.args.machine)
    (g.M.Device.content c.check.result.1) c.check.result.0) (sym is)
    (c.check.ensures.promised told)

pub returns-in-Some-Try-clause-promised : goal.returns-in-Some-Try-clause-promised
returns-in-Some-Try-clause-promised g c = λ told.
    let is = subst (IsRequest (texts_of c.args.words.now)) c.in-Some-Try.field-0-is
    c.in-Some-Try.ensures.some in
    subst (λ w. IsPromised w (g.M.Device.content c.args.machine)
    (g.M.Device.content c.try_script.result.1) c.try_script.result.0) (sym is)
    (c.try_script.ensures.promised told)

pub returns-in-Some-Explain-clause-promised : goal.returns-in-Some-Explain-clause-promised
returns-in-Some-Explain-clause-promised g c = λ told.
    let is = subst (IsRequest (texts_of c.args.words.now)) c.in-Some-Explain.field-0-is
    c.in-Some-Explain.ensures.some in
    subst (λ w. IsPromised w (g.M.Device.content c.args.machine)
    (g.M.Device.content c.explain.result.1) c.explain.result.0) (sym is)
    (c.explain.ensures.promised told)

pub returns-in-Some-Make-clause-promised : goal.returns-in-Some-Make-clause-promised
returns-in-Some-Make-clause-promised g c = λ told.
    let is = subst (IsRequest (texts_of c.args.words.now)) c.in-Some-Make.field-0-is
    c.in-Some-Make.ensures.some in
    subst (λ w. IsPromised w (g.M.Device.content c.args.machine)
    (g.M.Device.content c.make.result.1) c.make.result.0) (sym is.2)
    (c.make.ensures.promised told is.0 is.1)

pub returns-in-Some-Run-clause-promised : goal.returns-in-Some-Run-clause-promised
returns-in-Some-Run-clause-promised g c = λ told.
    let is = subst (IsRequest (texts_of c.args.words.now)) c.in-Some-Run.field-0-is
    c.in-Some-Run.ensures.some in
    subst (λ w. IsPromised w (g.M.Device.content c.args.machine)
    (g.M.Device.content c.run_script.result.1) c.run_script.result.0) (sym is)
    (c.run_script.ensures.promised told)

pub returns-in-Some-Share-clause-promised : goal.returns-in-Some-Share-clause-promised
returns-in-Some-Share-clause-promised g c = λ told.
    let is = subst (IsRequest (texts_of c.args.words.now)) c.in-Some-Share.field-0-is
    c.in-Some-Share.ensures.some in
    subst (λ w. IsPromised w (g.M.Device.content c.args.machine)
    (g.M.Device.content c.share_script.result.1) c.share_script.result.0) (sym is)
    (c.share_script.ensures.promised told)

pub returns-in-Some-Inspect-clause-promised : goal.returns-in-Some-Inspect-clause-promised
returns-in-Some-Inspect-clause-promised g c = λ told.
    let is = subst (IsRequest (texts_of c.args.words.now)) c.in-Some-Inspect.field-0-is
    c.in-Some-Inspect.ensures.some in
    subst (λ w. IsPromised w (g.M.Device.content c.args.machine)
    (g.M.Device.content c.inspect.result.1) c.inspect.result.0) (sym is)
    (c.inspect.ensures.promised told)

pub returns-in-Some-Work-clause-promised : goal.returns-in-Some-Work-clause-promised
returns-in-Some-Work-clause-promised g c = λ told.
    let is = subst (IsRequest (texts_of c.args.words.now)) c.in-Some-Work.field-0-is
    c.in-Some-Work.ensures.some in
    subst (λ w. IsPromised w (g.M.Device.content c.args.machine)
    (g.M.Device.content c.work.result.1) c.work.result.0) (sym is.4)
    (c.work.ensures.promised told is.0 is.1 is.2 is.3)

pub returns-in-None-clause-promised : goal.returns-in-None-clause-promised
returns-in-None-clause-promised g c = λ told.
    joined_refusal (texts_of c.args.words.now) (g.M.Device.content c.args.machine)
    (g.M.Device.content c.refuse.result.1) c.refuse.result.0 ending.Words
    (c.in-None.ensures.none refl) (c.refuse.ensures.refused told refl)
    (keeps_all (texts_of c.args.words.now) (g.M.Device.content c.args.machine)
    (g.M.Device.content c.refuse.result.1) c.refuse.ensures.keeps)
