use Rattle.std.proofs.Common.{sym, subst, List, ℕ}
use Rattle.gx_work.specs.Schema.{schema_lines}
use Rattle.gx_requests.specs.Checked.{IsAcceptedAs}
use Rattle.gx_requests.specs.Requests.{IsText}
use Rattle.gx_requests.specs.Words.{AskOfOne}
use Rattle.gx_requests.proofs.RequestLemmas.{all_checked, alone_named, asked_of_one}
use Rattle.gx_requests.proofs.RequestLemmas.{passed_on, unfetched}
use Rattle.gx_requests.proofs.reading.read_equation_text.Goals as goal

pub returns-clause-accepted : goal.returns-clause-accepted
returns-clause-accepted g c = λ told.
    let texts = (g.M.Device.content c.args.machine.now).aside.texts in
    let equation = c.args.equation.now in
    let there : IsText texts equation c.deref.result.now =
    subst (λ (text : List ℕ). IsText texts equation text) (sym c.deref.ensures.value)
    (c.in_ok-equation_text.ensures.text told) in
    all_checked (AskOfOne equation) texts _ _ schema_lines c.deref.result.now
    c.check_equation.result
    (λ words a asks. asked_of_one words texts a equation c.deref.result.now asks there)
    (c.check_equation.ensures.accepted schema_lines c.requires.means)
    (c.check_equation.ensures.unaccepted schema_lines c.requires.means)

pub returns-in_err-equation_text-clause-accepted : goal.returns-in_err-equation_text-clause-accepted
returns-in_err-equation_text-clause-accepted g c = λ told.
    let texts = (g.M.Device.content c.args.machine.now).aside.texts in
    let equation = c.args.equation.now in
    let why = c.in_err-equation_text.field-0.0 in
    passed_on (AskOfOne equation) IsAcceptedAs texts _ _ why c.from_residual.result
    (λ words a asks. unfetched g.M.Device.tells words texts _ _ equation why told
    (alone_named texts equation words a asks) c.in_err-equation_text.ensures.unfetched)
    c.from_residual.ensures.1
