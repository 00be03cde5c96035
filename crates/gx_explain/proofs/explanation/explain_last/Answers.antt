use Rattle.std.proofs.Common.{rules, ◌∙◌, List, ℕ, [], refl, sym, ap, subst}
use Rattle.gx_commands.specs.Lines.{with_line, no_lines}
use Rattle.gx_reader.specs.Reader.{meant, number_of}
use Rattle.gx_reader.proofs.FoundLemmas.{last_line, no_last_line}
use Rattle.gx_play.proofs.PlayLemmas.{is_err}
use Rattle.gx_explain.specs.Explaining.{fields_in, SaysPlans}
use Rattle.gx_explain.proofs.ExplainLemmas.{at_end}
use Rattle.gx_explain.proofs.explanation.explain_last.Goals as goal

pub returns-then-not-last_line-clause-said : goal.returns-then-not-last_line-clause-said
returns-then-not-last_line-clause-said g c = λ told all start so.
    let now = g.D.Device.content c.args.device.now in
    let none = no_last_line c.last_line.result c.args.reader.now c.last_line.new.self
    (search rules) c.last_line.ensures in
    at_end c.args.schema.now (fields_in c.args.schema.now c.args.built.now.files) all
    (meant c.args.reader.now []) (number_of c.args.reader.now) c.args.inside start now so none.0

pub returns-in_err-explain_line-clause-said : goal.returns-in_err-explain_line-clause-said
returns-in_err-explain_line-clause-said g c = λ told all start so.
    let schema = c.args.schema.now in
    let indexed = fields_in schema c.args.built.now.files in
    let last = last_line c.last_line.result c.args.reader.now c.last_line.new.self
    (search rules) c.last_line.ensures in
    subst (SaysPlans schema indexed all start (g.D.Device.content c.explain_line.new.device))
    (sym (is_err _ _ c.from_residual.ensures.1))
    (c.in_err-explain_line.ensures.said told all (meant c.args.reader.now []) no_lines
    (number_of c.args.reader.now) start (c.number-number.ensures ∙ last.1)
    (last.0 ∙ ap (λ (l : List ℕ). with_line l no_lines) (sym c.line.ensures.line)) so)

pub returns-clause-said : goal.returns-clause-said
returns-clause-said g c = λ told all start so.
    let schema = c.args.schema.now in
    let indexed = fields_in schema c.args.built.now.files in
    let new = g.D.Device.content c.explain_line.new.device in
    let last = last_line c.last_line.result c.args.reader.now c.last_line.new.self
    (search rules) c.last_line.ensures in
    at_end schema indexed all no_lines c.number-number.result c.in_ok-explain_line.field-0 start
    new
    (c.in_ok-explain_line.ensures.said told all (meant c.args.reader.now []) no_lines
    (number_of c.args.reader.now) start (c.number-number.ensures ∙ last.1)
    (last.0 ∙ ap (λ (l : List ℕ). with_line l no_lines) (sym c.line.ensures.line)) so) refl
