use Rattle.std.proofs.Common.{◌++◌, take, refl, sym, ap, subst}
use Rattle.gx_commands.specs.Lines.{script_lines}
use Rattle.gx_reader.specs.Reader.{meant, number_of}
use Rattle.gx_play.proofs.PlayLemmas.{is_err}
use Rattle.gx_explain.specs.Explaining.{fields_in, IsSoFar, SaysPlans}
use Rattle.gx_explain.proofs.ExplainLemmas.{at_new, at_unheard, still_so}
use Rattle.gx_explain.proofs.script.explain_heard.Goals as goal

pub loop-count-init : goal.loop-count-init
loop-count-init g c =
    let content = g.M.Device.content in
    record {
      stays_open = c.new-reader.ensures.open;
      so_far = λ told. at_new c.args.schema.now
          (fields_in c.args.schema.now c.args.built.now.files) (content c.args.machine.now).script
          c.new-reader.result (content c.args.machine.now) c.new-reader.ensures.lines
          c.new-reader.ensures.number;
      devices = record { blocks = refl; pending = refl; shelf = refl };
      aside = refl;
      counted = refl;
    }

-- where the script can't be heard
pub returns-in_default-clause-said : goal.returns-in_default-clause-said
returns-in_default-clause-said g c = λ told.
    let content = g.M.Device.content in
    at_unheard c.args.schema.now (fields_in c.args.schema.now c.args.built.now.files)
    (script_lines (content c.args.machine.now).script)
    (meant c.loop-count.reader (content c.loop-count.machine).script)
    (number_of c.loop-count.reader) c.loop-count.inside (content c.args.machine.now)
    (content c.loop-count.machine) (content c.hear.new.self) (c.loop-count.invariant.so_far told)
    (ap (λ m. m.said) c.hear.ensures.rest.now)

-- what was heard comes before what is still to be heard
pub returns-in_err-inside-clause-said : goal.returns-in_err-inside-clause-said
returns-in_err-inside-clause-said g c = λ told.
    let content = g.M.Device.content in
    let schema = c.args.schema.now in
    let indexed = fields_in schema c.args.built.now.files in
    let start = content c.args.machine.now in
    let all = script_lines start.script in
    let more = (content c.hear.new.self).script in
    subst (SaysPlans schema indexed all start (content c.explain_piece.new.device))
    (sym (is_err _ _ c.from_residual.ensures.1))
    (c.in_err-inside.ensures.said told all more start
    (still_so schema indexed all
    (meant c.loop-count.reader (take c.in-Ok.count c.hear.new.into ++ more))
    (number_of c.loop-count.reader) c.loop-count.inside start (content c.loop-count.machine)
    (content c.hear.new.self)
    (subst (λ s. IsSoFar schema indexed all (meant c.loop-count.reader s)
    (number_of c.loop-count.reader) c.loop-count.inside start (content c.loop-count.machine))
    (c.in-Ok.ensures.heard told).heard (c.loop-count.invariant.so_far told))
    (ap (λ m. m.said) c.hear.ensures.rest.now)))
