use Rattle.std.proofs.Common.{◌∙◌, sym, ap, subst}
use Rattle.std.specs.Prelude.{codes}
use Rattle.gx_sessions.specs.declared.sessions.Turn.{Turn}
use Rattle.gx_shares.specs.Shares.{said_of, IsNamed}
use Rattle.gx_shares.proofs.say.say_turn.Goals as goal

pub returns-in-Answer-clause-says : goal.returns-in-Answer-clause-says
returns-in-Answer-clause-says g c = record {
  text = c.args.answer.now;
  text_is = λ named. sym (ap (λ (t : Turn). said_of t c.args.answer.now) c.in-Answer.is);
  says = c.say_lines.ensures.says;
}

pub returns-in-Skipped-clause-says : goal.returns-in-Skipped-clause-says
returns-in-Skipped-clause-says g c = record {
  text = codes "skipped\n";
  text_is = λ named. sym (ap (λ (t : Turn). said_of t c.args.answer.now) c.in-Skipped.is);
  says = c.say_lines-in-Skipped.ensures.says;
}

pub returns-in-Ended-clause-says : goal.returns-in-Ended-clause-says
returns-in-Ended-clause-says g c = record {
  text = c.ended_line.result;
  text_is = λ named.
      c.ended_line.ensures (subst IsNamed c.in-Ended.is named)
      ∙ sym (ap (λ (t : Turn). said_of t c.args.answer.now) c.in-Ended.is);
  says = c.say_lines-in-Ended.ensures.says;
}
