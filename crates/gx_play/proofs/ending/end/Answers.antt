use Rattle.std.proofs.Common.{◌≡◌, rules, List, ℕ, true, false, ◌∙◌, inl, inr, ap, subst}
use Rattle.gx_play.specs.Endings.{ending_line}
use Rattle.gx_play.specs.Say.{SaysThrough}
use Rattle.gx_play.proofs.SayLemmas.{none_through}
use Rattle.gx_play.proofs.ending.end.Goals as goal

pub returns-in-Ok-clause-moments : goal.returns-in-Ok-clause-moments
returns-in-Ok-clause-moments g c = λ told.
    inl (subst (λ (t : List ℕ). SaysThrough t (g.M.Device.content c.args.machine.now)
    (g.M.Device.content c.say_line.new.machine)) (c.deref.ensures.value ∙ c.in-Ok.ensures.line)
    (c.say_line.ensures.moments told))

pub returns-in-Err-clause-moments : goal.returns-in-Err-clause-moments
returns-in-Err-clause-moments g c = λ told.
    inr (
      (λ is. let wrong : false ≡ true = c.in-Err.ensures.fault is in cc),
      c.say_line-in-Err.ensures.moments told,
    )

pub returns-in-Ok-clause-words : goal.returns-in-Ok-clause-words
returns-in-Ok-clause-words g c = λ told.
    let content = g.M.Device.content in
    let line_is = c.deref.ensures.value ∙ c.in-Ok.ensures.line in
    let through = subst (λ (t : List ℕ). SaysThrough t (content c.args.machine.now)
    (content c.say_line.new.machine)) line_is (c.say_line.ensures.moments told) in
    record {
      said = search rules;
      memory = search rules;
      cut = λ outside. (through.now.said.0, inl through.now.said.1);
      silent = λ fault. none_through (ending_line c.args.ending) (content c.args.machine.now)
          (content c.say_line.new.machine) (ap ending_line fault) through;
      script = search rules;
    }

pub returns-in-Err-clause-words : goal.returns-in-Err-clause-words
returns-in-Err-clause-words g c = λ told.
    let through = c.say_line-in-Err.ensures.moments told in
    record {
      said = search rules;
      memory = search rules;
      cut = λ outside. (through.now.said.0, inr through.now.said.1);
      silent = search rules;
      script = search rules;
    }
