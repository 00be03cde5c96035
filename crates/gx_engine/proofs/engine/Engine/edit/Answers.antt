use Rattle.std.proofs.Common.{rules}
use Rattle.gx_model.specs.Play.{seen_state}
use Rattle.gx_engine.proofs.StepLemmas.{edit_carried}
use Rattle.gx_engine.proofs.engine.Engine.edit.Goals as goal

pub returns : goal.returns
returns g c = record {
  carried = λ p at.
      let e = c.args.self.now in
      let edit = c.in_ok-refused.ensures.edit (seen_state p) tt at.whole_is at.stands.working_is in
      edit_carried e.schema e.built e.inside e.commits _ _ _ _ p c.args.command
      c.in_ok-refused.refused c.args.out.now _ c.edit_answer.result.now c.requires.edit
      c.requires.due.allowed at.stands c.edit.ensures.keeps.kept edit c.edit_answer.ensures
      c.in_ok-append.ensures.ok;
  full = search rules;
  ends = record {
    keeps = search rules;
    stopped = search rules;
    fresh = search rules;
    unsaid = search rules;
    kept = search rules;
    cause = search rules;
    block = search rules;
  };
}
