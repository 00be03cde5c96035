use Rattle.std.proofs.Common.{inr}
use Rattle.gx_play.specs.declared.ending.Ending.TheVariants as ending
use Rattle.gx_requests.specs.Checked.{IsPrepared}
use Rattle.gx_requests.specs.Words.{AskOfTwo}
use Rattle.gx_requests.proofs.RequestLemmas.{all_built, passed_on}
use Rattle.gx_requests.proofs.nodes.prepare_nodes.Goals as goal

pub returns-clause-prepared : goal.returns-clause-prepared
returns-clause-prepared g c = λ told. record {
  ready = λ words a asks. all_built words _ a c.in_ok-checked.checked _
      ((c.in_ok-checked.ensures.accepted told).ready words a asks)
      c.in_ok-build_nodes.ensures.built;
  unprepared = λ words a asks. tt;
}

pub returns-in_err-checked-clause-prepared : goal.returns-in_err-checked-clause-prepared
returns-in_err-checked-clause-prepared g c = λ told.
    passed_on (AskOfTwo c.args.schema.now c.args.equation.now) IsPrepared _ _ _
    c.in_err-checked.field-0.0 c.from_residual.result
    (c.in_err-checked.ensures.accepted told).unprepared c.from_residual.ensures.1

pub returns-in_err-build_nodes-clause-prepared : goal.returns-in_err-build_nodes-clause-prepared
returns-in_err-build_nodes-clause-prepared g c = λ told.
    passed_on (AskOfTwo c.args.schema.now c.args.equation.now) IsPrepared _ _ _
    ending.NoMemory c.from_residual-in_err-build_nodes.result (λ words a asks. inr tt)
    c.from_residual-in_err-build_nodes.ensures.1
