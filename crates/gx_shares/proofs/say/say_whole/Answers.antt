use Rattle.std.proofs.Common.{◌+◌, ◌∙◌, arith}
use Rattle.gx_shares.proofs.SayLemmas.{said_more, rest_more}
use Rattle.gx_shares.proofs.SessionLemmas.{same_then}
use Rattle.gx_shares.proofs.say.say_whole.Goals as goal

pub loop-rest-preserved : goal.loop-rest-preserved
loop-rest-preserved g c = record {
  part = (
    c.loop-rest.invariant.part.0 + c.in_ok-count.count,
    rest_more _ _ c.loop-rest.invariant.part.0 c.in_ok-count.count c.loop-rest.invariant.part.1,
    λ t. said_more _ _ _ _ _ c.loop-rest.invariant.part.0 c.in_ok-count.count
        c.loop-rest.invariant.part.1
        (c.loop-rest.invariant.part.2 t) (c.in_ok-count.ensures.says.said t),
  );
  script = c.say.ensures.says.rest.script ∙ c.loop-rest.invariant.script;
  shelf = c.say.ensures.says.rest.shelf ∙ c.loop-rest.invariant.shelf;
  aside = c.say.ensures.says.rest.aside ∙ c.loop-rest.invariant.aside;
  counted = c.in_ok-count.ensures.says.counted (omega arith) ∙ c.loop-rest.invariant.counted;
  same = same_then _ _ _ _ c.loop-rest.invariant.same c.say.ensures.same;
}
