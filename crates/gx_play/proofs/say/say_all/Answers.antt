use Rattle.std.proofs.Common.{◌+◌, ◌∙◌, refl, sym, arith}
use Rattle.std.proofs.lemmas.List.{append-nil}
use Rattle.gx_play.proofs.SayLemmas.{said_more, rest_more, no_moments, more_moments}
use Rattle.gx_play.proofs.say.say_all.Goals as goal

pub loop-rest-init : goal.loop-rest-init
loop-rest-init g c = record {
  part = (0, refl, λ told. sym (append-nil (g.D.Device.content c.args.device.now).now.said));
  script = refl;
  aside = refl;
  blocks = refl;
  pending = refl;
  shelf = refl;
  moments = λ told. no_moments c.args.piece.now (g.D.Device.content c.args.device.now);
  counted = refl;
}

pub loop-rest-preserved : goal.loop-rest-preserved
loop-rest-preserved g c = record {
  part = (
    c.loop-rest.invariant.part.0 + c.in_ok-count.count,
    rest_more _ _ c.loop-rest.invariant.part.0 c.in_ok-count.count c.loop-rest.invariant.part.1,
    λ t. said_more _ _ _ _ _ c.loop-rest.invariant.part.0 c.in_ok-count.count
        c.loop-rest.invariant.part.1
        (c.loop-rest.invariant.part.2 t) (c.in_ok-count.ensures.said t),
  );
  script = c.say.ensures.rest.script ∙ c.loop-rest.invariant.script;
  aside = c.say.ensures.rest.aside ∙ c.loop-rest.invariant.aside;
  blocks = c.say.ensures.rest.blocks ∙ c.loop-rest.invariant.blocks;
  pending = c.say.ensures.rest.pending ∙ c.loop-rest.invariant.pending;
  shelf = c.say.ensures.rest.shelf ∙ c.loop-rest.invariant.shelf;
  moments = λ told.
      more_moments _ _ _ _ (c.loop-rest.invariant.part.0 + c.in_ok-count.count)
      (c.loop-rest.invariant.moments told) c.say.ensures.time c.say.ensures.rest
      (said_more _ _ _ _ _ c.loop-rest.invariant.part.0 c.in_ok-count.count
      c.loop-rest.invariant.part.1 (c.loop-rest.invariant.part.2 told)
      (c.in_ok-count.ensures.said told));
  counted = c.in_ok-count.ensures.counted (omega arith) ∙ c.loop-rest.invariant.counted;
}

pub returns-in_err-count-clause-moments : goal.returns-in_err-count-clause-moments
returns-in_err-count-clause-moments g c = λ told.
    more_moments _ _ _ _ c.loop-rest.invariant.part.0 (c.loop-rest.invariant.moments told)
    c.say.ensures.time c.say.ensures.rest
    (c.in_err-count.ensures.not_said ∙ c.loop-rest.invariant.part.2 told)

pub returns-then-count-eq0-clause-moments : goal.returns-then-count-eq0-clause-moments
returns-then-count-eq0-clause-moments g c = λ told.
    more_moments _ _ _ _ (c.loop-rest.invariant.part.0 + c.in_ok-count.count)
    (c.loop-rest.invariant.moments told) c.say.ensures.time c.say.ensures.rest
    (said_more _ _ _ _ _ c.loop-rest.invariant.part.0 c.in_ok-count.count
    c.loop-rest.invariant.part.1 (c.loop-rest.invariant.part.2 told)
    (c.in_ok-count.ensures.said told))

pub returns-clause-moments : goal.returns-clause-moments
returns-clause-moments g c = λ told. c.loop-rest.invariant.moments told
