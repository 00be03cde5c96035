use Rattle.std.proofs.Common.{subst}
use Rattle.gx_plain.specs.Plain.{IsMoment}
use Rattle.gx_plain.proofs.CommandLemmas.{other_answered, other_next, ok_maps, ok_stays}
use Rattle.gx_plain.proofs.plain.step.Goals as goal

pub returns-in_default-clause-answered : goal.returns-in_default-clause-answered
returns-in_default-clause-answered c p at =
    ok_maps c.pass_on.result _ _
    (λ text is. other_answered c.args.schema.now p c.args.command.now text
    c.in_default.not-Begin c.in_default.not-Commit c.in_default.not-Abort is)
    (c.pass_on.ensures.answered p at)

pub returns-in_default-clause-at : goal.returns-in_default-clause-at
returns-in_default-clause-at c p at =
    ok_stays c.pass_on.result _ _
    (λ is. subst (IsMoment c.pass_on.new.moment)
    (other_next c.args.schema.now p c.args.command.now c.in_default.not-Begin
    c.in_default.not-Commit c.in_default.not-Abort) is) (c.pass_on.ensures.at p at)
