use Rattle.std.proofs.Common.{◌∙◌, Bool, sym, subst, inr}
use Rattle.gx_ports.specs.Stops.{is_fault}
use Rattle.gx_sharing.specs.Sharing.{Outcome, outcome_of, after_turn}
use Rattle.gx_sessions.specs.Shared.{LeavesTurn}
use Rattle.gx_sessions.specs.Turns.{schema_of, engine_of, MovesTo}
use Rattle.gx_sessions.proofs.TurnLemmas.{answer_is, skipped_is, ended_is, skipped_ended, rested_skip, rested_end, rested_images}
use Rattle.gx_sessions.proofs.sessions.Sessions.carry.Goals as goal

pub returns-in-Answer-clause-images : goal.returns-in-Answer-clause-images
returns-in-Answer-clause-images g c = λ p are start calm.
    let old = c.args.self.now in
    let o = outcome_of (schema_of old) p c.args.session c.args.command in
    subst (λ (x : Outcome). LeavesTurn g.B.View p
    (after_turn (schema_of old) p c.args.session c.args.command x) (engine_of old)
    (engine_of c.answer.new.self) (is_fault c.answer.result))
    (sym (answer_is o (sym c.in-Answer.is ∙ c.requires.turn p are)))
    (c.answer.ensures.images p are start calm)

pub returns-in-Answer-clause-full : goal.returns-in-Answer-clause-full
returns-in-Answer-clause-full g c = λ p are full.
    let old = c.args.self.now in
    let o = outcome_of (schema_of old) p c.args.session c.args.command in
    (answer_is o (sym c.in-Answer.is ∙ c.requires.turn p are), c.answer.ensures.full p are full)

pub returns-in-Skipped-clause-comes : goal.returns-in-Skipped-clause-comes
returns-in-Skipped-clause-comes g c = λ p are.
    let old = c.args.self.now in
    let n = c.args.session in
    let o = outcome_of (schema_of old) p n c.args.command in
    let is = skipped_is o (sym c.in-Skipped.is ∙ c.requires.turn p are) in
    rested_skip g.B.View p n c.args.command o old c.settle.new.self c.args.out.now is
    (c.settle.ensures.settled p are
    (inr (skipped_ended (schema_of old) p n c.args.command (p.session n) is)))

pub returns-in-Skipped-clause-images : goal.returns-in-Skipped-clause-images
returns-in-Skipped-clause-images g c = λ p are start calm.
    rested_images g.B.View g.met.B.Leaves.calm_means g.met.B.Leaves.calm_now p _
    c.args.self.now c.settle.new.self _ c.settle.ensures.rest.engine are start calm

pub returns-in-Ended-clause-comes : goal.returns-in-Ended-clause-comes
returns-in-Ended-clause-comes g c = λ p are.
    let old = c.args.self.now in
    let n = c.args.session in
    let o = outcome_of (schema_of old) p n c.args.command in
    let is = ended_is o _ (sym c.in-Ended.is ∙ c.requires.turn p are) in
    rested_end g.B.View p n is.0 c.args.command o old c.stand.new.self c.args.out.now is.1
    (c.stand.ensures.stands p are)

pub returns-in-Ended-clause-images : goal.returns-in-Ended-clause-images
returns-in-Ended-clause-images g c = λ p are start calm.
    rested_images g.B.View g.met.B.Leaves.calm_means g.met.B.Leaves.calm_now p _
    c.args.self.now c.stand.new.self _ c.stand.ensures.rest.engine are start calm

pub returns-in-Ended-clause-moves : goal.returns-in-Ended-clause-moves
returns-in-Ended-clause-moves g c =
    subst (λ (b : Bool). MovesTo c.args.self.now c.stand.new.self c.args.session b)
    (sym (c.requires.ended _ c.in-Ended.is)) c.stand.ensures.moves
