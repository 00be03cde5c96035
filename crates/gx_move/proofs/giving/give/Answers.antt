use Rattle.std.proofs.Common.{◌∷◌, sym, ap, subst, ◌∙◌, arith}
use Rattle.gx_commands.specs.Commands.{place_reason}
use Rattle.gx_commands.specs.declared.command.Command.TheVariants as command
use Rattle.gx_engine.specs.Steps.{schema_of, built_of, leaves_of, is_fault_now}
use Rattle.gx_move.specs.Giving.{commands_of, IsShortAmong, EndsGiving}
use Rattle.gx_move.proofs.GiftLemmas.{open_at}
use Rattle.gx_move.proofs.CarryLemmas.{err_is}
use Rattle.gx_move.proofs.EndLemmas.{ends_early, ends_committed, commit_not_full, filled_at, carried_at, given_at, kept_gift, committed_gift}
use Rattle.gx_move.proofs.giving.give.Goals as goal

pub returns-in_err-fill-clause-full : goal.returns-in_err-fill-clause-full
returns-in_err-fill-clause-full g c = λ p at full.
    c.in_err-fill.ensures.full p at
    (sym (err_is c.from_residual.result c.in_err-fill.field-0.0 c.from_residual.ensures.1) ∙ full)

pub returns-in_err-fill-clause-images : goal.returns-in_err-fill-clause-images
returns-in_err-fill-clause-images g c = λ p s at gift start calm.
    kept_gift g.B.View g.met.B.Leaves.calm_means g.met.B.Leaves.calm_now p s c.args.engine.now
    c.fill.new.engine _ at c.in_err-fill.ensures.keeps.keeps start calm

pub returns-in_err-fill-clause-ends : goal.returns-in_err-fill-clause-ends
returns-in_err-fill-clause-ends g c =
    subst (EndsGiving g.B.View c.args.engine.now c.fill.new.engine)
    (sym (err_is c.from_residual.result c.in_err-fill.field-0.0 c.from_residual.ensures.1))
    (ends_early g.B.View (command.Begin ∷ commands_of c.args.stock.now) c.args.engine.now
    c.fill.new.engine c.in_err-fill.field-0.0 c.requires.going c.in_err-fill.ensures)

pub step-requires-clause-due : goal.step-requires-clause-due
step-requires-clause-due g c = record {
  of_schema = tt;
  few = omega arith;
  allowed = ap (λ b. place_reason b command.Commit) c.in_ok-fill.ensures.keeps.inside;
}

pub returns-clause-given : goal.returns-clause-given
returns-clause-given g c = λ p s at gift.
    let filled = filled_at g.B.View p s c.args.stock.now c.args.engine.now c.fill.new.engine
    c.in_ok-fill.ensures at gift in
    given_at g.B.View p s c.fill.new.engine c.step.new.self _ _ c.step.result filled
    (c.step.ensures.carried (open_at p s) filled) c.step.ensures.ends

pub returns-clause-carried : goal.returns-clause-carried
returns-clause-carried g c = λ p at.
    carried_at g.B.View p c.args.stock.now c.args.engine.now c.fill.new.engine c.step.new.self _ _
    c.step.result c.in_ok-fill.ensures at c.step.ensures.carried c.step.ensures.ends

pub returns-clause-full : goal.returns-clause-full
returns-clause-full g c = λ p at full.
    let filled = c.in_ok-fill.ensures.carried p at in
    absurd {A = IsShortAmong (schema_of c.args.engine.now) (built_of c.args.engine.now)
    (g.B.View.limit (leaves_of c.args.engine.now)) p (command.Begin ∷ commands_of c.args.stock.now)}
    (commit_not_full g.B.View _ c.fill.new.engine (c.step.ensures.full _ filled full))

pub returns-clause-images : goal.returns-clause-images
returns-clause-images g c = λ p s at gift start calm.
    let filled = filled_at g.B.View p s c.args.stock.now c.args.engine.now c.fill.new.engine
    c.in_ok-fill.ensures at gift in
    committed_gift g.B.View g.met.B.Leaves.calm_means g.met.B.Leaves.calm_now p s
    c.args.engine.now c.fill.new.engine c.step.new.self (is_fault_now c.step.result) at
    c.in_ok-fill.ensures.keeps start calm
    (c.step.ensures.images (open_at p s) filled start
    (c.in_ok-fill.ensures.keeps.keeps.calm start calm))

pub returns-clause-ends : goal.returns-clause-ends
returns-clause-ends g c =
    ends_committed g.B.View (command.Begin ∷ commands_of c.args.stock.now) c.args.engine.now
    c.fill.new.engine c.step.new.self _ _ c.step.result c.requires.going c.in_ok-fill.ensures
    c.step.ensures.ends
