use Rattle.std.proofs.Common.{Bool, Err, refl, sym, ap, subst}
use Rattle.gx_engine.specs.Steps.{schema_of, built_of, leaves_of}
use Rattle.gx_play.specs.Asked.{IsAsked}
use Rattle.gx_play.specs.Plays.{is_line_fault}
use Rattle.gx_play.specs.Images.{LeavesLine}
use Rattle.gx_play.proofs.PlayLemmas.{is_err}
use Rattle.gx_play.proofs.CrashLemmas.{line_leaves, still_line}
use Rattle.gx_play.proofs.AnsweringLemmas.{line_played, line_given_up, unread_given_up, keeps_same, err_same, stop_same}
use Rattle.gx_play.proofs.carry.play_line.Goals as goal

pub returns-clause-played : goal.returns-clause-played
returns-clause-played g c =
    λ p at. line_played g.B.View c.args.answers p c.args.line.now c.in_ok-asked.asked
    c.args.engine.now c.carry_out.new.engine c.args.out.now c.carry_out.new.out at
    c.in_ok-asked.ensures.read (c.in_ok-carry_out.ensures.answered p at)

pub returns-in_err-asked-clause-given_up : goal.returns-in_err-asked-clause-given_up
returns-in_err-asked-clause-given_up g c =
    λ told p at why e. unread_given_up g.B.View c.args.answers p c.args.line.now c.args.engine.now
    c.args.out.now why (c.in_err-asked.ensures.unread why
    (ap Err (err_same _ _ _ (is_err _ _ c.from_residual.ensures.1) e)))

pub returns-in_err-asked-clause-keeps : goal.returns-in_err-asked-clause-keeps
returns-in_err-asked-clause-keeps g c =
    keeps_same g.B.View c.args.answers c.args.engine.now c.requires.ready

pub returns-in_err-carry_out-clause-given_up : goal.returns-in_err-carry_out-clause-given_up
returns-in_err-carry_out-clause-given_up g c =
    λ told p at why e. line_given_up g.B.View c.args.answers p c.args.line.now c.in_ok-asked.asked
    c.args.engine.now c.carry_out.new.engine c.args.out.now c.carry_out.new.out why at
    c.in_ok-asked.ensures.read
    (c.in_err-carry_out.ensures.given_up told p at why
    (ap Err (stop_same _ _ (err_same _ _ _ (is_err _ _ c.from_residual-in_err-carry_out.ensures.1)
    e))))

pub returns-in_err-asked-clause-bad : goal.returns-in_err-asked-clause-bad
returns-in_err-asked-clause-bad g c = λ why e. (
  c.in_err-asked.ensures.bad why
      (ap Err (err_same _ _ _ (is_err _ _ c.from_residual.ensures.1) e)),
  refl,
)

pub returns-in_err-asked-clause-crash : goal.returns-in_err-asked-clause-crash
returns-in_err-asked-clause-crash g c = λ told p at start calm.
    still_line g.B.View g.met.B.Leaves.calm_means g.met.B.Leaves.calm_now c.args.answers p
    c.args.line.now c.args.engine.now (is_line_fault c.from_residual.result) at start calm

pub returns-clause-crash : goal.returns-clause-crash
returns-clause-crash g c = λ told p at start calm.
    line_leaves g.B.View (schema_of c.args.engine.now) (built_of c.args.engine.now) c.args.answers p
    c.args.line.now c.in_ok-asked.asked _ (leaves_of c.args.engine.now)
    (leaves_of c.carry_out.new.engine)
    (subst (λ (b : Bool). IsAsked (schema_of c.args.engine.now) b c.args.line.now
    c.in_ok-asked.asked) at.stands.inside_same c.in_ok-asked.ensures.read)
    (c.in_ok-carry_out.ensures.crash told p at start calm)

pub returns-in_err-carry_out-clause-crash : goal.returns-in_err-carry_out-clause-crash
returns-in_err-carry_out-clause-crash g c = λ told p at start calm.
    subst (λ (b : Bool). LeavesLine g.B.View (schema_of c.args.engine.now)
    (built_of c.args.engine.now) c.args.answers p c.args.line.now b (leaves_of c.args.engine.now)
    (leaves_of c.carry_out.new.engine))
    (ap is_line_fault (sym (is_err _ _ c.from_residual-in_err-carry_out.ensures.1)))
    (line_leaves g.B.View (schema_of c.args.engine.now) (built_of c.args.engine.now)
    c.args.answers p c.args.line.now c.in_ok-asked.asked _ (leaves_of c.args.engine.now)
    (leaves_of c.carry_out.new.engine)
    (subst (λ (b : Bool). IsAsked (schema_of c.args.engine.now) b c.args.line.now
    c.in_ok-asked.asked) at.stands.inside_same c.in_ok-asked.ensures.read)
    (c.in_err-carry_out.ensures.crash told p at start calm))

pub returns-clause-going : goal.returns-clause-going
returns-clause-going g c = (
  c.in_ok-carry_out.ensures.going,
  record {
    asked = c.in_ok-asked.asked;
    means = c.in_ok-asked.ensures.read;
    behind_is = c.in_ok-carry_out.ensures.inside;
  },
)
