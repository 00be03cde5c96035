use Rattle.std.proofs.Common.{sym, subst}
use Rattle.gx_play.proofs.PlayLemmas.{is_err}
use Rattle.gx_shares.specs.Going.{IsOver}
use Rattle.gx_shares.proofs.over_leaves.play_out.Goals as goal

pub returns-in_err-play_heard-clause-played : goal.returns-in_err-play_heard-clause-played
returns-in_err-play_heard-clause-played g c = λ told o going.
    subst (IsOver g.B.View o c.play_heard.new.sessions) (sym (is_err _ _ c.from_residual.ensures.1))
    (c.in_err-play_heard.ensures.played told o going)
