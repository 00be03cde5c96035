use Rattle.std.proofs.Common.{sym, ◌∙◌}
use Rattle.std.proofs.lemmas.Bool.{true≢false}
use Rattle.gx_sessions.specs.Shared.{seeing}
use Rattle.gx_sessions.proofs.SharedLemmas.{err_is}
use Rattle.gx_sessions.proofs.shared.SharedEngine.give_up.Goals as goal

pub returns-in_err-pass-clause-not_full : goal.returns-in_err-pass-clause-not_full
returns-in_err-pass-clause-not_full g c = λ p w at full.
    true≢false (sym (c.in_err-pass.ensures.full (seeing p w) at
    (sym (err_is c.from_residual.result c.in_err-pass.field-0.0 c.from_residual.ensures.1)
    ∙ full)).0.kind)

pub returns-clause-given_up : goal.returns-clause-given_up
returns-clause-given_up g c = λ p w at. c.in_ok-pass.ensures.passed (seeing p w) at
