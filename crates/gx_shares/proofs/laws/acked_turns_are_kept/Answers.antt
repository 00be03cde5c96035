use Rattle.gx_shares.proofs.AckedLemmas.{may_be_acked}
use Rattle.gx_shares.proofs.laws.acked_turns_are_kept.Goals as goal

pub returns : goal.returns
returns c = λ schema ds limit start script told m may.
    may_be_acked schema ds limit start script told m may
