use Rattle.std.proofs.Common.{None}
use Rattle.gx_sessions.proofs.SessionsLemmas.{all_out}
use Rattle.gx_sessions.proofs.sessions.Sessions.start.Goals as goal

pub returns-in-Ok-clause-outside : goal.returns-in-Ok-clause-outside
returns-in-Ok-clause-outside g c =
    all_out (record { shared = c.new.result; states = c.in-Ok.states; stopped = None })
    c.schema.result.now c.in-Ok.ensures.whole c.in-Ok.ensures.outside
