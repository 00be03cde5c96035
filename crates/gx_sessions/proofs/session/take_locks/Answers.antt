use Rattle.std.proofs.Common.{◌∙◌, ap}
use Rattle.std.proofs.lemmas.List.{length-set}
use Rattle.gx_sharing.specs.Locks.{stronger}
use Rattle.gx_sessions.specs.Places.{mode_of}
use Rattle.gx_sessions.specs.Standings.{lock_in}
use Rattle.gx_sessions.proofs.StandingLemmas.{stronger_behind, stronger_ahead}
use Rattle.gx_sessions.proofs.session.take_locks.Goals as goal

pub loop-place-preserved : goal.loop-place-preserved
loop-place-preserved c =
    let place = c.loop-place.place in
    let locks = c.loop-place.locks in
    let inv = c.loop-place.invariant in
    let schema = c.args.schema.now in
    let command = c.args.command.now in record {
      many = length-set locks place c.stronger.result ∙ inv.many;
      behind = stronger_behind schema command c.args.locks.now locks place c.stronger.result
          inv.many c.loop-place-test.true inv.behind inv.ahead
          (c.stronger.ensures
          ∙ ap (stronger (mode_of (lock_in locks place))) c.lock_at.ensures);
      ahead = stronger_ahead schema command c.args.locks.now locks place c.stronger.result
          inv.many c.loop-place-test.true inv.ahead;
    }
