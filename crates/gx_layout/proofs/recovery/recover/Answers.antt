use Rattle.gx_layout.proofs.RecoverLemmas.{recovers_none, recovers_read, recovers_settled, room_of, few_of}
use Rattle.gx_layout.proofs.recovery.recover.Goals as goal

pub returns-in_err-sync-clause-images : goal.returns-in_err-sync-clause-images
returns-in_err-sync-clause-images g c told v many reads =
    recovers_none v _ _ c.sync.ensures.rest

pub returns-in_err-found-clause-images : goal.returns-in_err-found-clause-images
returns-in_err-found-clause-images g c told v many reads =
    let sized = g.met.D.Device.sized c.args.device.now told in
    recovers_read v _ _ _ c.sync.ensures.rest c.has_magic.ensures.rest
    (room_of _ c.args.pages _ sized c.requires.room)
    (few_of _ c.args.pages _ v.pages sized many c.requires.limit)
    (c.in_ok-sync.ensures.none_pending told) reads

pub returns-else-found-clause-images : goal.returns-else-found-clause-images
returns-else-found-clause-images g c told v many reads =
    let sized = g.met.D.Device.sized c.args.device.now told in
    recovers_read v _ _ _ c.sync.ensures.rest c.has_magic.ensures.rest
    (room_of _ c.args.pages _ sized c.requires.room)
    (few_of _ c.args.pages _ v.pages sized many c.requires.limit)
    (c.in_ok-sync.ensures.none_pending told) reads

pub returns-in_err-settle-clause-images : goal.returns-in_err-settle-clause-images
returns-in_err-settle-clause-images g c told v many reads =
    let sized = g.met.D.Device.sized c.args.device.now told in
    recovers_settled v _ _ _ c.sync.ensures.rest c.has_magic.ensures.rest
    (room_of _ c.args.pages _ sized c.requires.room)
    (few_of _ c.args.pages _ v.pages sized many c.requires.limit)
    (c.in_ok-sync.ensures.none_pending told) reads
    _ (λ none still. c.settle.ensures.images told v many none still)

pub returns-in_ok-settle-clause-images : goal.returns-in_ok-settle-clause-images
returns-in_ok-settle-clause-images g c told v many reads =
    let sized = g.met.D.Device.sized c.args.device.now told in
    recovers_settled v _ _ _ c.sync.ensures.rest c.has_magic.ensures.rest
    (room_of _ c.args.pages _ sized c.requires.room)
    (few_of _ c.args.pages _ v.pages sized many c.requires.limit)
    (c.in_ok-sync.ensures.none_pending told) reads
    _ (λ none still. c.settle.ensures.images told v many none still)
