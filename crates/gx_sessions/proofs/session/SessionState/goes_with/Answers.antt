use Rattle.std.proofs.Common.{◌≡◌, ◌<◌, ◌∙◌, length, sym, ap, below_more, arith}
use Rattle.std.proofs.lemmas.List.{get_or_read}
use Rattle.gx_sharing.specs.Locks.{conflict, lock_of}
use Rattle.gx_sessions.specs.declared.locks.Lock.{Lock}
use Rattle.gx_sessions.specs.declared.locks.Lock.TheVariants.{Free}
use Rattle.gx_sessions.specs.Places.{mode_of, item_at}
use Rattle.gx_sessions.specs.Standings.{lock_in}
use Rattle.gx_sessions.proofs.ReadLemmas.{clear_at}
use Rattle.gx_sessions.proofs.session.SessionState.goes_with.Goals as goal

pub loop-place-preserved : goal.loop-place-preserved
loop-place-preserved c =
    let schema = c.args.schema.now in
    let place = c.loop-place.place in
    let locks = c.args.self.now.locks.items in
    let lt : place < length locks =
    omega (arith, c.loop-place-test.true, c.len-place-end.ensures) in
    let at : lock_in locks place ≡ c.index.result.now =
    sym (get_or_read locks place c.index.result.now lt c.index.ensures Free) in
    below_more _ _ c.loop-place.invariant
    (ap (λ (l : Lock). conflict (mode_of l)
    (lock_of schema c.args.command.now (item_at schema place))) at
    ∙ ap (conflict (mode_of c.index.result.now)) (sym c.lock_at.ensures)
    ∙ sym c.conflicts.ensures ∙ c.if-conflicts.false)

pub returns : goal.returns
returns c = λ s is yes.
    clear_at c.args.schema.now c.args.command.now s c.args.self.now is c.requires.whole.places
    (λ i lt. c.loop-place.invariant i (omega (
      arith,
      lt,
      c.loop-place-test.false,
      c.len-place-end.ensures,
      c.requires.whole.places,
    )))
