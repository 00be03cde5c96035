use Rattle.std.proofs.Common.{ℕ, length, sym, subst}
use Rattle.gx_journal.proofs.PageLemmas.{pages_home}
use Rattle.gx_journal.specs.Working.{IsCachedIn}
use Rattle.gx_journal.proofs.journal.Journal.abort.Goals as goal

pub returns-clause-working : goal.returns-clause-working
returns-clause-working g c =
    let old = c.args.self.now in
    let N = g.D.Device.size old.device in
    let P = length old.working.spilled.items in
    let now = g.D.Device.content old.device in
    pages_home g.D.Device.tells N P
    (length c.forget.new.working.spilled.items) now c.forget.new.working.spilled.items
    c.forget.new.working.frames.resident c.forget.ensures.long old.room
    (g.met.D.Device.sized old.device)
    (λ told. c.forget.ensures.same N P now (old.cached told))

pub invariant_of-self-clause-cached : goal.invariant_of-self-clause-cached
invariant_of-self-clause-cached g c told =
    let old = c.args.self.now in
    let N = g.D.Device.size old.device in
    let now = g.D.Device.content old.device in
    subst (λ (P : ℕ). IsCachedIn N P now c.forget.new.working) (sym c.forget.ensures.long)
    (c.forget.ensures.cached N (length old.working.spilled.items) now (old.cached told))
