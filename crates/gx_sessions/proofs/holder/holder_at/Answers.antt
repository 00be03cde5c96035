use Rattle.std.proofs.Common.{◌+◌, ◌∙◌, sym, ap, ne_eqb, get_or}
use Rattle.gx_sharing.specs.Sharing.{is_barred}
use Rattle.gx_sessions.specs.Places.{item_at, mode_of}
use Rattle.gx_sessions.proofs.HolderLemmas.{first_session, no_session, barred_there}
use Rattle.gx_sessions.proofs.StandingLemmas.{conflict_wants}
use Rattle.gx_sessions.proofs.holder.holder_at.Goals as goal

pub returns-then-bars-clause-wanting : goal.returns-then-bars-clause-wanting
returns-then-bars-clause-wanting c = λ some.
    conflict_wants _ (mode_of c.args.wanted) (sym c.bars.ensures ∙ c.if-bars.true)

pub returns-then-bars-clause-least : goal.returns-then-bars-clause-least
returns-then-bars-clause-least c = λ p wanting are same.
    let schema = c.args.schema.now in
    let k = c.loop-index.index in
    first_session (is_barred schema p c.args.session wanting (item_at schema c.args.place)) k
    c.loop-index-test.true (c.loop-index.invariant p wanting are same)
    (barred_there schema p c.args.session wanting c.args.states.now c.index-states-from.result k
    c.args.place c.args.wanted are c.requires.whole c.loop-index-test.true
    (c.index-states-from.is
    ∙ ap (λ i. get_or c.args.states.now i c.index-states-from.result) c.from.ensures)
    c.requires.place same (ne_eqb (k + 1) c.args.session c.if-other-session.true)
    (sym c.bars.ensures ∙ c.if-bars.true))

pub returns-clause-least : goal.returns-clause-least
returns-clause-least c = λ p wanting are same.
    let schema = c.args.schema.now in
    no_session (is_barred schema p c.args.session wanting (item_at schema c.args.place))
    c.loop-index.index c.loop-index-test.false (c.loop-index.invariant p wanting are same)
