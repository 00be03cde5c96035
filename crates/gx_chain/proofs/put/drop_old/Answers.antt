use Rattle.std.proofs.Common.{refl}
use Rattle.std.proofs.lemmas.Option.{MatchOption-at_some}
use Rattle.std.specs.List.{Contains}
use Rattle.gx_ports.proofs.PageLemmas.{ends_handed_on}
use Rattle.gx_chain.specs.Chain.{entries_at}
use Rattle.gx_chain.specs.Changes.{HasKeyAt}
use Rattle.gx_chain.specs.Walk.{IsReadyToDrop, IsCrowded, LackKey}
use Rattle.gx_chain.proofs.PutLemmas.{has_key, dropped_some}
use Rattle.gx_chain.proofs.put.drop_old.Goals as goal

pub returns-in_err-take_from-clause-ends : goal.returns-in_err-take_from-clause-ends
returns-in_err-take_from-clause-ends g c =
    let p = c.args.pages.now in
    ends_handed_on {T = Unit {0}} g.P.PageView
    (IsReadyToDrop g.P.PageView p c.args.key.now c.args.old)
    (HasKeyAt g.P.PageView p c.in-Some.number c.args.key.now) p p c.take_from.new.pages _
    c.from_residual.result
    refl refl
    (λ r. (
      r.told,
      has_key (g.P.PageView.ground p) r.owner r.first c.args.key.now (g.P.PageView.working p)
          r.pages
          r.chain c.in-Some.number c.args.old c.in-Some.is r.has,
    ))
    c.in_err-take_from.ensures.ends c.from_residual.ensures.1

pub returns-in_ok-take_from-clause-dropped : goal.returns-in_ok-take_from-clause-dropped
returns-in_ok-take_from-clause-dropped g c told owner first before chain has =
    let p = c.args.pages.now in
    let s = g.P.PageView.working p in
    let old = MatchOption-at_some (LackKey s before c.args.key.now)
    (λ page. Contains before page × IsCrowded (entries_at s page) c.args.key.now) c.in-Some.number
    c.in-Some.is has in
    dropped_some (g.P.PageView.ground p) owner first c.args.key.now s
    (g.P.PageView.working c.take_from.new.pages) before chain c.in-Some.number old.0 old.1
    (c.in_ok-take_from.ensures.taken told)
