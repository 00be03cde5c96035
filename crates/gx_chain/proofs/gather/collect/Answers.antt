use Rattle.std.proofs.Common.{◌≡◌, [], ◌++◌, ◌∙◌, ap, rules}
use Rattle.std.proofs.lemmas.Result.{MatchResult-at_ok}
use Rattle.gx_chain.specs.Collect.{inside_on}
use Rattle.gx_chain.proofs.CollectLemmas.{chain_apart, collected}
use Rattle.gx_chain.proofs.gather.collect.Goals as goal

pub returns-clause-collected : goal.returns-clause-collected
returns-clause-collected g c told owner all chain =
    let p = c.args.pages.now in
    let s = g.P.PageView.working p in
    let lo = c.args.span.now.lo in
    let hi = c.args.span.now.hi in
    let none : c.new-found.result.items ≡ [] = search rules in
    let found : c.gather_from.new.found.items ≡ inside_on s lo hi all =
    MatchResult-at_ok _ _ c.in_ok-gather_from.field-0 c.in_ok-gather_from.was
    (c.gather_from.ensures.found told owner all chain)
    ∙ ap (λ x. x ++ inside_on s lo hi all) none in
    let has = c.in_ok-append_sorted.ensures.ok in (
      has.more,
      has.appended,
      collected s all lo hi c.gather_from.new.found.items has.more
          (chain_apart (g.P.PageView.ground p) owner c.args.first s all chain) found has.those
          has.in_order,
    )
