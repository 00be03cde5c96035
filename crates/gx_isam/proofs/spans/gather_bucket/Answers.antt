use Rattle.std.proofs.Common.{◌≡◌, ◌≢◌, ◌++◌, ℕ, List, refl, sym, ap, subst, ◌∙◌}
use Rattle.std.proofs.lemmas.List.{append-nil}
use Rattle.std.proofs.lemmas.Option.{MatchOption-at_none, MatchOption-at_some}
use Rattle.gx_bytes.specs.declared.page.TheConstants.{NONE}
use Rattle.gx_ports.specs.Sheets.{IsPast}
use Rattle.gx_ports.proofs.PageLemmas.{ends_handed_on}
use Rattle.gx_chain.specs.Chain.{IsChain, HasChain, LeadsOn}
use Rattle.gx_chain.specs.Collect.{inside_on}
use Rattle.gx_isam_index.specs.Index.{first_page_of}
use Rattle.gx_isam.proofs.HangLemmas.{no_pages}
use Rattle.gx_isam.proofs.ChangeLemmas.{leads_on}
use Rattle.gx_isam.proofs.spans.gather_bucket.Goals as goal

pub returns-in_err-first_page-clause-ends : goal.returns-in_err-first_page-clause-ends
returns-in_err-first_page-clause-ends g c =
    let p = c.args.pages.now in
    let at = first_page_of c.args.index.now c.args.bucket in
    ends_handed_on g.P.PageView (HasChain g.P.PageView p at) (LeadsOn (g.P.PageView.ground p) at) p
    p p _ c.from_residual.result
    refl refl
    (λ has. leads_on (g.P.PageView.ground p) has.1 (g.P.PageView.working p) at has.2 has.3)
    c.in_err-first_page.ensures.ends c.from_residual.ensures.1

pub returns-in-None-clause-found : goal.returns-in-None-clause-found
returns-in-None-clause-found g c told owner all chain =
    let p = c.args.pages.now in
    let s = g.P.PageView.working p in
    let at = first_page_of c.args.index.now c.args.bucket in
    let none = MatchOption-at_none (at ≡ NONE) (λ n. (at ≡ n) × IsPast (g.P.PageView.ground p) n
    × (n ≢ NONE)) c.in-None.is
    c.in_ok-first_page.ensures.first in
    let empty = no_pages (g.P.PageView.ground p) owner s all c.in_ok-first_page.ensures.small
    (subst (λ n. IsChain (g.P.PageView.ground p) owner s n all) none chain) in
    sym (ap (λ (x : List ℕ). c.args.found.now.items
    ++ inside_on s c.args.span.now.lo c.args.span.now.hi x) empty
    ∙ append-nil c.args.found.now.items)

pub returns-in-Some-clause-found : goal.returns-in-Some-clause-found
returns-in-Some-clause-found g c told owner all chain =
    let p = c.args.pages.now in
    let at = first_page_of c.args.index.now c.args.bucket in
    let found = MatchOption-at_some (at ≡ NONE) (λ n. (at ≡ n) × IsPast (g.P.PageView.ground p) n
    × (n ≢ NONE)) c.in-Some.first
    c.in-Some.is c.in_ok-first_page.ensures.first in
    c.gather_from.ensures.found told owner all
    (subst (λ n. IsChain (g.P.PageView.ground p) owner (g.P.PageView.working p) n all) found.0
    chain)
