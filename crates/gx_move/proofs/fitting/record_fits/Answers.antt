use Rattle.std.proofs.Common.{◌≡◌, ◌↔◌, List, length, subst, sym, ap, ◌∙◌, arith, rules}
use Rattle.std.specs.Prelude.{IsTrue}
use Rattle.std.specs.List.{IsSplitAt}
use Rattle.std.proofs.lemmas.Bool.{true≢false}
use Rattle.gx_values.specs.declared.records.Field.{Field}
use Rattle.gx_values.specs.declared.records.Rec.{Rec}
use Rattle.gx_values.specs.declared.values.Value.{Value}
use Rattle.gx_values.specs.Values.{AreFit}
use Rattle.gx_move.proofs.FitLemmas.{no_for, fit_both, fit_short}
use Rattle.gx_move.proofs.fitting.record_fits.Goals as goal

pub returns-then-values_fit : goal.returns-then-values_fit
returns-then-values_fit c =
    let fs = c.args.file.now.fields in
    let rec = c.args.rec.now in
    let n = c.len.result in
    let same : c.deref.result.now ≡ fs = search rules in
    let long : n ≡ length rec.key = search rules in
    let both = fit_both fs c.in-Some.keys.now c.in-Some.others.now rec.key rec.fields n
    (subst (λ (gs : List Field). IsSplitAt gs n c.in-Some.keys.now c.in-Some.others.now) same
    c.in-Some.ensures.cases) long in
    let others : IsTrue c.values_fit-then-values_fit.result
    ↔ AreFit c.in-Some.others.now rec.fields =
    subst (λ (vs : List Value). IsTrue c.values_fit-then-values_fit.result
    ↔ AreFit c.in-Some.others.now vs) (ap (λ (r : Rec). r.fields) c.rec.view_is)
    c.values_fit-then-values_fit.ensures in (
      (λ yes. both.0 (c.values_fit.ensures.0 c.if-values_fit.true) (others.0 yes)),
      (λ fit. others.1 (both.1 fit).1),
    )

pub returns-else-values_fit : goal.returns-else-values_fit
returns-else-values_fit c =
    let fs = c.args.file.now.fields in
    let rec = c.args.rec.now in
    let n = c.len.result in
    let same : c.deref.result.now ≡ fs = search rules in
    let long : n ≡ length rec.key = search rules in
    let both = fit_both fs c.in-Some.keys.now c.in-Some.others.now rec.key rec.fields n
    (subst (λ (gs : List Field). IsSplitAt gs n c.in-Some.keys.now c.in-Some.others.now) same
    c.in-Some.ensures.cases) long in (
      (λ yes. absurd (true≢false (sym yes ∙ c.if-values_fit.false))),
      (λ fit. c.values_fit.ensures.1 (both.1 fit).0),
    )

pub returns-in-None : goal.returns-in-None
returns-in-None c =
    let fs = c.args.file.now.fields in
    let rec = c.args.rec.now in
    let same : c.deref.result.now ≡ fs = search rules in
    let many : length c.deref.result.now ≡ length fs = ap length same in
    let long : c.len.result ≡ length rec.key = search rules in
    no_for (fit_short fs rec.key rec.fields
    (omega (arith, long, c.in-None.ensures.cases, many)))
