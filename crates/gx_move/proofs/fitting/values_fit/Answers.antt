use Rattle.std.proofs.Common.{◌≡◌, ◌<◌, length, get_or, sym, subst, arith, rules}
use Rattle.std.specs.Prelude.{◌↔◌, IsTrue}
use Rattle.gx_values.specs.declared.records.Field.{Field}
use Rattle.gx_values.specs.declared.values.Value.{Value}
use Rattle.gx_values.specs.Values.{Fits}
use Rattle.gx_move.proofs.FitLemmas.{no_for, met_by, not_met, fit_long, fit_at, fit_next}
use Rattle.gx_move.proofs.fitting.values_fit.Goals as goal

pub returns-then-len-fields : goal.returns-then-len-fields
returns-then-len-fields c =
    let apart : length c.args.values.now ≡ length c.args.fields.now → ⊥ = search rules in
    no_for (λ fit. apart (sym (fit_long c.args.fields.now c.args.values.now fit)))

pub returns-then-not-fits : goal.returns-then-not-fits
returns-then-not-fits c =
    let f = c.index-fields-i.result in
    let v = c.index.result.now in
    let i = c.loop-i.i in
    let same : v ≡ get_or c.args.values.now i v = search rules in
    let lt : i < length c.args.fields.now = omega (arith, c.loop-i-test.true) in
    let exact : IsTrue c.fits.result ↔ Fits f.kind v =
    subst (λ (h : Field). IsTrue c.fits.result ↔ Fits h.kind v) (sym c.index-fields-i.is)
    (subst (λ (u : Value). IsTrue c.fits.result ↔ Fits (get_or c.args.fields.now i f).kind u)
    c.borrowed.ensures c.fits.ensures) in
    no_for (λ fit. not_met c.fits.result c.if-not-fits.true exact
    (fit_at i c.args.fields.now c.args.values.now f v lt c.index-fields-i.is same fit))

pub loop-i-preserved : goal.loop-i-preserved
loop-i-preserved c =
    let f = c.index-fields-i.result in
    let v = c.index.result.now in
    let i = c.loop-i.i in
    let same : v ≡ get_or c.args.values.now i v = search rules in
    let long : length c.args.values.now ≡ length c.args.fields.now = search rules in
    let lt : i < length c.args.fields.now = omega (arith, c.loop-i-test.true) in
    let exact : IsTrue c.fits.result ↔ Fits f.kind v =
    subst (λ (h : Field). IsTrue c.fits.result ↔ Fits h.kind v) (sym c.index-fields-i.is)
    (subst (λ (u : Value). IsTrue c.fits.result ↔ Fits (get_or c.args.fields.now i f).kind u)
    c.borrowed.ensures c.fits.ensures) in
    record {
      fit = fit_next i c.args.fields.now c.args.values.now f v lt (omega (arith, lt, long))
          c.index-fields-i.is same c.loop-i.invariant.fit
          (met_by c.fits.result c.if-not-fits.false exact);
    }
