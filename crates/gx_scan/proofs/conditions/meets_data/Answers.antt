use Rattle.std.proofs.Common.{◌≡◌, ◌<◌, ◌≤◌, ◌∙◌, Some, length, get_or, sym, ap, subst, arith}
use Rattle.std.specs.Prelude.{IsSomeAnd}
use Rattle.gx_values.specs.declared.values.Value.{Value}
use Rattle.gx_values.specs.Values.{value_cmp, is_met, no_value}
use Rattle.gx_values.specs.Borrowed.{value_of}
use Rattle.gx_actual.specs.Bodies.{body_of}
use Rattle.gx_mapping.proofs.FieldLemmas.{fit_at, fit_length}
use Rattle.gx_codec.specs.Layouts.{coded_slot}
use Rattle.gx_codec.specs.Stored.{code_at, stored_value, HasCode}
use Rattle.gx_codec.proofs.LayoutLemmas.{next_there, coded_laid, coded_have}
use Rattle.gx_scan.proofs.ScanLemmas.{none_past}
use Rattle.gx_scan.proofs.conditions.meets_data.Goals as goal

pub returns-then-index-fields : goal.returns-then-index-fields
returns-then-index-fields c = λ vs fit have same.
    let past : length c.args.fields.now ≤ c.args.index =
    omega (arith, c.if-index-fields.true) in
    let met = c.meets.ensures
    ∙ ap (λ (w : Value). is_met c.args.cond.now.op (value_cmp w c.args.cond.now.bound))
    (none_past c.args.fields.now vs c.args.index fit past) in
    λ j. Some (met j)

pub returns-in_default : goal.returns-in_default
returns-in_default c = λ vs fit have same.
    let cs = c.args.codes.now in
    let i = c.args.index in
    absurd (subst
    (λ o. IsSomeAnd o (λ f. value_of f ≡ stored_value (code_at cs i) (get_or vs i no_value)))
    c.in_default.is
    (c.front_at.ensures vs fit (coded_have cs 0 vs have)
    (same ∙ ap body_of (sym (coded_laid cs 0 vs)))))

pub returns : goal.returns
returns c = λ vs fit have same.
    let fields = c.args.fields.now in
    let cs = c.args.codes.now in
    let i = c.args.index in
    let v = get_or vs i no_value in
    let lt : i < length fields = omega (arith, c.if-index-fields.false) in
    let slots = coded_have cs 0 vs have in
    let has = (next_there (coded_slot cs) vs i slots (omega (arith, lt, fit_length fields vs fit))).0 in
    let front = subst (λ o. IsSomeAnd o (λ f. value_of f ≡ stored_value (code_at cs i) v))
    c.in-Some.is
    (c.front_at.ensures vs fit slots (same ∙ ap body_of (sym (coded_laid cs 0 vs)))) in
    let code = sym c.code_at-code.ensures in
    c.meets_front.ensures v (fit_at i fields vs c.index-fields-index.result no_value fit lt)
    (subst (λ o. HasCode o v) code has) (front ∙ ap (λ o. stored_value o v) code)
