use Rattle.std.proofs.Common.{◌∙◌, ◌++◌, refl, sym, ap, subst}
use Rattle.std.specs.Prelude.{◌&&◌}
use Rattle.gx_values.specs.declared.values.Kind.{Kind}
use Rattle.gx_values.specs.declared.keys.Span.{Span}
use Rattle.gx_values.specs.Values.{Fits}
use Rattle.gx_values.specs.Keys.{bytes_of, is_inside}
use Rattle.gx_values.specs.Spans.{IsValueSpan}
use Rattle.gx_gather.proofs.Lists.{in_read}
use Rattle.gx_finds.proofs.SpanLemmas.{meets_more, meets_same, on_unmet, value_whole}
use Rattle.gx_finds.proofs.spans.span_of_conditions.Goals as goal
use Rattle.gx_finds.proofs.spans.span_of_conditions.Goals.{then-has_span_on+in_ok-set_span, else-has_span_on}

pub loop-cond-init : goal.loop-cond-init
loop-cond-init c = record {
  meets = λ v rest fits. c.whole_span-met.ensures.all (bytes_of v ++ rest);
  whole = value_whole c.field_kind-kind.result c.whole_span-met.result
      c.whole_span-met.ensures.keys;
}

pub returns-in_err-set_span-clause-nothing : goal.returns-in_err-set_span-clause-nothing
returns-in_err-set_span-clause-nothing c = λ none v fits.
    let conds = c.args.conds.now in
    let cond = c.cond-item.result in
    on_unmet c.args.field conds cond v
    (in_read conds c.loop-cond.cond-index cond c.cond-item.is c.loop-cond-test.true)
    (sym c.has_span_on.ensures ∙ c.if-has_span_on.true)
    (c.in_err-set_span.ensures.nothing refl v
    (subst (λ (k : Kind). Fits k v) (sym c.field_kind-kind.ensures) fits))

pub loop-cond-preserved : goal.loop-cond-preserved
loop-cond-preserved c =
    let met = c.loop-cond.invariant in
    let at = c.loop-cond.cond-index in
    let cond = c.cond-item.result in
    let kind = c.field_kind-kind.result in
    elim c.if-has_span_on.branch [
      | then-has_span_on+in_ok-set_span w ↦ record {
        meets = λ v rest fits.
            ap (λ (s : Span). is_inside s.lo s.hi (bytes_of v ++ rest)) w.met-is
            ∙ w.narrow.ensures.both (bytes_of v ++ rest)
            ∙ (λ i. met.meets v rest fits i && w.in_ok-set_span.ensures.meets v rest fits i)
            ∙ sym (meets_more c.args.field c.args.conds.now at cond v c.cond-item.is
            c.loop-cond-test.true (sym c.has_span_on.ensures ∙ w.if-has_span_on.true));
        whole = subst (IsValueSpan kind) (sym w.met-is)
            (w.narrow.ensures.whole kind met.whole w.in_ok-set_span.ensures.whole);
      }
      | else-has_span_on w ↦ record {
        meets = λ v rest fits.
            ap (λ (s : Span). is_inside s.lo s.hi (bytes_of v ++ rest)) w.met-is
            ∙ met.meets v rest fits
            ∙ sym (meets_same c.args.field c.args.conds.now at cond v c.cond-item.is
            c.loop-cond-test.true (sym c.has_span_on.ensures ∙ w.if-has_span_on.false));
        whole = subst (IsValueSpan kind) (sym w.met-is) met.whole;
      }
    ]
