use Rattle.std.proofs.Common.{◌+◌, ◌<◌, ◌∙◌, Some, None, length, map, get_or, cond, false, sym, ap, subst, arith}
use Rattle.std.specs.Prelude.{not}
use Rattle.std.proofs.lemmas.List.{length-map}
use Rattle.gx_laws.proofs.ListLemmas.{turned_at}
use Rattle.gx_values.specs.Values.{no_value}
use Rattle.gx_actual.specs.Bodies.{body_of}
use Rattle.gx_mapping.proofs.FieldLemmas.{fit_length}
use Rattle.gx_codec.specs.Layouts.{IsFront}
use Rattle.gx_codec.proofs.LayoutLemmas.{marked_laid, marked_have}
use Rattle.gx_scan.proofs.ScanLemmas.{none_past}
use Rattle.gx_scan.proofs.joined.data_value.Goals as goal

pub returns-then-index-fields : goal.returns-then-index-fields
returns-then-index-fields c = λ vs fit first others.
    none_past c.args.fields.now vs c.args.index fit
    (omega (arith, c.if-index-fields.true))

pub returns-then-mask-index : goal.returns-then-mask-index
returns-then-mask-index c = λ vs fit first others.
    let mask = c.args.mask.now in
    let i = c.args.index in
    subst (λ b. IsFront (cond b (Some None) None) (get_or vs i no_value) c.front_at.result)
    c.if-mask-index.true
    (c.front_at.ensures vs fit (marked_have mask 0 vs)
    (first ∙ ap body_of (sym (marked_laid mask 0 vs (omega (
      arith,
      c.requires.long,
      fit_length c.args.fields.now vs fit,
    ))))))

pub returns-else-mask-index : goal.returns-else-mask-index
returns-else-mask-index c = λ vs fit first others.
    let mask = c.args.mask.now in
    let i = c.args.index in
    let lt : i < length mask = omega (arith, c.if-index-fields.false, c.requires.long) in
    subst (λ b. IsFront (cond b (Some None) None) (get_or vs i no_value) c.front_at-else-mask-index.result)
    (sym (turned_at mask i false lt (sym c.if-mask-index.false)))
    (c.front_at-else-mask-index.ensures vs fit (marked_have (map not mask) 0 vs)
    (others ∙ ap body_of (sym (marked_laid (map not mask) 0 vs (omega (
      arith,
      c.requires.long,
      fit_length c.args.fields.now vs fit,
      length-map mask not,
    ))))))
