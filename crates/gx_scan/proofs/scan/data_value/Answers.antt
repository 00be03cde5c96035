use Rattle.std.proofs.Common.{◌∙◌, sym, ap, arith}
use Rattle.gx_actual.specs.Bodies.{body_of}
use Rattle.gx_codec.proofs.LayoutLemmas.{plain_laid, plain_have}
use Rattle.gx_scan.proofs.ScanLemmas.{none_past}
use Rattle.gx_scan.proofs.scan.data_value.Goals as goal

pub returns-then-index-fields : goal.returns-then-index-fields
returns-then-index-fields c = λ vs fit same.
    c.front_at.ensures vs fit (plain_have 0 vs) (same ∙ ap body_of (sym (plain_laid 0 vs)))

pub returns-else-index-fields : goal.returns-else-index-fields
returns-else-index-fields c = λ vs fit same.
    none_past c.args.fields.now vs c.args.index fit
    (omega (arith, c.if-index-fields.false))
