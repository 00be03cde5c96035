use Rattle.std.proofs.Common.{ℕ, List, length, replicate, refl, ap, ◌∙◌, arith}
use Rattle.std.specs.Int.{w16, to_be_bytes}
use Rattle.gx_bytes.specs.Parts.{overwritten}
use Rattle.gx_layout.proofs.FormatLemmas.{laid}
use Rattle.gx_layout.proofs.formatting.text_area.Goals as goal

pub returns : goal.returns
returns c =
    laid 16384 (to_be_bytes w16 (length c.args.schema.now))
    (to_be_bytes w16 (length c.args.equation.now))
    c.args.schema.now c.args.equation.now
    c.overwrite.new.bytes c.overwrite-2.new.bytes c.overwrite-3.new.bytes c.overwrite-4.new.bytes
    refl refl (omega (arith, c.requires))
    (c.overwrite.ensures ∙ ap (λ (part : List ℕ). overwritten (replicate 16384 0) 0 part)
    c.length_bytes.ensures)
    (c.overwrite-2.ensures ∙ ap (λ (part : List ℕ). overwritten c.overwrite.new.bytes 2 part)
    c.length_bytes-2.ensures)
    c.overwrite-3.ensures c.overwrite-4.ensures
