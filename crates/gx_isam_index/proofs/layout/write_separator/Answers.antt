use Rattle.std.proofs.Common.{◌+◌, List, ap, refl, sym, ◌∙◌, ℕ, arith}
use Rattle.std.specs.Int.{w16, to_be_bytes}
use Rattle.std.specs.Prelude.{length}
use Rattle.gx_bytes.specs.Parts.{overwritten}
use Rattle.gx_bytes.proofs.PartLemmas.{overwritten-overwritten}
use Rattle.gx_isam_index.proofs.SeparatorLemmas.{separator_parts}
use Rattle.gx_isam_index.proofs.layout.write_separator.Goals as goal

pub returns-clause-page : goal.returns-clause-page
returns-clause-page c =
    let bytes = c.args.page.now in
    let at = c.args.at in
    let separator = c.args.separator.now in
    let len = to_be_bytes w16 (length separator) in
    let room = c.requires.room in
    c.overwrite-2.ensures
    ∙ ap (λ (b : List ℕ). overwritten b (at + 2) separator)
    (c.overwrite.ensures ∙ ap (overwritten bytes at) c.to_be_bytes.ensures)
    ∙ overwritten-overwritten bytes at (at + 2) len separator refl (omega (arith, room))
    ∙ ap (overwritten bytes at) (sym (separator_parts separator))
