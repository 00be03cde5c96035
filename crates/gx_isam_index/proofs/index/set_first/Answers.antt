use Rattle.std.proofs.Common.{◌+◌, ◌*◌, ap, ◌∙◌}
use Rattle.gx_bytes.specs.Parts.{overwritten}
use Rattle.gx_isam_index.proofs.IndexLemmas.{first_is, others_stay, separators_stay, index_stays}
use Rattle.gx_isam_index.proofs.index.set_first.Goals as goal

pub returns-clause-page : goal.returns-clause-page
returns-clause-page c =
    index_stays c.args.page.now c.overwrite.new.bytes c.args.bucket c.args.first
    (4 + 4 * c.from.result) c.requires.page c.requires.bucket c.ranges.first.fits
    (ap (λ n. 4 + 4 * n) c.from.ensures) (c.overwrite.ensures
    ∙ ap (overwritten c.args.page.now (4 + 4 * c.from.result)) c.to_be_bytes.ensures)
    (c.overwrite.auto.bytes ∙ c.requires.page.size)

pub returns-clause-first : goal.returns-clause-first
returns-clause-first c =
    first_is c.args.page.now c.overwrite.new.bytes c.args.bucket c.args.first
    (4 + 4 * c.from.result) c.requires.page c.requires.bucket c.ranges.first.fits
    (ap (λ n. 4 + 4 * n) c.from.ensures) (c.overwrite.ensures
    ∙ ap (overwritten c.args.page.now (4 + 4 * c.from.result)) c.to_be_bytes.ensures)
    (c.overwrite.auto.bytes ∙ c.requires.page.size)

pub returns-clause-others : goal.returns-clause-others
returns-clause-others c =
    others_stay c.args.page.now c.overwrite.new.bytes c.args.bucket c.args.first
    (4 + 4 * c.from.result) c.requires.page c.requires.bucket c.ranges.first.fits
    (ap (λ n. 4 + 4 * n) c.from.ensures) (c.overwrite.ensures
    ∙ ap (overwritten c.args.page.now (4 + 4 * c.from.result)) c.to_be_bytes.ensures)
    (c.overwrite.auto.bytes ∙ c.requires.page.size)

pub returns-clause-separators : goal.returns-clause-separators
returns-clause-separators c =
    separators_stay c.args.page.now c.overwrite.new.bytes c.args.bucket c.args.first
    (4 + 4 * c.from.result) c.requires.page c.requires.bucket c.ranges.first.fits
    (ap (λ n. 4 + 4 * n) c.from.ensures) (c.overwrite.ensures
    ∙ ap (overwritten c.args.page.now (4 + 4 * c.from.result)) c.to_be_bytes.ensures)
    (c.overwrite.auto.bytes ∙ c.requires.page.size)
