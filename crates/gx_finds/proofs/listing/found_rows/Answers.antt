use Rattle.gx_model.specs.Found.{meets_conds}
use Rattle.gx_finds.proofs.listing.found_rows.Goals as goal

pub returns-clause-listed : goal.returns-clause-listed
returns-clause-listed g c = λ f whole is.
    c.in_ok-sort_rows.ensures.listed f (meets_conds c.args.find.now.conds)
    (c.in_ok-add_found.ensures.rows f whole is)
