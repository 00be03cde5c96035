use Rattle.std.proofs.Common.{sym, ◌∙◌}
use Rattle.std.proofs.lemmas.Bool.{true≢false}
use Rattle.gx_move.proofs.DueLemmas.{valid_stock_for}
use Rattle.gx_move.proofs.FitLemmas.{stock_for, files_of_stock, links_of_stock}
use Rattle.gx_move.proofs.fitting.fits.Goals as goal

pub returns-then-files_fit-clause-exact : goal.returns-then-files_fit-clause-exact
returns-then-files_fit-clause-exact c = (
  (λ yes. stock_for c.args.schema.now c.args.stock.now
      (c.files_fit.ensures.0 c.if-files_fit.true) (c.links_fit.ensures.0 yes)),
  (λ is. c.links_fit.ensures.1 (links_of_stock c.args.schema.now c.args.stock.now is)),
)

pub returns-then-files_fit-clause-valid : goal.returns-then-files_fit-clause-valid
returns-then-files_fit-clause-valid c = λ valid.
    c.links_fit.ensures.1 (links_of_stock c.args.schema.now c.args.stock.now
    (valid_stock_for c.args.schema.now c.args.stock.now c.requires.well_formed valid))

pub returns-else-files_fit-clause-exact : goal.returns-else-files_fit-clause-exact
returns-else-files_fit-clause-exact c = (
  (λ yes. absurd (true≢false (sym yes ∙ c.if-files_fit.false))),
  (λ is. c.files_fit.ensures.1 (files_of_stock c.args.schema.now c.args.stock.now is)),
)

pub returns-else-files_fit-clause-valid : goal.returns-else-files_fit-clause-valid
returns-else-files_fit-clause-valid c = λ valid.
    c.files_fit.ensures.1 (files_of_stock c.args.schema.now c.args.stock.now
    (valid_stock_for c.args.schema.now c.args.stock.now c.requires.well_formed valid))
