use Rattle.std.proofs.Common.{◌∙◌, sym}
use Rattle.std.proofs.lemmas.Bool.{false≢true}
use Rattle.gx_bnode.specs.Page.{separators_of}
use Rattle.gx_bnode.proofs.PageLemmas.{page_of}
use Rattle.gx_bplus.proofs.SeparatorLemmas.{ascends_with, ascends_behind, ascends_before}
use Rattle.gx_bplus.proofs.splitting.is_between.Goals as goal

pub returns-then-is_above : goal.returns-then-is_above
returns-then-is_above c =
    let seps = separators_of c.args.page.now in
    let up = (page_of c.args.page.now c.requires.page).ascending in (
      (λ under. ascends_with seps c.args.i c.args.key.now up c.requires.place
          (c.is_above.ensures.0 c.if-is_above.true)
          (c.is_under.ensures.0 under)),
      (λ all. c.is_under.ensures.1
          (ascends_before seps c.args.i c.args.key.now c.requires.place all)),
    )

pub returns-else-is_above : goal.returns-else-is_above
returns-else-is_above c =
    let seps = separators_of c.args.page.now in (
      (λ above. absurd (false≢true (sym c.if-is_above.false ∙ above))),
      (λ all. c.is_above.ensures.1
          (ascends_behind seps c.args.i c.args.key.now c.requires.place all)),
    )
