use Rattle.std.proofs.Common.{ap, ◌∙◌, arith}
use Rattle.std.specs.List.{slice_get}
use Rattle.std.proofs.lemmas.Iterator.Consumers.{nth_from_yields_List, YieldsList-from_rest}
use Rattle.gx_bytes.proofs.RecordLemmas.{lent_is_some, lent_is_at}
use Rattle.gx_bnode.specs.Branches.{lent}
use Rattle.gx_bnode.specs.Page.{branches_of}
use Rattle.gx_bnode.proofs.PageLemmas.{separators_count, separator_at}
use Rattle.gx_bnode.proofs.page.separator.Goals as goal

pub unwrap-requires : goal.unwrap-requires
unwrap-requires c =
    let branches = branches_of c.args.page.now in
    let got =
    nth_from_yields_List _ _ _ c.nth.ensures.ran (YieldsList-from_rest branches c.branches.ensures)
    ∙ ap (slice_get branches) c.from.ensures in
    lent_is_some lent c.nth.result branches c.args.i got
    (omega (arith, c.requires.place, separators_count branches))

pub returns : goal.returns
returns c =
    let branches = branches_of c.args.page.now in
    let got =
    nth_from_yields_List _ _ _ c.nth.ensures.ran (YieldsList-from_rest branches c.branches.ensures)
    ∙ ap (slice_get branches) c.from.ensures in
    let at = lent_is_at lent c.nth.result c.unwrap.result branches c.args.i got c.unwrap.ensures in
    separator_at branches c.args.i (lent c.unwrap.result)
    (omega (arith, c.requires.place, separators_count branches)) at
