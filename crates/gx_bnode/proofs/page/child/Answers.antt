use Rattle.std.proofs.Common.{◌-◌, ap, sym, ◌∙◌, arith}
use Rattle.std.specs.List.{slice_get, slice_index}
use Rattle.std.proofs.lemmas.Iterator.Consumers.{nth_from_yields_List, YieldsList-from_rest}
use Rattle.gx_bytes.proofs.RecordLemmas.{lent_is_some, lent_is_at}
use Rattle.gx_bnode.specs.Branches.{lent}
use Rattle.gx_bnode.specs.Page.{first_of, branches_of, children_of}
use Rattle.gx_bnode.proofs.PageLemmas.{first_is, separators_count, child_at}
use Rattle.gx_bnode.proofs.page.child.Goals as goal

pub returns-then-i-eq0 : goal.returns-then-i-eq0
returns-then-i-eq0 c =
    c.page_number.ensures ∙ first_is c.args.page.now
    ∙ ap (slice_index (children_of c.args.page.now)) (sym c.if-i-eq0.true)

pub unwrap-child-requires : goal.unwrap-child-requires
unwrap-child-requires c =
    let branches = branches_of c.args.page.now in
    let got =
    nth_from_yields_List _ _ _ c.nth.ensures.ran (YieldsList-from_rest branches c.branches.ensures)
    ∙ ap (slice_get branches) c.from.ensures in
    lent_is_some lent c.nth.result branches (c.args.i - 1) got
    (omega (arith, c.requires.place, separators_count branches))

pub returns : goal.returns
returns c =
    let branches = branches_of c.args.page.now in
    let got =
    nth_from_yields_List _ _ _ c.nth.ensures.ran (YieldsList-from_rest branches c.branches.ensures)
    ∙ ap (slice_get branches) c.from.ensures in
    let at = lent_is_at lent c.nth.result c.unwrap-child.result branches (c.args.i - 1) got
    c.unwrap-child.ensures in
    child_at (first_of c.args.page.now) branches c.args.i (lent c.unwrap-child.result) (omega arith)
    (omega (arith, c.requires.place, separators_count branches)) at
