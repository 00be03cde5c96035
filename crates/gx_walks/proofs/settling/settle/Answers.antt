use Rattle.std.proofs.Common.{◌∙◌, rules}
use Rattle.std.proofs.lemmas.Fn.{filter_same, dedup_same}
use Rattle.std.specs.List.Sorted.{IsPermutation}
use Rattle.std.proofs.Common.{List, subst}
use Rattle.gx_model.specs.States.{Row}
use Rattle.gx_model.specs.Found.{meets_conds}
use Rattle.gx_walks.proofs.SetLemmas.{has_key_of, settled}
use Rattle.gx_walks.proofs.settling.settle.Goals as goal

pub returns : goal.returns
returns c = λ f test those.
    let conds = c.args.conds.now in
    let kept = filter_same _ (meets_conds conds) _ (λ x b f' k. search rules) _ _
    c.retain.ensures.filtered in
    dedup_same _ has_key_of _ (λ x y b f' x' y' k. search rules) _ _ c.dedup_by.ensures.filtered
    ∙ settled f test conds c.args.rows.now.items c.sort_rows.new.rows.items those
    (subst (λ (l : List Row). IsPermutation l c.sort_rows.new.rows.items) kept c.sort_rows.ensures.those)
    c.in_ok-sort_rows.ensures.in_order
