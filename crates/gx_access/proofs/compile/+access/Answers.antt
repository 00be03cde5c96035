use Rattle.std.proofs.Common.{rules, ◌≡◌, ◌++◌, ◌∙◌, refl, List, map, sym, ap, arith, Some}
use Rattle.gx_values.specs.declared.records.Form.{Form}
use Rattle.gx_stack.specs.declared.node.Node.{Node}
use Rattle.gx_stack.specs.Tree.{kids_height}
use Rattle.gx_stack.specs.Seen.{tree_of, kids_from}
use Rattle.gx_access.specs.Access.{Only, By}
use Rattle.gx_access.specs.declared.access.Fragment.{Fragment}
use Rattle.gx_access.specs.Seen.{choice_of, choices_from}
use Rattle.gx_access.specs.Views.{coded_view}
use Rattle.std.specs.Option.{option_map, option_and_then}
use Rattle.gx_access.specs.Whole.{access_below, access_row, first_of}
use Rattle.gx_access.proofs.CompileSteps.{ok_weaker, of_nodes, layer_high, layer_row, leaf_row, alternative_done, alternatives_done, column_done, column_failed, where_flat, none_left, joined_none, joined_one, joined_both, groups_found, groups_few}
use Rattle.gx_access.proofs.compile.+access.Goals as goal

pub access_below-returns-in_err-one_fragment-in-Leaf : goal.access_below-returns-in_err-one_fragment-in-Leaf
access_below-returns-in_err-one_fragment-in-Leaf g t c = search rules

pub access_below-returns-in_err-arrangement-in-Layer : goal.access_below-returns-in_err-arrangement-in-Layer
access_below-returns-in_err-arrangement-in-Layer g t c = search rules

pub access_below-access_row-requires : goal.access_below-access_row-requires
access_below-access_row-requires g t c κs within =
    let high = layer_high c.args.node.now c.in-Layer.layer c.in-Layer.is in
    let same = ap (λ (ks : List (Node _)). kids_height (kids_from (map tree_of ks)))
    c.deref.ensures.value in
    (omega (arith, high, same, c.decreases), search rules)

pub access_below-returns-in_ok-one_fragment-in-Leaf : goal.access_below-returns-in_ok-one_fragment-in-Leaf
access_below-returns-in_ok-one_fragment-in-Leaf g t c =
    ap Some c.in_ok-one_fragment-in-Leaf.ensures
    ∙ leaf_row g.M.Mapping.rule g.M.Arranged.arranged c.args.fields.now c.args.node.now
    c.in-Leaf.leaf c.args.view.now c.in-Leaf.is

pub access_below-returns-in_ok-arrangement-in-Layer : goal.access_below-returns-in_ok-arrangement-in-Layer
access_below-returns-in_ok-arrangement-in-Layer g t c =
    let rule = g.M.Mapping.rule in
    let arranged = g.M.Arranged.arranged in
    let a = c.in_ok-arrangement-in-Layer.arrangement in
    let own = c.form.result.now.fields in
    let x = c.args.view.now in
    ok_weaker c.access_row.result _ _
    (λ found h. h ∙ ap (λ ks. access_row c.args.fields.now a own
    (of_nodes rule arranged c.args.fields.now ks) x) c.deref.ensures.value
    ∙ layer_row rule arranged c.args.fields.now c.args.node.now c.in-Layer.layer x a own
    c.in-Layer.is c.in_ok-arrangement-in-Layer.ensures
    (ap (λ (f : Form). f.fields) c.form.ensures))
    c.access_row.ensures

pub access_row-first_access-requires : goal.access_row-first_access-requires
access_row-first_access-requires g t c κs within = (omega (arith, c.decreases), search rules)

pub access_row-by_access-requires : goal.access_row-by_access-requires
access_row-by_access-requires g t c κs within = (omega (arith, c.decreases), search rules)

pub access_row-first_access-requires-in-Some : goal.access_row-first_access-requires-in-Some
access_row-first_access-requires-in-Some g t c κs within = (omega (arith, c.decreases), search rules)

pub access_row-first_access-requires-in-Some-2 : goal.access_row-first_access-requires-in-Some-2
access_row-first_access-requires-in-Some-2 g t c κs within = (omega (arith, c.decreases), search rules)

pub access_row-groups_access-requires : goal.access_row-groups_access-requires
access_row-groups_access-requires g t c κs within = (omega (arith, c.decreases), search rules)

pub access_row-columns_access-requires : goal.access_row-columns_access-requires
access_row-columns_access-requires g t c κs within = (omega (arith, c.decreases), search rules)

pub access_row-returns-in_err-below-in-Body : goal.access_row-returns-in_err-below-in-Body
access_row-returns-in_err-below-in-Body g t c = search rules

pub access_row-returns-in_err-below-in-Coded : goal.access_row-returns-in_err-below-in-Coded
access_row-returns-in_err-below-in-Coded g t c = search rules

pub access_row-returns-in-Same : goal.access_row-returns-in-Same
access_row-returns-in-Same g t c =
    let bs = of_nodes g.M.Mapping.rule g.M.Arranged.arranged c.args.fields.now c.args.kids.now in
    ok_weaker c.first_access.result _ _
    (λ found h. h ∙ ap (λ a. access_row c.args.fields.now a c.args.own.now bs c.args.view.now)
    (sym c.in-Same.is)) c.first_access.ensures

pub access_row-returns-in-ByValue : goal.access_row-returns-in-ByValue
access_row-returns-in-ByValue g t c =
    let bs = of_nodes g.M.Mapping.rule g.M.Arranged.arranged c.args.fields.now c.args.kids.now in
    ok_weaker c.by_access.result _ _
    (λ found h. h ∙ ap (λ a. access_row c.args.fields.now a c.args.own.now bs c.args.view.now)
    (sym c.in-ByValue.is)) (c.by_access.ensures c.args.own.now)

pub access_row-returns-in-Groups : goal.access_row-returns-in-Groups
access_row-returns-in-Groups g t c =
    let bs = of_nodes g.M.Mapping.rule g.M.Arranged.arranged c.args.fields.now c.args.kids.now in
    ok_weaker c.groups_access.result _ _
    (λ found h. h ∙ ap (λ a. access_row c.args.fields.now a c.args.own.now bs c.args.view.now)
    (sym c.in-Groups.is)) c.groups_access.ensures

pub access_row-returns-in-Columns : goal.access_row-returns-in-Columns
access_row-returns-in-Columns g t c =
    let bs = of_nodes g.M.Mapping.rule g.M.Arranged.arranged c.args.fields.now c.args.kids.now in
    ok_weaker c.columns_access.result _ _
    (λ found h. h ∙ ap (λ a. access_row c.args.fields.now a c.args.own.now bs c.args.view.now)
    (sym c.in-Columns.is)) (c.columns_access.ensures c.args.own.now)

pub access_row-returns-in-Cut : goal.access_row-returns-in-Cut
access_row-returns-in-Cut g t c =
    let bs = of_nodes g.M.Mapping.rule g.M.Arranged.arranged c.args.fields.now c.args.kids.now in
    ok_weaker c.cut_access.result _ _
    (λ found h. h ∙ ap (λ a. access_row c.args.fields.now a c.args.own.now bs c.args.view.now)
    (sym c.in-Cut.is)) (c.cut_access.ensures c.args.own.now)

pub access_row-returns-in-Other : goal.access_row-returns-in-Other
access_row-returns-in-Other g t c =
    let bs = of_nodes g.M.Mapping.rule g.M.Arranged.arranged c.args.fields.now c.args.kids.now in
    ap (λ a. access_row c.args.fields.now a c.args.own.now bs c.args.view.now) (sym c.in-Other.is)

pub access_row-returns-in-None : goal.access_row-returns-in-None
access_row-returns-in-None g t c =
    let bs = of_nodes g.M.Mapping.rule g.M.Arranged.arranged c.args.fields.now c.args.kids.now in
    ap (λ o. option_and_then (first_of bs) o) (sym c.in-None.is ∙ c.in_ok-below-in-Body.ensures)
    ∙ ap (λ a. access_row c.args.fields.now a c.args.own.now bs c.args.view.now) (sym c.in-Body.is)

pub access_row-returns-in-Some : goal.access_row-returns-in-Some
access_row-returns-in-Some g t c =
    let bs = of_nodes g.M.Mapping.rule g.M.Arranged.arranged c.args.fields.now c.args.kids.now in
    ok_weaker c.first_access-in-Some.result _ _
    (λ found h. h
    ∙ ap (λ o. option_and_then (first_of bs) o) (sym c.in-Some.is ∙ c.in_ok-below-in-Body.ensures)
    ∙ ap (λ a. access_row c.args.fields.now a c.args.own.now bs c.args.view.now) (sym c.in-Body.is))
    c.first_access-in-Some.ensures

pub access_row-returns-in-Some-2 : goal.access_row-returns-in-Some-2
access_row-returns-in-Some-2 g t c =
    let bs = of_nodes g.M.Mapping.rule g.M.Arranged.arranged c.args.fields.now c.args.kids.now in
    ok_weaker c.first_access-in-Some-2.result _ _
    (λ found h. h
    ∙ ap (λ o. option_and_then (first_of bs) o) (sym c.in-Some-2.is ∙ c.in_ok-below-in-Coded.ensures
    ∙ ap (λ i. coded_view i c.in-Coded.code c.args.view.now) c.from.ensures)
    ∙ ap (λ a. access_row c.args.fields.now a c.args.own.now bs c.args.view.now) (sym c.in-Coded.is))
    c.first_access-in-Some-2.ensures

pub access_row-returns-in-None-2 : goal.access_row-returns-in-None-2
access_row-returns-in-None-2 g t c =
    let bs = of_nodes g.M.Mapping.rule g.M.Arranged.arranged c.args.fields.now c.args.kids.now in
    ap (λ o. option_and_then (first_of bs) o) (sym c.in-None-2.is ∙ c.in_ok-below-in-Coded.ensures
    ∙ ap (λ i. coded_view i c.in-Coded.code c.args.view.now) c.from.ensures)
    ∙ ap (λ a. access_row c.args.fields.now a c.args.own.now bs c.args.view.now) (sym c.in-Coded.is)

pub by_access-loop-left-preserved : goal.by_access-loop-left-preserved
by_access-loop-left-preserved g t c =
    let done = alternative_done g.M.Mapping.rule g.M.Arranged.arranged c.args.fields.now
    c.loop-left.left.now c.kid-item.result c.args.view.now c.loop-left.accesses.items _
    c.in-Some-2.access c.in_ok-access.field-0 _ _ c.in-len1-up.len_at_least c.kid-item.is
    c.in_ok-access.ensures c.in-Some-2.is c.in_ok-push.ensures.items c.loop-left.invariant.low
    c.loop-left.invariant.so_far in
    record { low = done.0; so_far = done.1 }

pub by_access-returns : goal.by_access-returns
by_access-returns g t c = λ own.
    ap Some c.by_value.ensures
    ∙ ap (λ bounds. Some (By c.in-Some.chooser bounds
    (choices_from (map choice_of c.loop-left.accesses.items)))) c.in_ok-copy.ensures
    ∙ alternatives_done g.M.Mapping.rule g.M.Arranged.arranged c.args.fields.now
    c.loop-left.left.now c.args.kids.now c.args.view.now c.loop-left.accesses.items
    c.args.bounds.now c.in-Some.chooser _ c.in_default-left.len_below
    (sym c.chooser_of.ensures ∙ c.in-Some.is) c.loop-left.invariant.so_far

pub columns_access-loop-left-preserved : goal.columns_access-loop-left-preserved
columns_access-loop-left-preserved g t c =
    let rule = g.M.Mapping.rule in
    let arranged = g.M.Arranged.arranged in
    let kid = c.kid-item.result in
    let done = column_done rule arranged c.args.fields.now c.loop-left.left.now
    c.loop-left.slots.now kid _ c.args.view.now.groups c.loop-left.all.items c.in-Some.more _
    (option_map choice_of c.in_ok-access_below.field-0) _ _ c.in-len1-up.len_at_least
    c.in-len1-up-slots.len_at_least c.kid-item.is
    (c.in_ok-access_below.ensures
    ∙ ap (λ x. (access_below rule arranged c.args.fields.now (tree_of kid)).of x) c.in_ok-column.ensures)
    (sym c.only_fragments.ensures ∙ c.in-Some.is) c.in_ok-append.ensures
    c.loop-left.invariant.low c.loop-left.invariant.so_far in
    record { low = done.0; so_far = done.1 }

pub groups_access-returns-in_default : goal.groups_access-returns-in_default
groups_access-returns-in_default g t c =
    groups_few g.M.Mapping.rule g.M.Arranged.arranged c.args.fields.now c.args.kids.now
    c.args.mask.now c.args.own.now c.args.view.now c.in_default.len_below

pub columns_access-returns-in_default-only_fragments :
    goal.columns_access-returns-in_default-only_fragments
columns_access-returns-in_default-only_fragments g t c = λ own.
    let rule = g.M.Mapping.rule in
    let arranged = g.M.Arranged.arranged in
    let kid = c.kid-item.result in
    let stands : c.args.view.now.wraps ≡ 0 = search rules in
    column_failed rule arranged c.args.fields.now c.loop-left.left.now c.loop-left.slots.now kid _
    c.args.view.now.groups c.loop-left.all.items
    (option_map choice_of c.in_ok-access_below.field-0) _ c.in-len1-up.len_at_least
    c.in-len1-up-slots.len_at_least c.kid-item.is
    (c.in_ok-access_below.ensures
    ∙ ap (λ x. (access_below rule arranged c.args.fields.now (tree_of kid)).of x) c.in_ok-column.ensures)
    (sym c.only_fragments.ensures ∙ none_left _ c.in_default-only_fragments.not-Some)
    c.loop-left.invariant.so_far
    ∙ sym (where_flat c.args.view.now.wraps _ stands)

pub groups_access-returns-in_default-only_fragments :
    goal.groups_access-returns-in_default-only_fragments
groups_access-returns-in_default-only_fragments g t c =
    let rule = g.M.Mapping.rule in
    let arranged = g.M.Arranged.arranged in
    let one = option_map choice_of c.in_ok-access_below.field-0 in
    let other = (access_below rule arranged c.args.fields.now (tree_of c.second-item.result)).of
    c.in-Some.other in
    sym (joined_none one other
    (sym c.only_fragments.ensures ∙ none_left _ c.in_default-only_fragments.not-Some))
    ∙ groups_found rule arranged c.args.fields.now c.args.kids.now c.first-item.result
    c.second-item.result c.args.mask.now c.args.own.now c.args.view.now c.in-Some.one c.in-Some.other
    one other c.in-len2-up.len_at_least c.first-item.is c.second-item.is
    (sym c.in_ok-one.ensures ∙ c.in-Some.is) c.in_ok-access_below.ensures refl

pub groups_access-returns-in_default-only_fragments-2 :
    goal.groups_access-returns-in_default-only_fragments-2
groups_access-returns-in_default-only_fragments-2 g t c =
    let one = option_map choice_of c.in_ok-access_below.field-0 in
    let other = option_map choice_of c.in_ok-access_below-2.field-0 in
    sym (joined_one one other c.in-Some-only_fragments.fragments
    (sym c.only_fragments.ensures ∙ c.in-Some-only_fragments.is)
    (sym c.only_fragments-2.ensures ∙ none_left _ c.in_default-only_fragments-2.not-Some))
    ∙ groups_found g.M.Mapping.rule g.M.Arranged.arranged c.args.fields.now c.args.kids.now
    c.first-item.result c.second-item.result c.args.mask.now c.args.own.now c.args.view.now
    c.in-Some.one c.in-Some.other one other c.in-len2-up.len_at_least c.first-item.is
    c.second-item.is (sym c.in_ok-one.ensures ∙ c.in-Some.is) c.in_ok-access_below.ensures
    c.in_ok-access_below-2.ensures

pub groups_access-returns : goal.groups_access-returns
groups_access-returns g t c =
    let one = option_map choice_of c.in_ok-access_below.field-0 in
    let other = option_map choice_of c.in_ok-access_below-2.field-0 in
    let others = c.in-Some-only_fragments-2.others in
    ap Some (c.only.ensures ∙ ap Only (c.in_ok-append.ensures
    ∙ ap (λ (fs : List Fragment). fs ++ others) c.fragments.view_is))
    ∙ sym (joined_both one other c.in-Some-only_fragments.fragments others
    (sym c.only_fragments.ensures ∙ c.in-Some-only_fragments.is)
    (sym c.only_fragments-2.ensures ∙ c.in-Some-only_fragments-2.is))
    ∙ groups_found g.M.Mapping.rule g.M.Arranged.arranged c.args.fields.now c.args.kids.now
    c.first-item.result c.second-item.result c.args.mask.now c.args.own.now c.args.view.now
    c.in-Some.one c.in-Some.other one other c.in-len2-up.len_at_least c.first-item.is
    c.second-item.is (sym c.in_ok-one.ensures ∙ c.in-Some.is) c.in_ok-access_below.ensures
    c.in_ok-access_below-2.ensures
