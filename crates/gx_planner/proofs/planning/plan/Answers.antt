use Rattle.std.proofs.Common.{rules, ◌≡◌, ◌∙◌, false, ap, sym, subst}
use Rattle.std.specs.Prelude.{is_some}
use Rattle.gx_planner.specs.Plans.{first_of, plan_by_condition, Applies, IsLeast}
use Rattle.gx_planner.proofs.PlanLaws.{first_has, key_least, link_least, condition_good, not_some}
use Rattle.gx_planner.proofs.planning.plan.Goals as goal

pub returns-in-Some-clause-applies : goal.returns-in-Some-clause-applies
returns-in-Some-clause-applies c =
    let conds : c.as_slice-conds.result.now ≡ c.args.find.now.conds = search rules in
    first_has c.args.find.now c.args.indexed.now 1 c.in-Some.number
    (ap (first_of 1 c.args.indexed.now) (sym conds) ∙ (sym c.first_of.ensures ∙ c.in-Some.is))

pub returns-in-Some-clause-least : goal.returns-in-Some-clause-least
returns-in-Some-clause-least c =
    let conds : c.as_slice-conds.result.now ≡ c.args.find.now.conds = search rules in
    key_least c.args.find.now c.args.indexed.now c.in-Some.number
    (ap (first_of 1 c.args.indexed.now) (sym conds) ∙ (sym c.first_of.ensures ∙ c.in-Some.is))

pub returns-then-is_some-clause-least : goal.returns-then-is_some-clause-least
returns-then-is_some-clause-least c =
    let conds : c.as_slice-conds.result.now ≡ c.args.find.now.conds = search rules in
    link_least c.args.find.now c.args.indexed.now
    (ap (first_of 1 c.args.indexed.now) (sym conds) ∙ (sym c.first_of.ensures ∙ c.in_default.is))

pub returns-clause-applies : goal.returns-clause-applies
returns-clause-applies c =
    let conds : c.as_slice-conds.result.now ≡ c.args.find.now.conds = search rules in
    let no_of : is_some c.args.find.now.of ≡ false = search rules in
    let none = ap (first_of 1 c.args.indexed.now) (sym conds)
    ∙ (sym c.first_of.ensures ∙ c.in_default.is) in
    let same : c.by_condition.result ≡ plan_by_condition c.args.indexed.now c.args.find.now.conds =
    c.by_condition.ensures ∙ ap (plan_by_condition c.args.indexed.now) conds in
    subst (Applies c.args.find.now c.args.indexed.now) (sym same)
    (condition_good c.args.find.now c.args.indexed.now none
    (not_some c.args.find.now.of no_of)).applies

pub returns-clause-least : goal.returns-clause-least
returns-clause-least c =
    let conds : c.as_slice-conds.result.now ≡ c.args.find.now.conds = search rules in
    let no_of : is_some c.args.find.now.of ≡ false = search rules in
    let none = ap (first_of 1 c.args.indexed.now) (sym conds)
    ∙ (sym c.first_of.ensures ∙ c.in_default.is) in
    let same : c.by_condition.result ≡ plan_by_condition c.args.indexed.now c.args.find.now.conds =
    c.by_condition.ensures ∙ ap (plan_by_condition c.args.indexed.now) conds in
    subst (IsLeast c.args.find.now c.args.indexed.now) (sym same)
    (condition_good c.args.find.now c.args.indexed.now none
    (not_some c.args.find.now.of no_of)).least
