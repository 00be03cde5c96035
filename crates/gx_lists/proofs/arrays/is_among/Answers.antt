use Rattle.std.proofs.Common.{rules, ◌≡◌, ◌<◌, ◌∙◌, inl, inr, true, false, length, get_or, sym, ap, subst, arith}
use Rattle.std.proofs.lemmas.Bool.{true≢false}
use Rattle.std.proofs.lemmas.List.{take_all}
use Rattle.gx_mapping.specs.Rule.{In}
use Rattle.gx_gather.proofs.Lists.{in_more, in_read}
use Rattle.gx_links.specs.Links.{is_same}
use Rattle.gx_lists.proofs.arrays.is_among.Goals as goal
use Rattle.gx_values.proofs.OrderLemmas.{same_value, value_itself}

pub returns-then-is_eq-clause-yes : goal.returns-then-is_eq-clause-yes
returns-then-is_eq-clause-yes c = λ e.
    let m = c.args.member.now in
    let xs = c.args.members.now in
    let i = c.loop-other.other-index in
    let x = c.other-item.result in
    let read : x ≡ get_or xs i x = search rules in
    let lt : i < length xs = search rules in
    let same : is_same x m ≡ true = search rules in
    subst (λ y. In y xs) (same_value x m same) (in_read xs i x read lt)

pub loop-other-preserved : goal.loop-other-preserved
loop-other-preserved c = λ h.
    let m = c.args.member.now in
    let xs = c.args.members.now in
    let i = c.loop-other.other-index in
    let x = c.other-item.result in
    let read : x ≡ get_or xs i x = search rules in
    let lt : i < length xs = search rules in
    let other : is_same x m ≡ false = search rules in
    elim (in_more xs i x m lt h) [
      | inl a ↦ c.loop-other.invariant a
      | inr is ↦ true≢false (sym (value_itself m) ∙ ap (λ y. is_same y m) (is ∙ sym read) ∙ other)
    ]

pub returns-clause-no : goal.returns-clause-no
returns-clause-no c = λ e h. c.loop-other.invariant
    (subst (In c.args.member.now)
    (sym (take_all c.loop-other.other-index c.args.members.now (omega arith))) h)
