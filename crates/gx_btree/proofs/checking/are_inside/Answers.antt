use Rattle.std.proofs.Common.{◌≡◌, ◌+◌, ◌-◌, ◌<◌, ℕ, List, length, true, refl, sym, ◌∙◌, subst, arith}
use Rattle.std.proofs.lemmas.Bool.{false≢true}
use Rattle.gx_slots.specs.Entries.{lent}
use Rattle.gx_slots.specs.Page.{entries_of}
use Rattle.gx_btree.specs.Order.{IsUpTo}
use Rattle.gx_btree.proofs.InsideLemmas.{some_inside, first_inside}
use Rattle.gx_btree.proofs.checking.are_inside.Goals as goal

pub returns-then-is_up_to : goal.returns-then-is_up_to
returns-then-is_up_to c =
    let n = c.count-count.result in
    let some = c.if-count-eq0.false in
    let first = lent c.entry.result in
    let many : length (entries_of c.args.page.now) ≡ n - 1 + 1 =
    omega (arith, c.count-count.ensures, some) in
    let low = subst (λ (k : List ℕ). IsUpTo k first.key) c.as_slice.ensures.value
    (sym c.is_up_to.ensures ∙ c.if-is_up_to.true) in
    some_inside c.args.page.now c.args.part.now c.args.high.now first (lent c.entry-2.result)
    (n - 1) true c.is_under.result c.requires many c.entry.ensures c.entry-2.ensures
    ((λ _. low), (λ _. refl)) c.is_under.ensures

pub returns-else-is_up_to : goal.returns-else-is_up_to
returns-else-is_up_to c =
    let some = c.if-count-eq0.false in
    let first = lent c.entry.result in
    let above : 0 < length (entries_of c.args.page.now) = omega (arith, c.count-count.ensures, some)
    in (
      (λ is. absurd (false≢true (sym c.if-is_up_to.false ∙ is))),
      (λ inside. c.is_up_to.ensures
          ∙ subst (λ (k : List ℕ). IsUpTo k first.key) (sym c.as_slice.ensures.value)
          (first_inside c.args.page.now c.args.part.now c.args.high.now first above c.entry.ensures
          inside)),
    )
