use Rattle.std.proofs.Common.{◌≡◌, suc, List, length, ap, ◌∙◌, arith}
use Rattle.std.proofs.lemmas.Result.{err_from_is_err_and}
use Rattle.gx_equation.specs.declared.equation.Term.{Term}
use Rattle.gx_equation.specs.Seen.{tree_of, trees_of}
use Rattle.gx_equation.specs.Trees.{kids_from}
use Rattle.gx_typing.proofs.Onward.{only_goes_on, first_fails, second_goes_on}
use Rattle.gx_typing.proofs.SeenAs.{seen_transpose}
use Rattle.gx_typing.proofs.TermSize.{tree_size, trees_size, one_smaller}
use Rattle.gx_typing.proofs.TypingSteps.{each_one}
use Rattle.gx_typing.proofs.terms.+typing.Goals as goal

pub both_typed-returns-in_err-left : goal.both_typed-returns-in_err-left
both_typed-returns-in_err-left t c = λ due same_0 same_1.
    let p = err_from_is_err_and c.from_residual.result c.from_residual.ensures.1 in
    rw (p.1, p.2) (first_fails c.args.owner due c.args.forms.now.0 (tree_of c.args.first.now)
    (tree_of c.args.second.now) c.args.lines.now c.args.typing.now _ same_0
    c.in_err-left.ensures)

pub both_typed-returns : goal.both_typed-returns
both_typed-returns t c = λ due same_0 same_1.
    let e = second_goes_on c.args.owner due c.args.forms.now.0 c.args.forms.now.1
    (tree_of c.args.first.now) (tree_of c.args.second.now) c.args.lines.now
    c.in_ok-left.left.now c.args.typing.now _ same_0 same_1 c.in_ok-left.ensures in
    rw e c.term_typed-2.ensures

pub each_typed-term_typed-requires : goal.each_typed-term_typed-requires
each_typed-term_typed-requires t c = (
  omega (
    arith,
    one_smaller c.args.kids.now c.loop-i.i c.index-kids-i.result
        (omega arith) c.index-kids-i.is,
    c.decreases,
  ),
  tt,
)

pub same_typed-term_typed-requires : goal.same_typed-term_typed-requires
same_typed-term_typed-requires t c = (
  omega (
    arith,
    one_smaller c.args.kids.now c.loop-kid.kid-index c.kid-item.result
        (omega arith) c.kid-item.is,
    c.decreases,
  ),
  tt,
)

pub term_typed-each_typed-requires : goal.term_typed-each_typed-requires
term_typed-each_typed-requires t c =
    let seen = seen_transpose c.args.term.now c.in-Transpose.kids c.in-Transpose.is in
    let same = c.deref.ensures.value in
    let size : tree_size (tree_of c.args.term.now) ≡ suc
    (trees_size (kids_from (trees_of c.in-Transpose.kids.items))) = ap tree_size seen in
    let below : trees_size (kids_from (trees_of c.deref.result.now)) ≡ trees_size
    (kids_from (trees_of c.in-Transpose.kids.items)) =
    ap (λ (ts : List Term). trees_size (kids_from (trees_of ts))) same in (
      omega (arith, size, below, c.decreases),
      ap length same ∙ each_one c.args.form.now (tree_of c.args.term.now)
          c.in-Transpose.kids.items _ _ c.args.lines.now seen c.term_row.ensures c.in_ok-at.ensures,
    )

pub term_typed-returns-in_ok-made-in-Actual : goal.term_typed-returns-in_ok-made-in-Actual
term_typed-returns-in_ok-made-in-Actual t c =
    let e = only_goes_on c.args.owner c.args.form.now c.in_ok-made-in-Actual.made c.args.term.now
    c.in-Actual.kid _ _ c.args.lines.now c.args.typing.now c.in-Actual.is c.term_row.ensures
    c.in_ok-at.ensures c.in_ok-made-in-Actual.ensures in
    rw e (rw (c.deref-in-Actual.ensures, c.behind-in-Actual.ensures) at c.term_typed.ensures)
