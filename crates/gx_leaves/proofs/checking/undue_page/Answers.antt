use Rattle.std.proofs.Common.{inl, inr, ℕ, ◌+◌, ◌≡◌, subst, sym, arith}
use Rattle.std.specs.Prelude.{slice_get, Some}
use Rattle.std.proofs.lemmas.Bool.{cases_eq}
use Rattle.std.proofs.lemmas.Option.{get_or_from_slice_get}
use Rattle.gx_leaves.specs.Checks.{IsDueOwner}
use Rattle.gx_leaves.proofs.checking.undue_page.Goals as goal

pub loop-i-preserved : goal.loop-i-preserved
loop-i-preserved c = λ j owner less at. elim (cases_eq j c.loop-i.i) [
  | inl e ↦ subst (λ (n : ℕ). IsDueOwner c.args.tables c.args.leaves (c.args.first + n) owner)
      (sym e)
      (subst (IsDueOwner c.args.tables c.args.leaves (c.args.first + c.loop-i.i))
      (get_or_from_slice_get c.args.owners.now c.loop-i.i owner 0
      (subst (λ (n : ℕ). slice_get c.args.owners.now n ≡ Some owner) e at))
      (c.is_due.ensures.0 c.if-not-is_due.false))
  | inr d ↦ c.loop-i.invariant j owner (omega (arith, less, d)) at
]
