use Rattle.std.proofs.Common.{◌≡◌, ℕ, List, refl, subst, sym, arith}
use Rattle.std.proofs.lemmas.Bool.{false≢true}
use Rattle.gx_bnode.specs.Branches.{Branch, lent}
use Rattle.gx_bnode.specs.Scan.{HoldsAscending}
use Rattle.gx_order.proofs.BelowLemmas.{below_is_less}
use Rattle.gx_bytes.proofs.ScanLemmas.{scanned_first, scanned_more, scanned_all, none_first, no_more, not_ascending}
use Rattle.gx_bnode.proofs.BranchLemmas.{branch_format}
use Rattle.gx_bnode.proofs.validity.are_branches.Goals as goal

abbrev separator_of : Branch → List ℕ
separator_of branch = branch.separator

pub returns-in_default : goal.returns-in_default
returns-in_default c = (
  λ bad. absurd (false≢true bad),
  λ held. absurd (none_first branch_format separator_of c.args.bytes.now c.args.count c.requires
      c.in_default.ensures held),
)

pub loop-init : goal.loop-init
loop-init c =
    let found = c.in-Some.ensures in
    scanned_first branch_format separator_of c.args.bytes.now
    (lent (c.in-Some.first, c.in-Some.field-0-0-1)) c.in-Some.behind.now found.0 found.1

pub returns-in_default-split_branch : goal.returns-in_default-split_branch
returns-in_default-split_branch c = (
  λ bad. absurd (false≢true bad),
  λ held. absurd
      (no_more branch_format separator_of c.args.bytes.now c.loop.counter c.loop.rest.now
      c.loop.last.now c.args.count c.loop.invariant
      c.loop-test.true c.in_default-split_branch.ensures held),
)

pub returns-then-not-is_below : goal.returns-then-not-is_below
returns-then-not-is_below c =
    let found = c.in-Some-split_branch.ensures in (
      λ bad. absurd (false≢true bad),
      λ held. absurd
          (not_ascending branch_format separator_of c.args.bytes.now c.loop.counter c.loop.rest.now
          c.loop.last.now c.args.count
          (lent (c.in-Some-split_branch.separator, c.in-Some-split_branch.field-0-0-1))
          c.in-Some-split_branch.behind.now
          c.loop.invariant c.loop-test.true found.0 found.1 (sym c.if-not-is_below.ensures) held),
    )

pub loop-preserved : goal.loop-preserved
loop-preserved c =
    let found = c.in-Some-split_branch.ensures in
    scanned_more branch_format separator_of c.args.bytes.now c.loop.counter c.loop.rest.now
    c.loop.last.now (lent (c.in-Some-split_branch.separator, c.in-Some-split_branch.field-0-0-1))
    c.in-Some-split_branch.behind.now
    c.loop.invariant found.0 found.1 (below_is_less c.loop.last.now
    c.in-Some-split_branch.separator.now c.is_below.result c.is_below.ensures
    c.if-not-is_below.false)

pub returns : goal.returns
returns c =
    let end : c.loop.counter ≡ c.args.count =
    omega (arith, c.loop-test.false, c.loop.auto.counter-end c.requires) in (
      λ _. subst (λ (n : ℕ). HoldsAscending n c.args.bytes.now) end
          (scanned_all branch_format separator_of c.args.bytes.now c.loop.counter c.loop.rest.now
          c.loop.last.now c.loop.invariant),
      λ _. refl,
    )
