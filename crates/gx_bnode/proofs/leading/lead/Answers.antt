use Rattle.std.proofs.Common.{◌≡◌, ℕ, ◌+◌, ◌-◌, List, [], length, refl, sym, ap, ◌∙◌, subst, arith}
use Rattle.gx_bytes.proofs.RecordLemmas.{length-records}
use Rattle.gx_bytes.proofs.ScanLemmas.{scanned_first, scanned_more, scanned_all, none_first, no_more, not_ascending}
use Rattle.gx_order.proofs.BelowLemmas.{below_is_less}
use Rattle.std.specs.List.{sum_by}
use Rattle.gx_bnode.specs.Branches.{Branch, AreAscending, branch_len, branches_in, lent}
use Rattle.gx_bnode.specs.Forks.{IsWay}
use Rattle.gx_bnode.specs.Page.{separators_in}
use Rattle.gx_bnode.specs.Scan.{HoldsAscending}
use Rattle.gx_bnode.proofs.BranchLemmas.{branch_format}
use Rattle.gx_bnode.proofs.ForkLemmas.{way_none, scan_up, scan_len, scan_more, scan_one, one_up}
use Rattle.gx_bnode.proofs.leading.lead.Goals as goal

abbrev separator_of : Branch → List ℕ
separator_of branch = branch.separator

pub returns-in_err-front : goal.returns-in_err-front
returns-in_err-front c =
    rw c.from_residual.ensures (λ held. none_first branch_format separator_of c.args.bytes.now
    c.args.count c.requires c.in_err-front.ensures held)

pub loop-place-init : goal.loop-place-init
loop-place-init c =
    let found = c.in_ok-front.ensures in
    let bytes = c.args.bytes.now in
    let branch = lent (c.in_ok-front.front, c.in_ok-front.right) in
    let one = scan_one bytes branch c.in_ok-front.behind.now found.0 found.1 in (
      scanned_first branch_format separator_of bytes branch c.in_ok-front.behind.now found.0
          found.1,
      subst (λ bs. IsWay c.args.first bs c.args.key.now c.pass-way.result.place
          c.pass-way.result.child) (sym one)
          (c.pass-way.ensures c.args.first [] branch refl refl refl (one_up branch)
          (way_none c.args.first c.args.key.now)),
    )

pub returns-in_err-separator : goal.returns-in_err-separator
returns-in_err-separator c =
    rw c.from_residual-in_err-separator.ensures (λ held. no_more branch_format separator_of
    c.args.bytes.now c.loop-place.place c.loop-place.rest.now c.loop-place.last.now c.args.count
    c.loop-place.invariant.0 c.loop-place-test.true c.in_err-separator.ensures held)

pub returns-then-not-is_below : goal.returns-then-not-is_below
returns-then-not-is_below c =
    let found = c.in_ok-separator.ensures in
    λ held. not_ascending branch_format separator_of c.args.bytes.now c.loop-place.place
    c.loop-place.rest.now c.loop-place.last.now c.args.count
    (lent (c.in_ok-separator.separator, c.in_ok-separator.right))
    c.in_ok-separator.behind.now
    c.loop-place.invariant.0 c.loop-place-test.true found.0 found.1 (sym c.if-not-is_below.ensures) held

pub loop-place-preserved : goal.loop-place-preserved
loop-place-preserved c =
    let found = c.in_ok-separator.ensures in
    let bytes = c.args.bytes.now in
    let branch = lent (c.in_ok-separator.separator, c.in_ok-separator.right) in
    let behind = c.in_ok-separator.behind.now in
    let old = c.loop-place.invariant.0 in
    let scan = scanned_more branch_format separator_of bytes c.loop-place.place c.loop-place.rest.now
    c.loop-place.last.now branch behind old found.0 found.1 (below_is_less c.loop-place.last.now
    c.in_ok-separator.separator.now c.is_below.result c.is_below.ensures
    c.if-not-is_below.false) in
    let more = scan_more bytes c.loop-place.place c.loop-place.rest.now c.loop-place.last.now old branch behind
    found.0 found.1 in (
      scan,
      subst (λ bs. IsWay c.args.first bs c.args.key.now c.pass-way-in-loop-place.result.place
          c.pass-way-in-loop-place.result.child) (sym more)
          (c.pass-way-in-loop-place.ensures c.args.first (branches_in c.loop-place.place bytes) branch
          (length-records branch_format c.loop-place.place bytes) refl refl
          (subst (λ bs. AreAscending (separators_in bs)) more
          (scan_up bytes (c.loop-place.place + 1) behind branch.separator scan)) c.loop-place.invariant.1),
    )

pub overflow_sub-result : goal.overflow_sub-result
overflow_sub-result c =
    let len = scan_len c.args.bytes.now c.loop-place.place c.loop-place.rest.now
    c.loop-place.last.now c.loop-place.invariant.0 in
    omega (arith, len)

pub returns : goal.returns
returns c =
    let bytes = c.args.bytes.now in
    let scan = c.loop-place.invariant.0 in
    let end : c.loop-place.place ≡ c.args.count =
    omega (arith, c.loop-place-test.false, c.loop-place.auto.place-end c.requires) in
    let len = scan_len bytes c.loop-place.place c.loop-place.rest.now c.loop-place.last.now scan in (
      subst (λ (n : ℕ). HoldsAscending n bytes) end
          (scanned_all branch_format separator_of bytes c.loop-place.place c.loop-place.rest.now
          c.loop-place.last.now scan),
      subst (λ (n : ℕ). IsWay c.args.first (branches_in n bytes) c.args.key.now c.loop-place.way.place
          c.loop-place.way.child) end c.loop-place.invariant.1,
      (let n : length bytes - length c.loop-place.rest.now
          ≡ sum_by branch_len (branches_in c.loop-place.place bytes) = omega (arith, len) in
          n ∙ ap (λ (n : ℕ). sum_by branch_len (branches_in n bytes)) end),
    )
