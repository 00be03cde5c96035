use Rattle.std.proofs.Common.{rules, ◌≡◌, ◌<◌, ◌∙◌, inl, inr, Ok, Err, length, get_or, sym, ap, subst}
use Rattle.std.proofs.lemmas.Result.{err_from_is_err_and}
use Rattle.gx_ports.specs.declared.stop.Stop.TheVariants as stop
use Rattle.gx_mapping.specs.Rule.{In}
use Rattle.gx_gather.proofs.Lists.{in_more, in_read}
use Rattle.gx_lists.specs.Arrays.{WithoutMember}
use Rattle.gx_lists.proofs.ArrayChanges.{first_value}
use Rattle.gx_lists.proofs.arrays.owner_among.Goals as goal

pub returns-in_err-has_member-clause-damaged : goal.returns-in_err-has_member-clause-damaged
returns-in_err-has_member-clause-damaged c = λ n e.
    let xs = c.args.found.now in
    let i = c.loop-rec.rec-index in
    let x = c.rec-item.result in
    let read : x ≡ get_or xs i x = search rules in
    let lt : i < length xs = search rules in
    let p = err_from_is_err_and c.from_residual.result c.from_residual.ensures.1 in
    let both = sym p.1 ∙ e in
    let why : p.0 ≡ stop.Damaged n = cc in
    (x, in_read xs i x read lt, c.in_err-has_member.ensures.damaged n (ap Err (sym p.2 ∙ why)))

pub index-requires : goal.index-requires
index-requires c =
    let xs = c.args.found.now in
    let i = c.loop-rec.rec-index in
    let x = c.rec-item.result in
    let read : x ≡ get_or xs i x = search rules in
    let lt : i < length xs = search rules in
    let some : 0 < length x.key = c.requires.some x (in_read xs i x read lt) in
    search rules

pub returns-then-branch-clause-among : goal.returns-then-branch-clause-among
returns-then-branch-clause-among c =
    let xs = c.args.found.now in
    let i = c.loop-rec.rec-index in
    let x = c.rec-item.result in
    let read : x ≡ get_or xs i x = search rules in
    let lt : i < length xs = search rules in
    let there : In x xs = in_read xs i x read lt in
    let first = first_value x.key c.index.result.now (c.requires.some x there) (search rules) in (
      x,
      there,
      first ∙ sym c.in_ok-copy.ensures,
      c.in_ok-has_member.ensures.yes (ap Ok c.if-branch.true),
    )

pub loop-rec-preserved : goal.loop-rec-preserved
loop-rec-preserved c = λ r h.
    let xs = c.args.found.now in
    let i = c.loop-rec.rec-index in
    let x = c.rec-item.result in
    let read : x ≡ get_or xs i x = search rules in
    let lt : i < length xs = search rules in
    elim (in_more xs i x r lt h) [
      | inl a ↦ c.loop-rec.invariant r a
      | inr is ↦ subst (λ y. WithoutMember c.args.kind y c.args.member.now) (read ∙ sym is)
          (c.in_ok-has_member.ensures.no (ap Ok c.if-branch.false))
    ]
