use Rattle.std.proofs.Common.{◌<◌, ◌+◌, ◌∙◌, List, Err, ap, sym, subst, length, get_or, arith}
use Rattle.std.proofs.lemmas.Result.{err_from_is_err_and}
use Rattle.gx_values.specs.declared.records.Rec.{Rec}
use Rattle.gx_gather.proofs.Each.{AreEachUpTo, next_in, next_replaced, all_replaced}
use Rattle.gx_gather.proofs.gather.gather_each.Goals.{then-not-is_own_part+in_ok-gather_in_place, else-not-is_own_part}
use Rattle.gx_gather.proofs.gather.gather_each.Goals as goal

pub is_own_part-requires : goal.is_own_part-requires
is_own_part-requires g c =
    let at = c.loop-rec in
    let q = get_or at.recs at.rec-index c.rec-item.result in
    c.requires q (next_in (g.M.Mapping.rule c.args.mapping.now) c.args.child at.rec-index
    c.args.recs.now at.recs c.rec-item.result (omega arith) at.invariant)

pub gather_in_place-requires : goal.gather_in_place-requires
gather_in_place-requires g c =
    let at = c.loop-rec in
    let q = get_or at.recs at.rec-index c.rec-item.result in
    c.requires q (next_in (g.M.Mapping.rule c.args.mapping.now) c.args.child at.rec-index
    c.args.recs.now at.recs c.rec-item.result (omega arith) at.invariant)

pub returns-in_err-gather_in_place-clause-damaged
    : goal.returns-in_err-gather_in_place-clause-damaged
returns-in_err-gather_in_place-clause-damaged g c = λ block e.
    let at = c.loop-rec in
    let q = get_or at.recs at.rec-index c.rec-item.result in
    let p = err_from_is_err_and c.from_residual.result c.from_residual.ensures.1 in (
      q,
      next_in (g.M.Mapping.rule c.args.mapping.now) c.args.child at.rec-index c.args.recs.now
          at.recs c.rec-item.result (omega arith) at.invariant,
      c.in_err-gather_in_place.ensures.damaged block (sym (p.1 ∙ ap Err p.2) ∙ e),
    )

pub loop-rec-preserved : goal.loop-rec-preserved
loop-rec-preserved g c =
    let rule = g.M.Mapping.rule c.args.mapping.now in
    let child = c.args.child in
    let given = c.args.recs.now in
    let at = c.loop-rec in
    let d = c.rec-item.result in
    let lt : at.rec-index < length at.recs = omega arith in
    elim c.if-not-is_own_part.branch [
      | then-not-is_own_part+in_ok-gather_in_place w ↦ subst
          (λ (rs : List Rec). AreEachUpTo rule child (at.rec-index + 1) given rs) (sym w.recs-is)
          (next_replaced rule child at.rec-index given at.recs d w.gather_in_place.new.rec lt
          at.invariant w.in_ok-gather_in_place.ensures.made)
      | else-not-is_own_part w ↦ subst
          (λ (rs : List Rec). AreEachUpTo rule child (at.rec-index + 1) given rs) (sym w.recs-is)
          (next_replaced rule child at.rec-index given at.recs d (get_or at.recs at.rec-index d) lt
          at.invariant (c.is_own_part.ensures w.if-not-is_own_part.false))
    ]

pub returns-clause-made : goal.returns-clause-made
returns-clause-made g c =
    let at = c.loop-rec in
    all_replaced (g.M.Mapping.rule c.args.mapping.now) c.args.child at.rec-index c.args.recs.now
    at.recs (omega arith) at.invariant
