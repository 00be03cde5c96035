use Rattle.std.proofs.Common.{◌∙◌, inl, inr, sym, ap, subst, arith}
use Rattle.std.proofs.lemmas.List.{take_all}
use Rattle.gx_gather.proofs.Lists.{in_more}
use Rattle.gx_scan.specs.declared.places.Place.{Place}
use Rattle.gx_scan.specs.Columns.{ArePlainColumns}
use Rattle.gx_scan.proofs.columns.are_plain.Goals as goal

pub loop-place-init : goal.loop-place-init
loop-place-init c = λ p h. absurd h

pub loop-place-preserved : goal.loop-place-preserved
loop-place-preserved c = λ q h.
    let p : Place = c.place-item.result in
    elim (in_more c.args.places.now c.loop-place.place-index p q c.loop-place-test.true h) [
      | inl before ↦ c.loop-place.invariant q before
      | inr last ↦ ap (λ (x : Place). x.codes) (last ∙ sym c.place-item.is)
          ∙ c.is_empty.ensures.yes c.if-not-is_empty.false
    ]

pub returns : goal.returns
returns c = λ yes. subst ArePlainColumns
    (take_all c.loop-place.place-index c.args.places.now (omega (arith, c.loop-place-test.false)))
    c.loop-place.invariant
