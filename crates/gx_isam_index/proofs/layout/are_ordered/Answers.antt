use Rattle.std.proofs.Common.{◌≡◌, ◌+◌, ◌-◌, refl, sym, ap, subst, ◌∙◌, arith, Some}
use Rattle.std.specs.Prelude.{slice_get}
use Rattle.std.specs.Ordering.{is_lt}
use Rattle.std.proofs.lemmas.Bool.{false≢true}
use Rattle.gx_ports.specs.declared.leaves.Entry.{Entry as LeafEntry}
use Rattle.gx_isam_index.proofs.LayoutLemmas.{ordered_all}
use Rattle.gx_isam_index.proofs.layout.are_ordered.Goals as goal

pub returns-then-not-fits_page : goal.returns-then-not-fits_page
returns-then-not-fits_page c =
    let e : LeafEntry = record {
      key = c.entry-entry.result.key.now;
      body = c.entry-entry.result.body.now;
    } in (
      λ bad. absurd (false≢true bad),
      λ o. absurd
          (false≢true (sym c.if-not-fits_page.true
          ∙ c.fits_page.ensures.1 (o.fit c.loop-i.i e c.entry-entry.ensures))),
    )

pub returns-then-not-is_below : goal.returns-then-not-is_below
returns-then-not-is_below c =
    let i = c.loop-i.i in
    let low = c.if-i-gt0.true in
    let d : LeafEntry = record { key = c.entry.result.key.now; body = c.entry.result.body.now } in
    let e : LeafEntry = record {
      key = c.entry-entry.result.key.now;
      body = c.entry-entry.result.body.now;
    } in
    let here = subst (λ n. slice_get c.args.entries.now n ≡ Some e) (let s : i ≡ i - 1 + 1 =
    omega (arith, low) in s)
    c.entry-entry.ensures in (
      λ bad. absurd (false≢true bad),
      λ o. absurd
          (false≢true (sym c.if-not-is_below.true ∙ c.is_below.ensures
          ∙ ap is_lt (o.ascending (i - 1) d e c.entry.ensures here))),
    )

pub returns : goal.returns
returns c =
    let end : c.loop-i.i ≡ _ =
    omega (arith, c.loop-i-test.false, c.loop-i.auto.i-end, c.len-i-end.ensures) in
    (λ _. ordered_all c.args.entries.now c.loop-i.i end c.loop-i.invariant, λ _. refl)
