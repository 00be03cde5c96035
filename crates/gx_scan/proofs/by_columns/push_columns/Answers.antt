use Rattle.std.proofs.Common.{◌≡◌, ◌++◌, ◌∙◌, ◌∷◌, [], get_or, refl, sym, ap, subst, arith, append-nil}
use Rattle.std.specs.Prelude.{IsSomeAnd}
use Rattle.std.proofs.lemmas.List.{take_all}
use Rattle.gx_actual.specs.Bodies.{body_of}
use Rattle.gx_gather.proofs.Lists.{in_read}
use Rattle.gx_scan.specs.declared.places.Place.{Place}
use Rattle.gx_scan.proofs.ColumnSteps.{entry_there, value_pushed}
use Rattle.gx_scan.proofs.by_columns.push_columns.Goals as goal
use Rattle.gx_values.specs.Values.{no_value}

pub loop-column-init : goal.loop-column-init
loop-column-init c = λ rs r are there key long. sym (append-nil c.args.body.now.items)

pub column_value-requires : goal.column_value-requires
column_value-requires c =
    let p : Place = c.index-places-column.result in
    c.requires.plain p (in_read c.args.places.now c.loop-column.column p c.index-places-column.is
    c.loop-column-test.true)

pub returns-in_default : goal.returns-in_default
returns-in_default c = λ rs r are there key long.
    let i = c.loop-column.column in
    let p : Place = c.index-places-column.result in
    let entry = entry_there c.args.places.now c.args.columns.now rs c.args.index r i p
    c.index-columns-column.result are there c.loop-column-test.true c.index-places-column.is
    c.index-columns-column.is in
    absurd (subst (λ o. IsSomeAnd o (λ value. value.now ≡ body_of (get_or r.1 i no_value ∷ [])))
    c.in_default.is (c.column_value.ensures i r entry key))

pub loop-column-preserved : goal.loop-column-preserved
loop-column-preserved c = λ rs r are there key long.
    let i = c.loop-column.column in
    let p : Place = c.index-places-column.result in
    let entry = entry_there c.args.places.now c.args.columns.now rs c.args.index r i p
    c.index-columns-column.result are there c.loop-column-test.true c.index-places-column.is
    c.index-columns-column.is in
    let value = subst (λ o. IsSomeAnd o
    (λ value. value.now ≡ body_of (get_or r.1 i no_value ∷ []))) c.in-Some.is
    (c.column_value.ensures i r entry key) in
    value_pushed r.1 i c.args.body.now.items c.loop-column.body.items _ c.in-Some.value.now
    (omega (arith, c.loop-column-test.true, long))
    (c.loop-column.invariant rs r are there key long) value
    c.in_ok-extend_from_slice.ensures.items

pub returns : goal.returns
returns c = λ rs r are there key long. (
  refl,
  c.loop-column.invariant rs r are there key long
      ∙ ap (λ l. c.args.body.now.items ++ body_of l) (take_all c.loop-column.column r.1
      (omega (arith, c.loop-column-test.false, long))),
)
