use Rattle.std.proofs.Common.{◌≡◌, ◌∙◌, Some, get_or, sym, subst, ap}
use Rattle.std.proofs.lemmas.Option.{same_Some}
use Rattle.gx_schema.specs.declared.schema.FileDef.{FileDef}
use Rattle.gx_schema.specs.Lookups.{data_fields}
use Rattle.gx_values.specs.Values.{AreFit}
use Rattle.gx_values.specs.Keys.{bytes_of}
use Rattle.gx_values.specs.Written.{IsRead}
use Rattle.gx_scan.proofs.EntryLemmas.{kind_is, key_read}
use Rattle.gx_scan.proofs.joined.joined_row.Goals as goal

pub returns-clause-read : goal.returns-clause-read
returns-clause-read c = λ r fit key_is first_is others_is.
    let kind = kind_is c.args.file.now c.index.result.now c.requires.storable (c.index.ensures
    ∙ ap (λ (f : FileDef). get_or f.fields 0 c.index.result.now) c.file.view_is) in
    let read = subst (IsRead bytes_of c.index.result.now.kind c.args.key.now) c.in-Some.is
    c.in_ok-key.ensures in
    let key : c.in-Some.key ≡ r.0 = key_read c.args.file.now c.index.result.now.kind
    c.args.key.now c.in-Some.key r c.requires.storable kind key_is read fit in
    let found = c.in_ok-values.ensures.read r.1
    (subst (λ fs. AreFit fs r.1) (sym c.data_fields.ensures) fit.1) (tt, first_is) (tt, others_is) in
    let values = same_Some c.in-Some-2.values r.1 (sym c.in-Some-2.is ∙ found) in
    λ j. Some (key j, values j)
