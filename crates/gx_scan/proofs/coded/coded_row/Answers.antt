use Rattle.std.proofs.Common.{◌∙◌, Some, get_or, sym, subst, ap}
use Rattle.std.proofs.lemmas.Option.{same_Some}
use Rattle.gx_schema.specs.declared.schema.FileDef.{FileDef}
use Rattle.gx_values.specs.Keys.{bytes_of}
use Rattle.gx_values.specs.Written.{IsRead}
use Rattle.gx_scan.proofs.EntryLemmas.{kind_is, key_read}
use Rattle.gx_scan.proofs.coded.coded_row.Goals as goal

pub returns-clause-read : goal.returns-clause-read
returns-clause-read c = λ r fit key_is body_is.
    let file = c.args.file.now in
    let kind = c.index.result.now.kind in
    let read = subst (IsRead bytes_of kind c.args.key.now) c.in-Some.is c.in_ok-key.ensures in
    let key = key_read file kind c.args.key.now c.in-Some.key r c.requires
    (kind_is file c.index.result.now c.requires
    (c.index.ensures ∙ ap (λ (f : FileDef). get_or f.fields 0 c.index.result.now) c.file.view_is))
    key_is read fit.0 in
    let values = same_Some c.in-Some-2.values r.1
    (sym c.in-Some-2.is ∙ c.in_ok-values.ensures.read r fit body_is) in
    λ j. Some (key j, values j)
