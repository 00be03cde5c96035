use Rattle.std.proofs.Common.{◌∙◌, get_or, subst, ap}
use Rattle.gx_schema.specs.declared.schema.FileDef.{FileDef}
use Rattle.gx_values.specs.Keys.{bytes_of}
use Rattle.gx_values.specs.Written.{AreRead, IsRead}
use Rattle.gx_actual.specs.Bodies.{field_bytes}
use Rattle.gx_scan.proofs.EntryLemmas.{kind_is, row_read}
use Rattle.gx_scan.proofs.scan.read_row.Goals as goal

pub returns-clause-read : goal.returns-clause-read
returns-clause-read c r fit key_is body_is =
    let key = subst (IsRead bytes_of c.index.result.now.kind c.args.key.now) c.in-Some.is
    c.in_ok-key.ensures in
    let values = subst (AreRead field_bytes c.data_fields.result.now c.args.body.now) c.in-Some-2.is
    c.in_ok-values.ensures in
    row_read c.args.file.now c.index.result.now.kind c.args.key.now c.args.body.now
    c.data_fields.result.now c.in-Some.key c.in-Some-2.values r c.requires
    (kind_is c.args.file.now c.index.result.now c.requires (c.index.ensures
    ∙ ap (λ (f : FileDef). get_or f.fields 0 c.index.result.now) c.file.view_is))
    c.data_fields.ensures key_is body_is key values fit
