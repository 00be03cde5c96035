use Rattle.gx_scan.proofs.OnePlaceLemmas.{values_read}
use Rattle.gx_scan.proofs.scan.read_values.Goals as goal

pub returns-clause-read : goal.returns-clause-read
returns-clause-read c = λ r fit is.
    values_read c.args.file.now c.data_fields.result.now c.args.body.now r c.read_body.result
    c.requires
    c.data_fields.ensures fit is c.read_body.ensures
