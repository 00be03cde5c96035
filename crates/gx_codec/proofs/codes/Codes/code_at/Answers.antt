use Rattle.std.proofs.Common.{◌∙◌, length, get_or, ap, arith}
use Rattle.gx_codec.proofs.StoredLemmas.{code_read, code_past}
use Rattle.gx_codec.proofs.codes.Codes.code_at.Goals as goal

pub returns-then-field-len : goal.returns-then-field-len
returns-then-field-len c =
    code_read c.args.self.now c.args.field c.index.result.now
    (omega (arith, c.if-field-len.true, c.len.ensures, ap length c.self.view_is))
    (c.index.ensures ∙ ap (λ l. get_or l c.args.field c.index.result.now) c.self.view_is)

pub returns-else-field-len : goal.returns-else-field-len
returns-else-field-len c =
    code_past c.args.self.now c.args.field
    (omega (arith, c.if-field-len.false, c.len.ensures, ap length c.self.view_is))
