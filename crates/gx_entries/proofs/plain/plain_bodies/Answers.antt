use Rattle.std.proofs.Common.{◌∙◌, length, ap, sym}
use Rattle.gx_mapping.proofs.FieldLemmas.{fit_length}
use Rattle.gx_entries.proofs.plain.plain_bodies.Goals as goal

pub plain_body-requires-clause-long : goal.plain_body-requires-clause-long
plain_body-requires-clause-long c =
    c.mask-mask.ensures.long ∙ fit_length _ c.args.values.now c.requires.fit
    ∙ sym (ap length (c.deref.ensures.value ∙ c.values.view_is))

pub plain_body-requires-2-clause-long : goal.plain_body-requires-2-clause-long
plain_body-requires-2-clause-long c =
    c.mask-mask.ensures.long ∙ fit_length _ c.args.values.now c.requires.fit
    ∙ sym (ap length (c.deref-2.ensures.value ∙ c.values.view_is))
