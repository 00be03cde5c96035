use Rattle.std.proofs.Common.{◌∙◌}
use Rattle.gx_mapping.proofs.FieldLemmas.{fit_length}
use Rattle.gx_entries.proofs.groups.two_groups.Goals as goal

pub grouped-requires : goal.grouped-requires
grouped-requires c = c.mask.ensures.long ∙ fit_length _ c.args.values c.requires
