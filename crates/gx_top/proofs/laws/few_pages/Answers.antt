use Rattle.gx_operations.proofs.SpaceLemmas.{few_for_maps, few_for_state}
use Rattle.gx_top.proofs.laws.few_pages.Goals as goal

pub returns-clause-maps : goal.returns-clause-maps
returns-clause-maps c g content maps of opened =
    few_for_maps g c.args.stored.now of c.requires maps opened.0 opened.2

pub returns-clause-state : goal.returns-clause-state
returns-clause-state c g content s of held =
    few_for_state g c.args.stored.now of c.requires s held.0 held.2
