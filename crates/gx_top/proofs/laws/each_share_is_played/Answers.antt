use Rattle.gx_top.proofs.FormedLemmas.{text_formed}
use Rattle.gx_top.proofs.SharedLemmas.{some_share}
use Rattle.gx_top.proofs.laws.each_share_is_played.Goals as goal

pub returns : goal.returns
returns c texts a g start script given =
    some_share g.schema (text_formed given.0 g.schema given.3.read.schema_means) start script
