use Rattle.gx_commands.specs.Lines.{script_lines}
use Rattle.gx_model.specs.Play.{start_at}
use Rattle.gx_top.proofs.FormedLemmas.{text_formed}
use Rattle.gx_top.proofs.PlayedLemmas.{some_play}
use Rattle.gx_top.proofs.laws.each_script_is_played.Goals as goal

pub returns : goal.returns
returns c texts a g start script given =
    some_play g.schema (text_formed given.0 g.schema given.3.read.schema_means) (start_at start)
    (script_lines script)
