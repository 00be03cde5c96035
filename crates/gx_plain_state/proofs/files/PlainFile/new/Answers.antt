use Rattle.gx_plain_state.proofs.MapLemmas.{empty_view}
use Rattle.gx_plain_state.proofs.files.PlainFile.new.Goals as goal

pub returns : goal.returns
returns c = empty_view _ c.new.ensures.items
