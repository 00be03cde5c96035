use Rattle.gx_plain_state.proofs.MapLemmas.{put_sorted, put_view}
use Rattle.gx_plain_state.proofs.files.PlainFile.insert.Goals as goal

pub invariant_of-self : goal.invariant_of-self
invariant_of-self c = put_sorted c.put_row.result _ _ _ _ c.self.invariant c.put_row.ensures.ok
    c.put_row.ensures.err

pub returns : goal.returns
returns c = put_view c.put_row.result _ _ _ _ _ c.self.invariant c.self.view_is c.put_row.ensures.ok
