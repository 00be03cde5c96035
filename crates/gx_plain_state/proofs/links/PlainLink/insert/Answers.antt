use Rattle.gx_plain_state.proofs.MapLemmas.{put_sorted, put_view}
use Rattle.gx_plain_state.proofs.links.PlainLink.insert.Goals as goal

pub invariant_of-self : goal.invariant_of-self
invariant_of-self c = put_sorted c.put_pair.result _ _ _ _ c.self.invariant c.put_pair.ensures.ok
    c.put_pair.ensures.err

pub returns : goal.returns
returns c = put_view c.put_pair.result _ _ _ _ _ c.self.invariant c.self.view_is
    c.put_pair.ensures.ok
