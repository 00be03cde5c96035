use Rattle.std.proofs.Common.{◌∙◌, get_or}
use Rattle.gx_linksets.proofs.StoredLemmas.{stored_at}
use Rattle.gx_linksets.proofs.stored.link_nodes.Goals as goal

pub returns : goal.returns
returns c = stored_at c.args.built.now.links c.args.link c.index.result.now c.requires
    (c.index.ensures ∙ (λ i. get_or (c.built.view_is i).links
    (c.from.ensures i) c.index.result.now))
