use Rattle.std.proofs.Common.{◌∙◌}
use Rattle.gx_memory_leaves.proofs.FrontLemmas.{short_front}
use Rattle.gx_memory_leaves.proofs.short.Short.front.Goals as goal

pub returns : goal.returns
returns g c = c.front.ensures
    ∙ short_front g.row.ROOM c.self.inside.len c.self.inside.bytes c.args.self.now
    c.self.invariant.0 c.self.invariant.1 c.self.view_is
